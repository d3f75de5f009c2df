-- What a run promises, whatever its program's words are: the causes of its answers, and completeness.
use Rattle.std.specs.Prelude.{◌≡◌, ◌≢◌, ◌⊎◌, ℕ, ◌<◌, ◌≤◌, List, Some}
use Rattle.std.specs.Io.KnownBytes.{Appends}
use Rattle.airy_io.specs.Causes.{Rose, AppendsPrefix}
use Rattle.run_reports.specs.Report.{Report}
use Rattle.run_reports.specs.Runs.{Run, Gives}

-- `leads` are the reports that the words may lead to; `no_text` says that they ask for no text, or for a bound that is refused before one
-- is read.
pub record AnswersBy (leads : Report → Type 0) (no_text : Type 0) (run : Run) : Type 0 where
  -- 8 and 9 have their causes
  pub read_cause : run.status ≡ 8 → Rose run.source_before.faults run.source_after.faults
  pub write_cause : run.status ≡ 9 → Rose run.sink_before.faults run.sink_after.faults
  -- a fault is never passed over
  pub read_seen : run.source_before.faults < run.source_after.faults → 8 ≤ run.status
  pub write_seen : run.sink_before.faults < run.sink_after.faults → run.status ≡ 9
  -- a job without a text leaves the source alone
  pub untouched : no_text → run.source_after ≡ run.source_before
  -- the status and the bytes are those of a report
  pub told : run.status ≢ 9 → (report : Report) × leads report
      × (run.status ≡ report.status) × Appends run.sink_before.taken run.sink_after.taken report.bytes
  pub cut : run.status ≡ 9 → (report : Report) × leads report
      × AppendsPrefix run.sink_before.taken run.sink_after.taken report.bytes

-- `means` are the reports that the words mean with a text, where neither end fails and memory isn't wanting. There is a text, which is the
-- source's where it tells its bytes, and the status and the bytes are those of a report that is meant with it. A job that reads no text
-- does not look at it.
pub record GivesBy (means : List ℕ → Report → Type 0) (run : Run) : Type 0 where
  pub text : List ℕ
  pub told : (source : List ℕ) → run.source_before.left ≡ Some source → text ≡ source
  pub report : Report
  pub meant : means text report
  pub gives : Gives run report

-- a status that a run answers
abbrev pub IsInRange : ℕ → Type 0
IsInRange n = (n ≡ 0) ⊎ ((2 ≤ n) × (n ≤ 10))

-- Each status of a run has its cause; `takes` says that the words ask for a job that takes memory, `refused` which word is refused.
pub record HasCausesBy (means : List ℕ → Report → Type 0) (takes : Type 0) (refused : ℕ → Type 0) (run : Run) : Type 0 where
  -- it is 0, or one from 2 to 10
  pub range : IsInRange run.status
  -- an end that failed
  pub of_source : run.status ≡ 8 → Rose run.source_before.faults run.source_after.faults
  pub of_sink : run.status ≡ 9 → Rose run.sink_before.faults run.sink_after.faults
  -- want of memory, which comes only where memory is taken
  pub of_memory : run.status ≡ 10 → takes
  -- a word that is refused, and nothing else
  pub of_word : run.status ≡ 2 → (place : ℕ) × refused place
  -- every other status comes with its bytes exactly where they are what is meant
  pub of_job : run.status ≢ 8 → run.status ≢ 9 → run.status ≢ 10 → GivesBy means run

-- Completeness: where neither end fails, the run gives what is meant, or memory is wanting.
abbrev pub IsCompleteBy : (List ℕ → Report → Type 0) → Type 0 → Run → Type 0
IsCompleteBy means wanting run =
    (Rose run.source_before.faults run.source_after.faults → ⊥) → (Rose run.sink_before.faults run.sink_after.faults → ⊥)
    → GivesBy means run ⊎ wanting
