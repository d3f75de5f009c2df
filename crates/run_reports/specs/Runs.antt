-- What a run is given, and what it leaves.
use Rattle.std.specs.Prelude.{◌≡◌, ℕ, List}
use Rattle.std.specs.Io.KnownBytes.{Appends}
use Rattle.airy_io.specs.Causes.{Giving, Taking}
use Rattle.run_reports.specs.Report.{Report}

-- what a run is given, and what it leaves
pub record Run : Type 0 where
  pub words : List (List ℕ)
  pub source_before : Giving
  pub source_after : Giving
  pub sink_before : Taking
  pub sink_after : Taking
  pub status : ℕ

abbrev pub run_of : List (List ℕ) → Giving → Giving → Taking → Taking → ℕ → Run
run_of words source source' sink sink' status = record {
  words = words;
  source_before = source;
  source_after = source';
  sink_before = sink;
  sink_after = sink';
  status = status;
}

-- the status and the bytes are those of the report
abbrev pub Gives : Run → Report → Type 0
Gives run report = (run.status ≡ report.status) × Appends run.sink_before.taken run.sink_after.taken report.bytes
