-- What the answers of a run come to: the exact cause of each status, and completeness.
use Rattle.std.specs.Prelude.{◌≡◌, ℕ, cond, IsTrue, List}
use Rattle.command_words.specs.Bounds.{is_bound}
use Rattle.command_words.specs.Words.{Named, Text}
use Rattle.run_reports.specs.Report.{Report, word_refused, bound_refused, out_of_memory}
use Rattle.run_reports.specs.Leads.{of_text}
use Rattle.run_reports.specs.Runs.{Run, Gives}
use Rattle.run_reports.specs.Promises.{HasCausesBy, IsCompleteBy}
use Rattle.run_reports.specs.StructureTables.{structure_of}
use Rattle.airy_wait.specs.Words.{Reading, Waiting, Refused, reading_of}
use Rattle.airy_wait.specs.Waiting.{closed_waiting, waiting_report}

-- What the words and the text of the source mean, where neither end fails and memory isn't wanting: the line of the first step that
-- refuses, or the lines of the replies. How many workers and callers there are doesn't matter.
unfoldable pub meant : Reading → List ℕ → Report
meant (Waiting (Named family) X workers callers keys) text = waiting_report (structure_of family) X keys
meant (Waiting Text X workers callers keys) text = cond (is_bound X) (of_text (closed_waiting X keys) text) (bound_refused X)
meant (Refused place) text = word_refused place

-- what is meant by the words of a run with a text
abbrev pub Means : Run → List ℕ → Report → Type 0
Means run text report = report ≡ meant (reading_of run.words) text

-- a job that takes memory: none does where a word or the bound is refused
abbrev pub TakesMemory : Reading → Type 0
TakesMemory (Waiting kind X workers callers keys) = IsTrue (is_bound X)
TakesMemory (Refused place) = ⊥

-- Each status of a run has its cause.
abbrev pub HasCauses : Run → Type 0
HasCauses run = HasCausesBy (Means run) (TakesMemory (reading_of run.words)) (λ place. reading_of run.words ≡ Refused place) run

-- memory is wanting, where it is taken
abbrev pub LacksMemory : Run → Type 0
LacksMemory run = TakesMemory (reading_of run.words) × Gives run out_of_memory

-- Completeness: where neither end fails, the run gives what is meant, or, behind the words and the bound, says that memory is wanting.
abbrev pub IsComplete : Run → Type 0
IsComplete run = IsCompleteBy (Means run) (LacksMemory run) run
