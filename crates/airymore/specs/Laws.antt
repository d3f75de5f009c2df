-- What the answers of a run come to: the exact cause of each status, and completeness.
use Rattle.std.specs.Prelude.{◌≡◌, ℕ, cond, IsTrue, List}
use Rattle.command_words.specs.Bounds.{is_bound}
use Rattle.command_words.specs.Words.{Named, Text}
use Rattle.airy_json.specs.Reading.{named}
use Rattle.more_words.specs.MoreWords.{Reading, Curve, CurveRelations, Brackets, Quick, Json, Verify, Refused, reading_of}
use Rattle.run_reports.specs.Report.{Report, word_refused, bound_refused, out_of_memory}
use Rattle.run_reports.specs.Leads.{of_text}
use Rattle.run_reports.specs.Runs.{Run, Gives}
use Rattle.run_reports.specs.Promises.{HasCausesBy, IsCompleteBy}
use Rattle.airymore.specs.Brackets.{brackets_report}
use Rattle.airymore.specs.Curves.{curve_report, curve_relations_report}
use Rattle.airymore.specs.Documents.{json_report, text_document}
use Rattle.airymore.specs.Quick.{quick_report}
use Rattle.airymore.specs.Verify.{verify_report}

-- What the words and the text of the source mean, where neither end fails and memory isn't wanting: the line of the first step that
-- refuses, or the whole output.
unfoldable pub meant : Reading → List ℕ → Report
meant (Curve X workers us) text = curve_report us X
meant (CurveRelations N us) text = curve_relations_report us N
meant Brackets text = of_text brackets_report text
meant (Quick X workers) text = cond (is_bound X) (of_text (quick_report X) text) (bound_refused X)
meant (Json (Named family) X workers) text = json_report (named family) X
meant (Json Text X workers) text = cond (is_bound X) (of_text (text_document X) text) (bound_refused X)
meant Verify text = verify_report text
meant (Refused place) text = word_refused place

-- what is meant by the words of a run with a text
abbrev pub Means : Run → List ℕ → Report → Type 0
Means run text report = report ≡ meant (reading_of run.words) text

-- a job that takes memory: none does where a word or the bound is refused
abbrev pub TakesMemory : Reading → Type 0
TakesMemory (Curve X workers us) = IsTrue (is_bound X)
TakesMemory (CurveRelations N us) = Unit {0}
TakesMemory Brackets = Unit {0}
TakesMemory (Quick X workers) = IsTrue (is_bound X)
TakesMemory (Json kind X workers) = IsTrue (is_bound X)
TakesMemory Verify = Unit {0}
TakesMemory (Refused place) = ⊥

-- Each status of a run has its cause.
abbrev pub HasCauses : Run → Type 0
HasCauses run = HasCausesBy (Means run) (TakesMemory (reading_of run.words)) (λ place. reading_of run.words ≡ Refused place) run

-- memory is wanting, where it is taken
abbrev pub LacksMemory : Run → Type 0
LacksMemory run = TakesMemory (reading_of run.words) × Gives run out_of_memory

-- Completeness: where neither end fails, the run gives what is meant, or, behind the words and the bound, says that memory is wanting.
abbrev pub IsComplete : Run → Type 0
IsComplete run = IsCompleteBy (Means run) (LacksMemory run) run
