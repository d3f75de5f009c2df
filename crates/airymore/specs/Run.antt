-- What a run promises.
use Rattle.std.specs.Prelude.{◌≡◌, false}
use Rattle.command_words.specs.Words.{Named, Text}
use Rattle.command_words.specs.Bounds.{is_bound}
use Rattle.airy_json.specs.Reading.{named}
use Rattle.more_words.specs.MoreWords.{Reading, Curve, CurveRelations, Brackets, Quick, Json, Verify, Refused, reading_of}
use Rattle.run_reports.specs.Report.{Report, word_refused}
use Rattle.run_reports.specs.Leads.{LeadsFromText, LeadsWithBound}
use Rattle.run_reports.specs.Runs.{Run}
use Rattle.run_reports.specs.Promises.{AnswersBy}
use Rattle.airymore.specs.Brackets.{LeadsToBrackets}
use Rattle.airymore.specs.Curves.{LeadsToCurve, LeadsToCurveRelations}
use Rattle.airymore.specs.Documents.{LeadsToDocument, LeadsToTextDocument, json_report}
use Rattle.airymore.specs.Quick.{LeadsToQuick}
use Rattle.airymore.specs.Verify.{LeadsFromDocument}

-- the reports that a reading of the words may lead to
abbrev pub Leads : Reading → Run → Report → Type 0
Leads (Curve X workers us) run report = LeadsToCurve us X report
Leads (CurveRelations N us) run report = LeadsToCurveRelations us N report
Leads Brackets run report = LeadsFromText LeadsToBrackets run.source_before run.source_after report
Leads (Quick X workers) run report = LeadsWithBound X (LeadsToQuick X) run.source_before run.source_after report
Leads (Json (Named family) X workers) run report = LeadsToDocument (named family) X (json_report (named family) X) report
Leads (Json Text X workers) run report = LeadsWithBound X (LeadsToTextDocument X) run.source_before run.source_after report
Leads Verify run report = LeadsFromDocument run.source_before run.source_after report
Leads (Refused place) run report = report ≡ word_refused place

-- words that ask for no text, or for a bound that is refused before one is read
abbrev pub AsksForNoText : Reading → Type 0
AsksForNoText (Curve X workers us) = Unit {0}
AsksForNoText (CurveRelations N us) = Unit {0}
AsksForNoText Brackets = ⊥
AsksForNoText (Quick X workers) = is_bound X ≡ false
AsksForNoText (Json (Named family) X workers) = Unit {0}
AsksForNoText (Json Text X workers) = is_bound X ≡ false
AsksForNoText Verify = ⊥
AsksForNoText (Refused place) = Unit {0}

-- The answers of a run have their causes, and its status and bytes are those of a report that its words may lead to.
abbrev pub Answers : Run → Type 0
Answers run = AnswersBy (Leads (reading_of run.words) run) (AsksForNoText (reading_of run.words)) run
