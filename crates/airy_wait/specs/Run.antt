-- What a run promises, if it returns.
use Rattle.std.specs.Prelude.{◌≡◌, false}
use Rattle.command_words.specs.Bounds.{is_bound}
use Rattle.command_words.specs.Words.{Named, Text}
use Rattle.run_reports.specs.Report.{Report, word_refused}
use Rattle.run_reports.specs.Leads.{LeadsWithBound}
use Rattle.run_reports.specs.Runs.{Run}
use Rattle.run_reports.specs.Promises.{AnswersBy}
use Rattle.airy_wait.specs.Words.{Reading, Waiting, Refused, reading_of}
use Rattle.airy_wait.specs.Waiting.{LeadsToClosedWaiting, LeadsToFamilyWaiting}

-- the reports that a reading of the words may lead to
abbrev pub Leads : Reading → Run → Report → Type 0
Leads (Waiting (Named family) X workers callers keys) run report = LeadsToFamilyWaiting family X keys report
Leads (Waiting Text X workers callers keys) run report =
    LeadsWithBound X (LeadsToClosedWaiting X keys) run.source_before run.source_after report
Leads (Refused place) run report = report ≡ word_refused place

-- words that ask for no text, or for a bound that is refused before one is read
abbrev pub AsksForNoText : Reading → Type 0
AsksForNoText (Waiting (Named family) X workers callers keys) = Unit {0}
AsksForNoText (Waiting Text X workers callers keys) = is_bound X ≡ false
AsksForNoText (Refused place) = Unit {0}

-- The answers of a run have their causes, and its status and bytes are those of a report that its words may lead to.
abbrev pub Answers : Run → Type 0
Answers run = AnswersBy (Leads (reading_of run.words) run) (AsksForNoText (reading_of run.words)) run
