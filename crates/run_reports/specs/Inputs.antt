-- A bound and the text behind it, as they are read.
use Rattle.std.specs.Prelude.{◌≡◌, ℕ, true, false, Result, Ok, Err}
use Rattle.airy_io.specs.Causes.{Giving}
use Rattle.sparse_tensor.specs.Entries.{Entries}
use Rattle.tensor_text.specs.Answers.{Reads, HasReadCause}
use Rattle.command_words.specs.Bounds.{is_bound}
use Rattle.run_reports.specs.declared.texts.InputErr.{InputErr}
use Rattle.run_reports.specs.declared.texts.InputErr.TheVariants as inputs
use Rattle.run_reports.specs.Report.{Report, bound_refused}
use Rattle.run_reports.specs.Texts.{text_report}

-- At a bound that is refused nothing is read; at another the reader says what the text gives.
abbrev pub ReadsBounded : ℕ → Giving → Giving → Result Entries InputErr → Type 0
ReadsBounded X old new (Ok t) = (is_bound X ≡ true) × Reads old new (Ok t) × HasReadCause {T = Entries} old.faults new.faults (Ok t)
ReadsBounded X old new (Err (inputs.Bound n)) = (is_bound X ≡ false) × (n ≡ X) × (new ≡ old)
ReadsBounded X old new (Err (inputs.Text why)) =
    (is_bound X ≡ true) × Reads old new (Err why) × HasReadCause {T = Entries} old.faults new.faults (Err why)

-- what is said of a refused bound or text
unfoldable pub input_report : InputErr → Report
input_report (inputs.Bound n) = bound_refused n
input_report (inputs.Text why) = text_report why
