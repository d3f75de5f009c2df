-- What is written of a text that is refused, and of a source that fails.
use Rattle.std.specs.Prelude.{ℕ, List, [], ◌++◌, codes, decimal}
use Rattle.tensor_text.specs.declared.refusals.LineKind.{LineKind}
use Rattle.tensor_text.specs.declared.refusals.LineKind.TheVariants.{Header, Dim, Shape, Word, Count}
use Rattle.tensor_text.specs.declared.refusals.LineKind.TheVariants.{Index, Number, Grade, Twice, NoEnd, After}
use Rattle.tensor_text.specs.declared.refusals.TextErr.{TextErr}
use Rattle.tensor_text.specs.declared.refusals.TextErr.TheVariants as texts
use Rattle.run_reports.specs.Report.{Report, refusal, out_of_memory}

-- the name of a check
unfoldable pub kind_text : LineKind → List ℕ
kind_text Header = codes "Header"
kind_text Dim = codes "Dim"
kind_text Shape = codes "Shape"
kind_text Word = codes "Word"
kind_text Count = codes "Count"
kind_text Index = codes "Index"
kind_text Number = codes "Number"
kind_text Grade = codes "Grade"
kind_text Twice = codes "Twice"
kind_text NoEnd = codes "NoEnd"
kind_text After = codes "After"

unfoldable pub line_refused : ℕ → LineKind → Report
line_refused n kind = record { status = 3; bytes = refusal (codes "line ") (decimal n ++ codes " " ++ kind_text kind) }

unfoldable pub text_too_long : Report
text_too_long = record { status = 3; bytes = refusal (codes "text too long") [] }

unfoldable pub read_fault : Report
read_fault = record { status = 8; bytes = refusal (codes "read fault") [] }

-- what the reader's refusal says
unfoldable pub text_report : TextErr → Report
text_report texts.ReadFault = read_fault
text_report texts.TooLong = text_too_long
text_report (texts.Line n kind) = line_refused n kind
text_report texts.NoMemory = out_of_memory
