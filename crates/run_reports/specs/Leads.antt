-- What a job with a text leads to.
use Rattle.std.specs.Prelude.{◌≡◌, ℕ, true, false, cond, List, length, nat_le}
use Rattle.std.specs.Io.KnownBytes.{Consumes}
use Rattle.airy_io.specs.Causes.{Giving, Rose}
use Rattle.sparse_tensor.specs.Entries.{Entries}
use Rattle.tensor_text.specs.Grammar.{TextReading, Read}
use Rattle.tensor_text.specs.Grammar as grammar
use Rattle.tensor_text.specs.declared.refusals.LineKind.{LineKind}
use Rattle.tensor_text.specs.Answers.{IsWhole}
use Rattle.command_words.specs.Bounds.{is_bound}
use Rattle.run_reports.specs.Report.{Report, bound_refused, out_of_memory}
use Rattle.run_reports.specs.Texts.{line_refused, text_too_long, read_fault}

-- What a job with a text leads to, by what its entries lead to, and the source before and after.
pub data LeadsFromText (next : Entries → Report → Type 0) (old new : Giving) (report : Report) : Type 0 where
  -- the source failed
  failed : Rose old.faults new.faults → report ≡ read_fault → LeadsFromText next old new report
  wanting : new.faults ≡ old.faults → report ≡ out_of_memory → LeadsFromText next old new report
  -- more than 1,048,576 bytes came, and reading stopped at the first of them
  long : new.faults ≡ old.faults → (text : List ℕ) → Consumes old.left new.left text → length text ≡ 1048577 → report ≡ text_too_long
      → LeadsFromText next old new report
  -- the source was read to its end, and the grammar refuses its text, or gives entries
  refused : new.faults ≡ old.faults → (text : List ℕ) (n : ℕ) (kind : LineKind) → Consumes old.left new.left text
      → IsWhole text new.left (grammar.Refused n kind) → report ≡ line_refused n kind → LeadsFromText next old new report
  read : new.faults ≡ old.faults → (text : List ℕ) (t : Entries) → Consumes old.left new.left text
      → IsWhole text new.left (Read t) → next t report → LeadsFromText next old new report

-- The bound comes before the text: where it is refused, nothing is read.
pub data LeadsWithBound (X : ℕ) (next : Entries → Report → Type 0) (old new : Giving) (report : Report) : Type 0 where
  beyond : is_bound X ≡ false → new ≡ old → report ≡ bound_refused X → LeadsWithBound X next old new report
  within : is_bound X ≡ true → LeadsFromText next old new report → LeadsWithBound X next old new report

-- ---- what is meant, where the source does not fail

-- what the reading of a text leads to, by what its entries lead to
unfoldable pub of_reading : (Entries → Report) → TextReading → Report
of_reading next (grammar.Refused n kind) = line_refused n kind
of_reading next (Read t) = next t

unfoldable pub of_text : (Entries → Report) → List ℕ → Report
of_text next text = cond (nat_le (length text) 1048576) (of_reading next (grammar.reading_of text)) text_too_long
