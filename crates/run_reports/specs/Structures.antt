-- The structure of a text, the lines of a whole table, and what holds of a text's own tensors.
use Rattle.std.specs.Prelude.{◌↔◌, ℕ, ◌≤◌, Bool, true, false, cond, List}
use Rattle.airy_math.specs.Rational.{ℚ}
use Rattle.airy_math.specs.RationalLaws.{1ℚ}
use Rattle.airy_math.specs.Planned.{planned}
use Rattle.airy_math.specs.Relations.{Close}
use Rattle.airy_math.specs.Series.{Series}
use Rattle.airy_math.specs.Solutions.{Solves}
use Rattle.airy_math.specs.Jobs.{Structure, Wk, Bgw, Wp, Bulk, Text, Lettered, IsSolutionOf, planned_tensors, tensors_at}
use Rattle.sparse_tensor.specs.Entries.{Entries, looked_up}
use Rattle.amp_terms.specs.Tables.{full_table}
use Rattle.run_reports.specs.Tables.{rows_text}

-- the structure of a text's entries
unfoldable pub text_structure : Entries → Structure
text_structure t = cond t.letter (Lettered (looked_up t)) (Text (looked_up t))

-- whether a structure's tensors carry a letter
unfoldable pub has_letter : Structure → Bool
has_letter Wk = false
has_letter Bgw = false
has_letter Wp = true
has_letter (Bulk T) = false
has_letter (Text T) = false
has_letter (Lettered T) = true

-- the lines of the whole table
unfoldable pub whole_table : Structure → ℕ → List ℕ
whole_table s X =
    rows_text (has_letter s) (planned_tensors s X).shape (planned (planned_tensors s X) X) (full_table (planned_tensors s X) X)

-- At the text's own dim, and with 1 in the place of a letter, the solutions of the job are those of the text's own tensors.
abbrev pub IsOwn : ℕ → Entries → Type 0
IsOwn X t = (f : Series) → IsSolutionOf (text_structure t) X t.dim 1ℚ f ↔ Solves (looked_up t) X f

-- The relations of a text's entries hold, as the entries stand; and so do those of the job's tensors at every dim from the text's own on
-- and with every fraction in the place of a letter.
pub record AreClosed (t : Entries) : Type 0 where
  pub own : Close (looked_up t) t.dim
  pub everywhere : (m : ℕ) (v : ℚ) → t.dim ≤ m → Close (tensors_at (text_structure t) m v) m
