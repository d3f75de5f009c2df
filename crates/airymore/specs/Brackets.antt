-- What is written of the brackets of the operators of a text, and what it says of them.
use Rattle.std.specs.Prelude.{◌≡◌, ℕ, ◌<◌, cond, List, [], ◌∷◌, ◌++◌, codes, Option, Some, None}
use Rattle.airy_math.specs.Rational.{ℚ}
use Rattle.airy_math.specs.Sums.{each}
use Rattle.airy_math.specs.Tensors.{Tensors, is_zero}
use Rattle.airy_index.specs.Text.{spaced}
use Rattle.frac128.specs.Fraction.{fraction_text}
use Rattle.sparse_tensor.specs.Entries.{Entries, looked_up}
use Rattle.airy_closing.specs.Closing.{IsBracket, OperatorsClose, structure_constant}
use Rattle.airy_closing.specs.Constants.{obtained_constant}
use Rattle.run_reports.specs.Report.{Report, refusal}
use Rattle.run_reports.specs.Relations.{of_relations}
use Rattle.airymore.specs.declared.places.Place.{Place}
use Rattle.airymore.specs.Places.{places}

-- the number at a place, B^i_ja - B^j_ia, and the same as it is obtained in 128 bits
abbrev pub number_at : Tensors → Place → ℚ
number_at T p = structure_constant T p.i p.j p.a

abbrev pub obtained_at : Tensors → Place → Option ℚ
obtained_at T p = obtained_constant T p.i p.j p.a

abbrev pub over_or : Place → Option ℚ → Option Place → Option Place
over_or p None next = Some p
over_or p (Some x) next = next

-- the first of the places whose number isn't obtained
unfoldable pub first_over : Tensors → List Place → Option Place
first_over T [] = None
first_over T (p ∷ ps) = over_or p (obtained_at T p) (first_over T ps)

-- `I J A`
unfoldable pub place_text : Place → List ℕ
place_text p = spaced (p.i ∷ p.j ∷ p.a ∷ [])

-- the line `I J A FRACTION` of a number that isn't 0
unfoldable pub number_text : Place → ℚ → List ℕ
number_text p x = cond (is_zero x) [] (place_text p ++ codes " " ++ fraction_text x ++ codes "\n")

-- the lines of the numbers at these places
unfoldable pub numbers_text : Tensors → List Place → List ℕ
numbers_text T ps = each ps (λ p. number_text p (number_at T p))

-- all numbers, or the first that isn't obtained
unfoldable pub found_report : Tensors → ℕ → Option Place → Report
found_report T m None = record { status = 0; bytes = numbers_text T (places m) ++ codes "closed\n" }
found_report T m (Some p) = record { status = 6; bytes = refusal (codes "over in bracket at ") (place_text p) }

unfoldable pub numbers_report : Tensors → ℕ → Report
numbers_report T m = found_report T m (first_over T (places m))

-- what `brackets` writes and answers of a text's entries
unfoldable pub brackets_report : Entries → Report
brackets_report t = of_relations t (numbers_report (looked_up t) t.dim)

-- What the printed bytes say of the operators L_i of a text. Where the text has a letter, they are those with 1 in its place.
pub record IsBrackets (t : Entries) (bytes : List ℕ) : Type 0 where
  -- numbers f, of which the bytes have one line `I J A FRACTION` for each f i j a that isn't 0, with i below j, by i, j and a
  -- ascending; and then `closed`
  pub f : ℕ → ℕ → ℕ → ℚ
  pub bytes_are : bytes ≡ each (places t.dim) (λ p. number_text p (f p.i p.j p.a)) ++ codes "closed\n"
  -- by them L_i L_j - L_j L_i = h sum over a of f_a L_a,
  pub brackets : (i j : ℕ) → i < j → j < t.dim → IsBracket (looked_up t) i j (f i j)
  -- and by no other numbers
  pub only : (i j : ℕ) (g : ℕ → ℚ) → i < j → j < t.dim → IsBracket (looked_up t) i j g → (a : ℕ) → a < t.dim → g a ≡ f i j a
  -- so the operators close
  pub close : OperatorsClose (looked_up t)

-- What the entries of a text lead to. With 0 the brackets are those that are printed, and with 4 the operators don't close.
pub record LeadsToBrackets (t : Entries) (report : Report) : Type 0 where
  pub said : report ≡ brackets_report t
  pub printed : report.status ≡ 0 → IsBrackets t report.bytes
  pub fails : report.status ≡ 4 → OperatorsClose (looked_up t) → ⊥
