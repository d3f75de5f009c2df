-- The lines of a table, and what its check finds.
use Rattle.std.proofs.Common.{◌≡◌, ℕ, zero, suc, ◌<◌, refl, ap, arith, length, List, [], ◌∷◌, ◌++◌, map, get_or, Bool, Some}
use Rattle.run_reports.proofs.Names.{Key, planned, key_at, ℚ, Tensors, Shape, Outcome, has_value, outcomes, value_in, value_of, value_of_cell, Orders, check, check_keys, check_values, row_text, rows_text, verdict_of, length-outcomes}
use Rattle.std.specs.List.{concat}
use Rattle.amp_terms.specs.declared.Outcome.TheVariants.{Value, Over, Blocked}
use Rattle.series_law.specs.Check.{Verdict, Solution, NotValue}
use Rattle.series_law.specs.First.{IsFirst}
use Rattle.series_law.proofs.FirstLaw.{first_finding}

abbrev pub lines_of : Bool → Shape → List Key → List Outcome → List (List ℕ)
lines_of letter shape [] os = []
lines_of letter shape (key ∷ keys) [] = []
lines_of letter shape (key ∷ keys) (o ∷ os) = row_text letter shape key (value_of o) ∷ lines_of letter shape keys os

pub rows-lines : (letter : Bool) (shape : Shape) (keys : List Key) (os : List Outcome) → rows_text letter shape keys (map Some os) ≡ concat (lines_of letter shape keys os)
unfolding rows_text value_of_cell
rows-lines letter shape [] os = refl
rows-lines letter shape (key ∷ keys) [] = refl
rows-lines letter shape (key ∷ keys) (o ∷ os) = ap (λ text. row_text letter shape key (value_of o) ++ text) (rows-lines letter shape keys os)

pub length-lines : (letter : Bool) (shape : Shape) (keys : List Key) (os : List Outcome) → length os ≡ length keys → length (lines_of letter shape keys os) ≡ length keys
length-lines letter shape [] os e = refl
length-lines letter shape (key ∷ keys) [] e = absurd (omega arith)
length-lines letter shape (key ∷ keys) (o ∷ os) e = ap suc (length-lines letter shape keys os (omega arith))

pub line_at : (letter : Bool) (shape : Shape) (keys : List Key) (os : List Outcome) (r : ℕ) → r < length keys → length os ≡ length keys
    → get_or (lines_of letter shape keys os) r [] ≡ row_text letter shape (key_at keys r) (value_of (get_or os r Over))
unfolding key_at
line_at letter shape [] os r h e = absurd (omega arith)
line_at letter shape (key ∷ keys) [] r h e = absurd (omega arith)
line_at letter shape (key ∷ keys) (o ∷ os) zero h e = refl
line_at letter shape (key ∷ keys) (o ∷ os) (suc r) h e = line_at letter shape keys os r (omega arith) (omega arith)

-- where the check of a table comes to its pivots, each outcome is a Value
pub all_values : (r : ℕ) (os : List Outcome) (next : Verdict) → check_values r os next ≡ Solution → (k : ℕ) → k < length os → (w : ℚ) × (get_or os k Over ≡ Value w)
unfolding check_values has_value
all_values r [] next e k h = absurd (omega arith)
all_values r (Value w ∷ os) next e zero h = (w, refl)
all_values r (Value w ∷ os) next e (suc k) h = all_values (suc r) os next e k (omega arith)
all_values r (Over ∷ os) next e k h = let clash : NotValue r ≡ Solution = e in cc
all_values r (Blocked q ∷ os) next e k h = let clash : NotValue r ≡ Solution = e in cc

-- where the check of the table of T up to X finds nothing, each rank has a Value
pub values_found : (T : Tensors) (X : ℕ) → verdict_of T X ≡ Solution → (r : ℕ) → r < length (planned T X) → (w : ℚ) × (get_or (outcomes T X) r Over ≡ Value w)
unfolding verdict_of check
values_found T X found r h = all_values 0 (outcomes T X) (check_keys T (value_in (planned T X) (outcomes T X)) (planned T X)) found r (omega (arith, length-outcomes T X))

-- two orders that it finds have numbers that differ
pub differ_of : (T : Tensors) (X : ℕ) (key : Key) (i j : ℕ) (a b : ℚ) → verdict_of T X ≡ Orders key i a j b → a ≡ b → ⊥
unfolding IsFirst verdict_of
differ_of T X key i j a b found = ((first_finding T X (outcomes T X) (Orders key i a j b)).0 found).2
