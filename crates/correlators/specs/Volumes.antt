-- The volume that a table gives of a pair (g,n), or why it gives none.
use Prim.Native.Nat.{ℕ, zero, suc, ◌+◌, ◌*◌, ◌-◌}
use mathlib.Core.Path.{◌≡◌}
use mathlib.Core.Bool.{Bool, ◌&&◌, cond}
use mathlib.Core.List.{List, [], ◌∷◌, map}
use mathlib.Core.Logic.{◌⊎◌}
use lib.Dec.{ltb, leb, eqb}
use lib.ListN.{length}
use Rattle.std.specs.Prelude.{Option, Some, None, Result, Ok, Err, is_none, option_map, option_and_then}
use Rattle.airy_math.specs.Rational.{ℚ}
use Rattle.airy_math.specs.Sums.{below, each, keep, binomial}
use Rattle.airy_math.specs.Keys.{Key, euler, key_of, ordered}
use Rattle.airy_math.specs.Tensors.{is_zero}
use Rattle.amp_plan.specs.Plans.{Planning, keys_of, rank_at}
use Rattle.airy_math.specs.Cuts.{letter_of}
use Rattle.airy_math.specs.Ranks.{place_of}
use Rattle.airy_math.specs.declared.Shape.{Shape}
use Rattle.amp_terms.specs.declared.Outcome.{Outcome}
use Rattle.amp_terms.specs.Tables.{value_at}
use Rattle.correlators.specs.declared.refusals.CorrErr.{CorrErr}
use Rattle.correlators.specs.declared.refusals.CorrErr.TheVariants as refused
use Rattle.correlators.specs.declared.polynomial.Term.{Term}
use Rattle.correlators.specs.declared.polynomial.Poly.{Poly}
use Rattle.correlators.specs.Divisions.{over_factorials}

-- ---- the lists of a volume

-- the lists of n numbers whose sum is s, descending as in a dictionary
unfoldable pub lists_of_sum : ℕ → ℕ → List (List ℕ)
lists_of_sum zero zero = [] ∷ []
lists_of_sum zero (suc s) = []
lists_of_sum (suc n) s = each (below (suc s)) λ k. map (λ ds. (s - k) ∷ ds) (lists_of_sum n k)

-- those whose sum is at most s, by their sums ascending
unfoldable pub lists_up_to : ℕ → ℕ → List (List ℕ)
lists_up_to n s = each (below (suc s)) (lists_of_sum n)

-- the greatest sum of the indices of a covered key of (g,n), which is also the greatest index
abbrev pub greatest_sum : ℕ → ℕ → ℕ
greatest_sum g n = 3 * g + n - 3

-- how many lists there are: the binomial of 3g - 3 + 2n over n
unfoldable pub counted : ℕ → ℕ → ℕ
counted g n = binomial (3 * g + 2 * n - 3) n

-- ---- the coefficients

-- whether the key is one of (g,n)
unfoldable pub is_of : ℕ → ℕ → Key → Bool
is_of g n key = eqb key.g g && eqb (length key.idx) n

-- the planned keys of the pair, in plan order
unfoldable pub keys_of_pair : Planning → ℕ → ℕ → List Key
keys_of_pair p g n = keep (is_of g n) (keys_of p)

-- The coefficient of a key in a list of keys with their cells: its Value over the product of the (2d + 1)!, where each step is obtained.
unfoldable pub table_coefficient : List Key → List (Option Outcome) → Key → Option ℚ
table_coefficient keys cells key = option_and_then (over_factorials key.idx) (value_at cells (place_of key keys))

-- the Value of a planned key
unfoldable pub value_of : Planning → List (Option Outcome) → Key → Option ℚ
value_of p cells key = value_at cells (rank_at p key)

-- and its coefficient
unfoldable pub coefficient_of : Planning → List (Option Outcome) → Key → Option ℚ
coefficient_of p cells key = table_coefficient (keys_of p) cells key

-- the first key of the list that has no number
unfoldable pub first_lacking : (Key → Option ℚ) → List Key → Option Key
first_lacking number [] = None
first_lacking number (key ∷ keys) = cond (is_none (number key)) (Some key) (first_lacking number keys)

-- ---- why there is no volume

-- what the plan and the pair alone refuse
unfoldable pub asked_refusal : Planning → ℕ → ℕ → Option CorrErr
asked_refusal p g n =
    cond p.tensors.letter
    (cond (ltb p.bound (euler g n)) (Some refused.Beyond)
    (cond (ltb 100000 (counted g n)) (Some (refused.Terms (counted g n)))
    (cond (leb p.tensors.dim (greatest_sum g n)) (Some refused.Index) None)))
    (Some refused.Kind)

-- the first of two refusals
unfoldable pub first_of : Option CorrErr → Option CorrErr → Option CorrErr
first_of (Some e) later = Some e
first_of None later = later

-- what the table refuses: the first key without a Value, else the first at which a step of the division leaves the range
unfoldable pub table_refusal : Planning → List (Option Outcome) → ℕ → ℕ → Option CorrErr
table_refusal p cells g n = first_of
    (option_map (λ key. refused.NotValue key) (first_lacking (value_of p cells) (keys_of_pair p g n)))
    (option_map (λ key. refused.Over key) (first_lacking (coefficient_of p cells) (keys_of_pair p g n)))

-- the first of all
unfoldable pub refusal : Planning → List (Option Outcome) → ℕ → ℕ → Option CorrErr
refusal p cells g n = first_of (asked_refusal p g n) (table_refusal p cells g n)

-- ---- the terms

-- A term of a volume: coef p^letter L1^(powers 1) .. Ln^(powers n).
pub record Part : Type 0 where
  pub coef : ℚ
  pub letter : ℕ
  pub powers : List ℕ

-- the term of the list d1, .., dn with a coefficient, where that is not 0
unfoldable pub part : ℕ → List ℕ → Option ℚ → List Part
part letter ds None = []
part letter ds (Some w) = cond (is_zero w) [] (record { coef = w; letter = letter; powers = map (λ d. 2 * d) ds } ∷ [])

-- the term of a list, by a list of keys with their cells
unfoldable pub table_term : Bool → Shape → List Key → List (Option Outcome) → ℕ → List ℕ → List Part
table_term letter shape keys cells g ds =
    let key = key_of g (ordered ds) in part (cond letter (letter_of shape key) 0) ds (table_coefficient keys cells key)

-- The terms of the volume V(g,n): one for each list of n indices with a coefficient other than 0.
unfoldable pub table_terms : Bool → Shape → List Key → List (Option Outcome) → ℕ → ℕ → List Part
table_terms letter shape keys cells g n = each (lists_up_to n (greatest_sum g n)) (table_term letter shape keys cells g)

-- both of a plan's table
unfoldable pub term_of : Planning → List (Option Outcome) → ℕ → List ℕ → List Part
term_of p cells g = table_term p.tensors.letter p.tensors.shape (keys_of p) cells g

unfoldable pub volume_terms : Planning → List (Option Outcome) → ℕ → ℕ → List Part
volume_terms p cells g n = table_terms p.tensors.letter p.tensors.shape (keys_of p) cells g n

-- ---- what `volume` answers

-- what a contract sees of a term, and of terms
abbrev pub part_of : Term → Part
part_of t = record { coef = t.coef; letter = t.letter; powers = t.powers.items }

unfoldable pub parts_of : List Term → List Part
parts_of ts = map part_of ts

-- the terms, where nothing is refused; or the first refusal; or, where the plan and the pair refuse nothing, want of memory
unfoldable pub IsVolume : Planning → List (Option Outcome) → ℕ → ℕ → Result Poly CorrErr → Type 0
IsVolume p cells g n (Ok poly) = (refusal p cells g n ≡ None) × (parts_of poly.terms.items ≡ volume_terms p cells g n)
IsVolume p cells g n (Err e) = (refusal p cells g n ≡ Some e) ⊎ ((e ≡ refused.NoMemory) × (asked_refusal p g n ≡ None))
