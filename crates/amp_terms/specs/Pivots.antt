-- The outcome of a pivot sum over the outcomes of ranks, and how it is found term by term.
use Prim.Native.Nat.{ℕ}
use mathlib.Core.Bool.{cond}
use mathlib.Core.Path.{◌≡◌}
use mathlib.Core.List.{List, [], ◌∷◌}
use Rattle.std.specs.Prelude.{Option, None}
use Rattle.airy_math.specs.Rational.{ℚ}
use Rattle.airy_math.specs.Keys.{Key, remove}
use Rattle.airy_math.specs.Obtained.{both_obtained, obtained_sum}
use Rattle.airy_math.specs.Tensors.{Tensors}
use Rattle.airy_math.specs.Terms.{terms, obtained_pivot_sum}
use Rattle.airy_math.specs.Ranks.{place_of}
use lib.ListN.{get_or}
use Rattle.amp_terms.specs.declared.Outcome.{Outcome}
use Rattle.amp_terms.specs.declared.Outcome.TheVariants.{Over}
use Rattle.amp_terms.specs.Outcomes.{has_value, smaller, value_or_zero, outcome_from, ranks_named}
use Rattle.amp_plan.specs.Plans.{Planning, tensors_of, keys_of}
use Rattle.amp_plan.specs.Ranked.{RankedTerm, ranks_of, obtained_at}

-- the least rank of a list without a Value, where each rank is shown with its outcome
unfoldable pub least_without : (ℕ → Outcome) → List ℕ → Option ℕ
least_without shown [] = None
least_without shown (r ∷ rs) = cond (has_value (shown r)) (least_without shown rs) (smaller r (least_without shown rs))

-- the Value that a rank is shown with, and 0 where it has none
unfoldable pub number_at : (ℕ → Outcome) → ℕ → ℚ
number_at shown r = value_or_zero (shown r)

-- The outcome of a key's pivot sum: Blocked by the least rank named without a Value, else Over where the ordered sum isn't
-- obtained, else its Value.
unfoldable pub pivot_outcome : Tensors → List Key → (ℕ → Outcome) → Key → ℕ → Outcome
pivot_outcome T plan shown key i =
    outcome_from (least_without shown (ranks_named plan (terms T i key.g (remove i key.idx))))
    (obtained_pivot_sum T (λ k. number_at shown (place_of k plan)) key i)

-- the same over a plan
abbrev pub planned_outcome : Planning → (ℕ → Outcome) → Key → ℕ → Outcome
planned_outcome p shown key i = pivot_outcome (tensors_of p) (keys_of p) shown key i

-- the ranks that the terms of a plan's pivot sum name
abbrev pub pivot_ranks : Planning → ℕ → Key → List ℕ
pivot_ranks p i key = ranks_named (keys_of p) (terms (tensors_of p) i key.g (remove i key.idx))

-- the outcomes in a list, and Over behind its end
unfoldable pub listed : List Outcome → ℕ → Outcome
listed done r = get_or done r Over

-- ---- term by term

-- A sum that is being made: what it reads from, the least rank so far without a Value, and what is obtained so far.
pub record Summing (B : Type 0) : Type 0 where
  pub reader : ℕ
  pub base : B
  pub shown : ℕ → Outcome
  pub blocked : Option ℕ
  pub sum : Option ℚ

-- the least rank so far without a Value, after one more
unfoldable pub noted : Option ℕ → ℕ → Outcome → Option ℕ
noted blocked r o = cond (has_value o) blocked (smaller r blocked)

unfoldable pub all_noted : (ℕ → Outcome) → Option ℕ → List ℕ → Option ℕ
all_noted shown blocked [] = blocked
all_noted shown blocked (r ∷ rs) = all_noted shown (noted blocked r (shown r)) rs

-- the sum with one more term
unfoldable pub with_term : {B : Type 0} → Summing B → RankedTerm → Summing B
with_term s t =
    record s {
      blocked = all_noted s.shown s.blocked (ranks_of t);
      sum = both_obtained obtained_sum s.sum (obtained_at (number_at s.shown) t);
    }

-- What is obtained of a term whose ranks all have Values.
pub record IsTerm (shown : ℕ → Outcome) (t : RankedTerm) (x : Option ℚ) : Type 0 where
  pub obtained : x ≡ obtained_at (number_at shown) t
  pub none_blocks : (b : Option ℕ) → all_noted shown b (ranks_of t) ≡ b
