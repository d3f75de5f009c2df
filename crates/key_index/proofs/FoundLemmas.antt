-- Keys that are found.
use Rattle.std.proofs.Common.{◌≡◌, ℕ, ◌+◌, ◌<◌, ◌≤◌, Some, subst, List, arith, ◌⊎◌, inl, inr}
use Rattle.std.proofs.lemmas.Bool.{cases_lt}
use Rattle.airy_math.specs.Keys.{Key}
use Rattle.airy_math.specs.Ranks.{key_at}
use Rattle.key_index.specs.declared.slots.Slot.{Slot}
use Rattle.key_index.specs.Codes.{code_of}
use Rattle.key_index.specs.Found.{found}

-- the first keys are found, and one more
pub found-more : (slots : List Slot) (width : ℕ) (keys : List Key) (i : ℕ) → found slots width (code_of (key_at keys i)) ≡ Some i → ((r : ℕ) → r < i → found slots width (code_of (key_at keys r)) ≡ Some r) → (r : ℕ) → r < i + 1 → found slots width (code_of (key_at keys r)) ≡ Some r
found-more slots width keys i here before r h = by (cases_lt r i)
  where
    at : (i r : ℕ) → i ≤ r → r < i + 1 → i ≡ r
    at i r s l = omega arith

    by : (r < i) ⊎ (i ≤ r) → found slots width (code_of (key_at keys r)) ≡ Some r
    by (inl s) = before r s
    by (inr s) = subst (λ k. found slots width (code_of (key_at keys k)) ≡ Some k) (at i r s h) here
