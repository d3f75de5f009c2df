-- Pivots of keys looked at in order, and the first that fails.
use Prim.Native.Nat.{ℕ, ◌<◌}
use mathlib.Core.Path.{◌≡◌}
use mathlib.Core.Bool.{Bool, true, cond}
use mathlib.Core.List.{[], List, ◌∷◌}
use mathlib.Core.Logic.{◌↔◌}
use lib.Dec.{ltb}
use Rattle.std.specs.Prelude.{Option, Some, None}
use Rattle.airy_math.specs.Rational.{ℚ}
use Rattle.airy_math.specs.Keys.{Key, before, head_or, times}
use Rattle.airy_math.specs.Tensors.{Tensors, same_number}
use Rattle.airy_math.specs.Planned.{IsPlanned, planned}
use Rattle.airy_math.specs.Terms.{obtained_pivot_sum}

-- ---- which indices of a key are looked at

-- each
unfoldable pub every : Key → ℕ → Bool
every key i = true

-- each above the least
unfoldable pub above_least : Key → ℕ → Bool
above_least key i = ltb (head_or 0 key.idx) i

-- i stands in the key, and is looked at
unfoldable pub IsLooked : (Key → ℕ → Bool) → Key → ℕ → Type 0
IsLooked looks key i = (0 < times i key.idx) × (looks key i ≡ true)

-- ---- the steps

-- A pivot that fails: the index, and the key's sum with it, where that is obtained.
abbrev pub Failing : Type 0
Failing = ℕ × Option ℚ

-- what one pivot sum says of a key with the number w: it fails, since it is not obtained or is another number, or the next ones decide
unfoldable pub judged : ℚ → ℕ → Option ℚ → Option Failing → Option Failing
judged w i None next = Some (i, None)
judged w i (Some v) next = cond (same_number v w) next (Some (i, Some v))

-- the first index of a list that is looked at and fails, F giving the keys' numbers; an index that stands twice says one thing twice
unfoldable pub failing_pivot : Tensors → (Key → ℚ) → (Key → ℕ → Bool) → Key → List ℕ → Option Failing
failing_pivot T F looks key [] = None
failing_pivot T F looks key (i ∷ is) =
    let next = failing_pivot T F looks key is in
    cond (looks key i) (judged (F key) i (obtained_pivot_sum T F key i) next) next

-- a key's pivot that fails; where there is none, the next keys decide
unfoldable pub of_key : Key → Option Failing → Option (Key × Failing) → Option (Key × Failing)
of_key key None next = next
of_key key (Some f) next = Some (key, f)

-- the first of the keys with a pivot that fails, and its first that does
unfoldable pub failing_key : Tensors → (Key → ℚ) → (Key → ℕ → Bool) → List Key → Option (Key × Failing)
failing_key T F looks [] = None
failing_key T F looks (key ∷ keys) = of_key key (failing_pivot T F looks key key.idx) (failing_key T F looks keys)

-- ---- the same, said without their order

-- with the pivot i the key's sum is obtained, and is its number F key
unfoldable pub Agrees : Tensors → (Key → ℚ) → Key → ℕ → Type 0
Agrees T F key i = obtained_pivot_sum T F key i ≡ Some (F key)

-- All that is looked at before the pivot i of the planned key agrees: the keys before it, and its lesser pivots. `before` is the order
-- of the plan: by Euler number, then by genus, then as in a dictionary.
pub record AgreesUpTo (T : Tensors) (X : ℕ) (F : Key → ℚ) (looks : Key → ℕ → Bool) (key : Key) (i : ℕ) : Type 0 where
  pub planned : IsPlanned T X key
  pub looked : IsLooked looks key i
  pub keys : (k : Key) → IsPlanned T X k → before k key ≡ true → (j : ℕ) → IsLooked looks k j → Agrees T F k j
  pub pivots : (j : ℕ) → IsLooked looks key j → j < i → Agrees T F key j

-- What is found is the first that fails: nothing, where each pivot that is looked at agrees; or this pivot, whose sum isn't the key's
-- number.
unfoldable pub IsFirstFailing : Tensors → ℕ → (Key → ℚ) → (Key → ℕ → Bool) → Option (Key × Failing) → Type 0
IsFirstFailing T X F looks None = (key : Key) → IsPlanned T X key → (i : ℕ) → IsLooked looks key i → Agrees T F key i
IsFirstFailing T X F looks (Some (key, (i, s))) =
    AgreesUpTo T X F looks key i × (obtained_pivot_sum T F key i ≡ s) × (s ≡ Some (F key) → ⊥)

-- Looking at the pivots of all planned keys finds the first that fails, and there is exactly one.
abbrev pub FindsFirst : Type 0
FindsFirst =
    (T : Tensors) (X : ℕ) (F : Key → ℚ) (looks : Key → ℕ → Bool) (f : Option (Key × Failing))
    → (failing_key T F looks (planned T X) ≡ f) ↔ IsFirstFailing T X F looks f
