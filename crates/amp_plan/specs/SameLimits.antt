-- Tensors with the same entries below dim have plans with the same limits.
use Prim.Native.Nat.{ℕ}
use mathlib.Core.Path.{◌≡◌}
use Rattle.airy_math.specs.Tensors.{Tensors, SameEntries}
use Rattle.amp_plan.specs.Limits.{limit}

abbrev pub SameLimitsLaw : Type 0
SameLimitsLaw = (T T' : Tensors) → SameEntries T T' → (X : ℕ) → limit T X ≡ limit T' X
