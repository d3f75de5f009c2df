-- Whole numbers: times 1, a product of the same numbers, and the size of a sum.
use Prim.Native.Nat.{ℕ, ◌+◌, ◌≤◌}
use mathlib.Core.Path.{◌≡◌, ap₂, ◌∙◌}
use native.Mathlib.Omega.{arith}
use lib.IntN.{ℤ, pos, ◌+ℤ◌, ◌*ℤ◌}
use Rattle.std.specs.Int.RustNames.{unsigned_abs}
use Rattle.std.proofs.lemmas.Int.{ints}

pub *ℤ-one' : (z : ℤ) → z *ℤ pos 1 ≡ z
*ℤ-one' z = omega (arith, ints)

pub product_as : (z x y x' y' : ℤ) → z ≡ x *ℤ y → x ≡ x' → y ≡ y' → z ≡ x' *ℤ y'
product_as z x y x' y' e p q = e ∙ ap₂ ◌*ℤ◌ p q

pub unsigned_abs-sum : (a b : ℤ) → unsigned_abs (a +ℤ b) ≤ unsigned_abs a + unsigned_abs b
unsigned_abs-sum a b = omega (arith, ints)
