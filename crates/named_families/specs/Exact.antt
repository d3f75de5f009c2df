-- For private functions and for proofs: no public contract rests on this file.
-- The form that wk and bgw share: their law is exact, and its number for each place, the shift, is 1 for wk and 0 for bgw.
use Prim.Native.Nat.{ℕ, ◌+◌, ◌*◌, ◌<◌}
use mathlib.Core.Path.{◌≡◌}
use lib.Dec.{eqb}
use lib.IntN.{pos}
use Rattle.airy_math.specs.Rational.{ℚ, whole, ◌/ℚ◌}
use Rattle.airy_math.specs.RationalLaws.{1ℚ}
use Rattle.airy_math.specs.Sums.{when}
use Rattle.airy_math.specs.declared.Shape.{Shape}
use Rattle.airy_math.specs.declared.Shape.TheVariants.{Exact}
use Rattle.sparse_tensor.specs.Entries.{Entries, looked_up}

-- the shape: the sum of a key's indices is (2 shift + 1) (g - 1) + shift n
unfoldable pub exact_shape : ℕ → Shape
exact_shape shift = Exact record { per_g = pos (2 * shift + 1); per_n = pos shift }

-- the entries of B, C and D: each is 0 but where its indices keep the law
unfoldable pub exact_b : ℕ → ℕ → ℕ → ℕ → ℚ
exact_b shift i j k = when (eqb (i + j) (k + shift)) (whole (2 * j + 1))

unfoldable pub exact_c : ℕ → ℕ → ℕ → ℕ → ℚ
exact_c shift i j k = when (eqb i (j + k + shift + 1)) 1ℚ

unfoldable pub exact_d : ℕ → ℕ → ℚ
exact_d shift i = when (eqb i shift) (pos 1 /ℚ 8)

-- the sequence whose only number is 1, at e
unfoldable pub single : ℕ → ℕ → ℚ
single e k = when (eqb k e) 1ℚ

-- The entries of B, C and D are those of the law, and the rest is what it was.
pub record IsFilled (shift : ℕ) (old new : Entries) : Type 0 where
  pub dim_is : new.dim ≡ old.dim
  pub shape_is : new.shape ≡ old.shape
  pub letter_is : new.letter ≡ old.letter
  pub a_is : new.a ≡ old.a
  pub B : (i j k : ℕ) → i < new.dim → j < new.dim → k < new.dim → (looked_up new).B i j k ≡ exact_b shift i j k
  pub C : (i j k : ℕ) → i < new.dim → j < new.dim → k < new.dim → (looked_up new).C i j k ≡ exact_c shift i j k
  pub D : (i : ℕ) → i < new.dim → (looked_up new).D i ≡ exact_d shift i
