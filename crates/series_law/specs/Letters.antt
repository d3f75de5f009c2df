-- The relations of a user's tensors, read with a greater dim and with a fraction in the place of the letter.
use Prim.Native.Nat.{ℕ, ◌+◌, ◌≤◌}
use mathlib.Core.Path.{◌≡◌}
use mathlib.Core.List.{[], ◌∷◌}
use lib.IntN.{pos, ◌*ℤ◌, ◌-ℤ◌}
use Rattle.airy_math.specs.Rational.{ℚ, ◌*ℚ◌}
use Rattle.airy_math.specs.declared.Shape.{Shape}
use Rattle.airy_math.specs.Shapes.{per_g, per_n}
use Rattle.airy_math.specs.Tensors.{Tensors, IsGraded}
use Rattle.airy_math.specs.Relations.{rel_AA, rel_BA, rel_BB, rel_BC, rel_D, Close}
use Rattle.airy_math.specs.Cuts.{outer, if_none, power, room, letter_a}
use Rattle.airy_math.specs.Families.{widened}

-- the letter's exponents in the expressions BA, BB, BC and D; in AA it is that of the entry
unfoldable pub exponent_BA : Shape → ℕ → ℕ → ℕ → ℕ → ℕ
exponent_BA s i j k l = room s (pos (i + j + k + l)) (pos 4 *ℤ per_n s -ℤ per_g s)

unfoldable pub exponent_BB : Shape → ℕ → ℕ → ℕ → ℕ → ℕ
exponent_BB s i j k l = room s (pos (i + j + k) -ℤ pos l) (pos 2 *ℤ per_n s)

unfoldable pub exponent_BC : Shape → ℕ → ℕ → ℕ → ℕ → ℕ
exponent_BC s i j k l = room s (pos (i + j) -ℤ pos (k + l)) (per_g s)

unfoldable pub exponent_D : Shape → ℕ → ℕ → ℕ
exponent_D s i j = room s (pos (i + j)) (pos 2 *ℤ per_n s)

-- Read with the dim m and v in the letter's place, each expression is that of T times v to the place's exponent, and 0 at places with
-- an index beyond T's.
pub record AreByPower (T : Tensors) (m : ℕ) (v : ℚ) : Type 0 where
  pub AA : (i j k : ℕ) → rel_AA (widened T m v) i j k
      ≡ power v (letter_a T.shape i j k) *ℚ if_none (outer T.dim (i ∷ j ∷ k ∷ [])) (rel_AA T i j k)
  pub BA : (i j k l : ℕ) → rel_BA (widened T m v) i j k l
      ≡ power v (exponent_BA T.shape i j k l) *ℚ if_none (outer T.dim (i ∷ j ∷ k ∷ l ∷ [])) (rel_BA T i j k l)
  pub BB : (i j k l : ℕ) → rel_BB (widened T m v) i j k l
      ≡ power v (exponent_BB T.shape i j k l) *ℚ if_none (outer T.dim (i ∷ j ∷ k ∷ l ∷ [])) (rel_BB T i j k l)
  pub BC : (i j k l : ℕ) → rel_BC (widened T m v) i j k l
      ≡ power v (exponent_BC T.shape i j k l) *ℚ if_none (outer T.dim (i ∷ j ∷ k ∷ l ∷ [])) (rel_BC T i j k l)
  pub D : (i j : ℕ) → rel_D (widened T m v) i j
      ≡ power v (exponent_D T.shape i j) *ℚ if_none (outer T.dim (i ∷ j ∷ [])) (rel_D T i j)

-- The expressions of graded tensors, read so, are by the letter's power those of the tensors.
abbrev pub WidenedExpressionsLaw : Type 0
WidenedExpressionsLaw = (T : Tensors) → IsGraded T → (m : ℕ) (v : ℚ) → T.dim ≤ m → AreByPower T m v

-- The relations of graded tensors hold for the same entries read with every greater dim, and with every fraction in the letter's place.
abbrev pub WidenedRelationsLaw : Type 0
WidenedRelationsLaw = (T : Tensors) → IsGraded T → Close T T.dim → (m : ℕ) (v : ℚ) → T.dim ≤ m → Close (widened T m v) m
