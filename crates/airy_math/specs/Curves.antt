-- The tensors of a curve: of the sequence 1, c_1, c_2, .. of its numbers.
use Prim.Native.Nat.{ℕ, zero, suc, ◌+◌, ◌*◌, ◌-◌}
use mathlib.Core.Bool.{◌&&◌}
use mathlib.Core.List.{[], List, ◌∷◌}
use lib.Dec.{leb, eqb}
use lib.IntN.{pos}
use lib.ListN.{get_or}
use Rattle.airy_math.specs.Rational.{ℚ, ◌+ℚ◌, ◌*ℚ◌, ◌/ℚ◌, neg_ℚ, whole}
use Rattle.airy_math.specs.RationalLaws.{0ℚ, 1ℚ}
use Rattle.airy_math.specs.Sums.{when}
use Rattle.airy_math.specs.Shapes.{Shape, AtMost}
use Rattle.airy_math.specs.Tensors.{Tensors}

-- c_(m-n), and 0 where n is greater than m
unfoldable pub reach : (ℕ → ℚ) → ℕ → ℕ → ℚ
reach c m n = when (leb n m) (c (m - n))

-- c_e with e = m - n, where e is at least 0 and at most `most`
unfoldable pub entry : (ℕ → ℚ) → ℕ → ℕ → ℕ → ℚ
entry c most m n = when (leb n m && leb (m - n) most) (c (m - n))

unfoldable pub curve_shape : Shape
curve_shape = AtMost record { per_g = pos 3; per_n = pos 1 }

-- the tensors with the numbers e in B and C and x in D at 0, with all indices below dim
unfoldable pub with_numbers : (ℕ → ℕ → ℚ) → ℚ → ℕ → Tensors
with_numbers e x dim = record {
  dim = dim;
  shape = curve_shape;
  A = λ i j k. when (eqb i 0 && eqb j 0 && eqb k 0) 1ℚ;
  B = λ i j k. whole (2 * j + 1) *ℚ e (k + 1) (i + j);
  C = λ i j k. e (j + k + 2) i;
  D = λ i. when (eqb i 0) x +ℚ when (eqb i 1) (pos 1 /ℚ 8);
}

-- the tensors of the sequence c, with all indices below dim and all exponents up to `most`
unfoldable pub curve : (ℕ → ℚ) → ℕ → ℕ → Tensors
unfolding with_numbers entry
curve c dim most = with_numbers (entry c most) (c 1 *ℚ (pos 1 /ℚ 8)) dim

-- the tensors of the sequence c with all indices up to M, and with every exponent that they have
unfoldable pub whole_curve : (ℕ → ℚ) → ℕ → Tensors
unfolding with_numbers reach
whole_curve c M = with_numbers (reach c) (c 1 *ℚ (pos 1 /ℚ 8)) (suc M)

-- u_l times the first number of the list, and u_(l+1) times the second, and so on, added up
unfoldable pub paired : (ℕ → ℚ) → ℕ → List ℚ → ℚ
paired u l [] = 0ℚ
paired u l (x ∷ xs) = u l *ℚ x +ℚ paired u (suc l) xs

-- c_k, .., c_0 for the numbers u_1, u_2, ..: c_0 is 1, and c_k the negative of the sum of u_l c_(k-l) over l from 1 to k
unfoldable pub numbers_down : (ℕ → ℚ) → ℕ → List ℚ
numbers_down u zero = 1ℚ ∷ []
numbers_down u (suc k) = neg_ℚ (paired u 1 (numbers_down u k)) ∷ numbers_down u k

unfoldable pub first_or_zero : List ℚ → ℚ
first_or_zero [] = 0ℚ
first_or_zero (x ∷ xs) = x

-- c_k
unfoldable pub number_of : (ℕ → ℚ) → ℕ → ℚ
number_of u k = first_or_zero (numbers_down u k)

-- the sequence of a list u_1, u_2, ..: u_0 is 1, and it goes on with 0
unfoldable pub of_list : List ℚ → ℕ → ℚ
of_list us zero = 1ℚ
of_list us (suc l) = get_or us l 0ℚ
