-- Sums and products of fractions over a common denominator, in whatever terms.
use Prim.Native.Nat.{ℕ, ◌+◌, ◌*◌, ◌/◌, ◌^◌, ◌<◌, ◌∣◌}
use mathlib.Core.Path.{◌≡◌}
use mathlib.Core.List.{List, [], ◌∷◌, map}
use lib.IntN.{ℤ, pos, ◌+ℤ◌, ◌*ℤ◌, nat_abs}
use Rattle.std.specs.Prelude.{Some, IsPermutation}
use Rattle.airy_math.specs.Rational.{ℚ, ◌/ℚ◌}
use Rattle.airy_math.specs.RationalLaws.{0ℚ}
use Rattle.airy_math.specs.Obtained.{obtained_sum, obtained_product, obtained_from}

-- the sum of whole numbers, and the sum of their sizes
unfoldable pub total : List ℤ → ℤ
total [] = pos 0
total (n ∷ ns) = n +ℤ total ns

unfoldable pub sizes : List ℤ → ℕ
sizes [] = 0
sizes (n ∷ ns) = nat_abs n + sizes ns

-- With all numbers from -(2^127-1) to 2^127-1: n/D and m/D are added where n, m, n + m and D are in range, n/d and m/e are
-- multiplied where n m and d e are. So n/D for all n of a list are added up, in any order, where D and the sum of the sizes are.
-- Each number is an n/D for each D that its denominator divides.
pub record CertifiedLaw : Type 0 where
  pub sum : (n m : ℤ) (D : ℕ) → 0 < D → D < 2 ^ 127 → nat_abs n < 2 ^ 127 → nat_abs m < 2 ^ 127 → nat_abs (n +ℤ m) < 2 ^ 127
      → obtained_sum (n /ℚ D) (m /ℚ D) ≡ Some ((n +ℤ m) /ℚ D)
  pub product : (n m : ℤ) (d e : ℕ) → 0 < d → 0 < e → nat_abs (n *ℤ m) < 2 ^ 127 → d * e < 2 ^ 127
      → obtained_product (n /ℚ d) (m /ℚ e) ≡ Some ((n *ℤ m) /ℚ (d * e))
  pub raised : (n : ℤ) (d k : ℕ) → 0 < d → 0 < k → n /ℚ d ≡ (n *ℤ pos k) /ℚ (d * k)
  pub all : (ns ms : List ℤ) (D : ℕ) → IsPermutation ns ms → 0 < D → D < 2 ^ 127 → sizes ns < 2 ^ 127
      → obtained_from (Some 0ℚ) (map (λ n. Some (n /ℚ D)) ms) ≡ Some (total ns /ℚ D)
  pub over : (x : ℚ) (D : ℕ) → 0 < D → x.den ∣ D → x ≡ (x.num *ℤ pos (D / x.den)) /ℚ D
