-- The laws of sums and products, said of pairs of whole numbers that are compared by cross products.
use Rattle.std.specs.Prelude.{◌≡◌, ◌≢◌, ◌↔◌, ℕ, ◌/◌, ◌*◌, ◌<◌, ◌^◌, ◌-◌, ℤ, pos, neg_ℤ, ◌+ℤ◌, ◌*ℤ◌, ◌≤ℤ◌, unsigned_abs, Some, IsSome}
use Rattle.airy_math.specs.Gcd.{gcd}
use Rattle.airy_math.specs.Rational.{ℚ, ◌/ℚ◌, neg_ℚ}
use Rattle.airy_math.specs.Obtained.{obtained_sum, obtained_product}
use Rattle.frac128.specs.Fraction.{quotient}

-- x is the number n/d: the two numbers of x, and n and d, have equal cross products
pub record IsNumber (x : ℚ) (n : ℤ) (d : ℕ) : Type 0 where
  pub some : 0 < d
  pub cross : x.num *ℤ pos d ≡ n *ℤ pos x.den

-- and n/d is in lowest terms
pub record IsLowest (x : ℚ) (n : ℤ) (d : ℕ) : Type 0 where
  pub is : IsNumber x n d
  pub coprime : gcd (unsigned_abs n) d ≡ 1

-- Each pair n/d is a number, also where d is below 0, and each number is a pair in lowest terms. n/d and m/e are one number
-- exactly where n e is m d. The negative of n/d is (-n)/d, the sum of n/d and m/e is (n e + m d)/(d e), the product (n m)/(d e).
pub record SchoolRules : Type 0 where
  pub number : (n : ℤ) (d : ℕ) → 0 < d → IsNumber (n /ℚ d) n d
  pub quotient_of : (n d : ℤ) → d ≢ pos 0 → (quotient n d).num *ℤ d ≡ n *ℤ pos (quotient n d).den
  pub lowest : (x : ℚ) → IsLowest x x.num x.den
  pub equal : (x y : ℚ) (n m : ℤ) (d e : ℕ) → IsNumber x n d → IsNumber y m e → (x ≡ y) ↔ (n *ℤ pos e ≡ m *ℤ pos d)
  pub negative : (x : ℚ) (n : ℤ) (d : ℕ) → IsNumber x n d → IsNumber (neg_ℚ x) (neg_ℤ n) d
  pub sum : (x y s : ℚ) (n m : ℤ) (d e : ℕ) → IsNumber x n d → IsNumber y m e → obtained_sum x y ≡ Some s
      → IsNumber s (n *ℤ pos e +ℤ m *ℤ pos d) (d * e)
  pub product : (x y p : ℚ) (n m : ℤ) (d e : ℕ) → IsNumber x n d → IsNumber y m e → obtained_product x y ≡ Some p
      → IsNumber p (n *ℤ m) (d * e)

-- from -(2^127-1) to 2^127-1
pub record IsWithin (z : ℤ) : Type 0 where
  pub low : neg_ℤ (pos (2 ^ 127 - 1)) ≤ℤ z
  pub high : z ≤ℤ pos (2 ^ 127 - 1)

-- The four numbers of a sum a/b + c/d. With g the greatest common divisor of b and d these are a (d/g), c (b/g), their sum s,
-- and (b/g) (d/k), where k is the greatest common divisor of s and g.
pub record SumWithin (a : ℤ) (b : ℕ) (c : ℤ) (d : ℕ) : Type 0 where
  pub left : IsWithin (a *ℤ pos (d / gcd b d))
  pub right : IsWithin (c *ℤ pos (b / gcd b d))
  pub whole : IsWithin (a *ℤ pos (d / gcd b d) +ℤ c *ℤ pos (b / gcd b d))
  pub den : IsWithin (pos (b / gcd b d * (d / gcd (unsigned_abs (a *ℤ pos (d / gcd b d) +ℤ c *ℤ pos (b / gcd b d))) (gcd b d))))

-- A sum of fractions in lowest terms is obtained exactly where its four numbers are in range. A product is obtained exactly
-- where the two numbers p and q of it in lowest terms are.
pub record RangeRules : Type 0 where
  pub sum : (x y : ℚ) (a c : ℤ) (b d : ℕ) → IsLowest x a b → IsLowest y c d → IsSome (obtained_sum x y) ↔ SumWithin a b c d
  pub product : (x y : ℚ) (n m p : ℤ) (d e q : ℕ) → IsNumber x n d → IsNumber y m e → 0 < q → gcd (unsigned_abs p) q ≡ 1
      → (n *ℤ m) *ℤ pos q ≡ p *ℤ pos (d * e)
      → IsSome (obtained_product x y) ↔ (IsWithin p × IsWithin (pos q))
