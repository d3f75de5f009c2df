-- For private functions and for proofs: no public contract rests on this file.
-- The numbers of a product and of a sum of two fractions, and where they are in range.
use Rattle.std.specs.Prelude.{ℕ, ◌/◌, ◌*◌, ◌^◌, ℤ, pos, ◌+ℤ◌, ◌*ℤ◌, unsigned_abs, int_div, Bool, ◌&&◌, nat_lt, cond, Option, Some, None}
use Rattle.std.specs.Option.{option_and_then}
use Rattle.airy_math.specs.Gcd.{gcd}

-- from -(2^127-1) to 2^127-1
abbrev pub range_fact : ℤ → Bool
range_fact z = nat_lt (unsigned_abs z) (2 ^ 127)

-- the number, where it is in range
abbrev pub ranged : ℤ → Option ℤ
ranged z = cond (range_fact z) (Some z) None

-- the sum, where it and its two parts are in range
abbrev pub ranged_sum : ℤ → ℤ → Option ℤ
ranged_sum l r = cond (range_fact l && range_fact r && range_fact (l +ℤ r)) (Some (l +ℤ r)) None

-- two sizes, where both are in range
abbrev pub sized : ℕ → ℕ → Option (ℕ × ℕ)
sized n m = cond (nat_lt n (2 ^ 127) && nat_lt m (2 ^ 127)) (Some (n, m)) None

-- the sizes n over m in lowest terms
unfoldable pub lowest_sizes : ℕ → ℕ → Option (ℕ × ℕ)
lowest_sizes n m = sized (n / gcd n m) (m / gcd n m)

-- of x/b and y/d: the two numerators over the least common denominator, and their sum
abbrev pub left_part : ℤ → ℕ → ℕ → ℤ
left_part x b d = x *ℤ pos (d / gcd b d)

abbrev pub right_part : ℤ → ℕ → ℕ → ℤ
right_part y b d = y *ℤ pos (b / gcd b d)

abbrev pub whole_part : ℤ → ℤ → ℕ → ℕ → ℤ
whole_part x y b d = left_part x b d +ℤ right_part y b d

-- that sum over that denominator in lowest terms, where the new denominator is in range
abbrev pub over_common : ℕ → ℕ → ℤ → Option (ℤ × ℕ)
over_common b d whole =
    let k = gcd (unsigned_abs whole) (gcd b d) in
    cond (nat_lt (b / gcd b d * (d / k)) (2 ^ 127)) (Some (int_div whole (pos k), b / gcd b d * (d / k))) None

-- the numbers of x/b + y/d, step by step
unfoldable pub lowest_sum : ℤ → ℕ → ℤ → ℕ → Option (ℤ × ℕ)
lowest_sum x b y d = option_and_then (over_common b d) (ranged_sum (left_part x b d) (right_part y b d))
