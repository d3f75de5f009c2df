-- Numbers and values, as words.
use Rattle.std.specs.Prelude.{ℕ, zero, suc, ◌+◌, ◌-◌, ◌*◌, ◌^◌, ℤ, pos, neg_ℤ, List, [], ◌∷◌}
use Rattle.std.specs.Prelude.{length, Bool, ◌&&◌, ◌==◌, nat_le, nat_lt, cond, Option, Some, None}
use Rattle.std.specs.Option.{option_map}
use Rattle.airy_math.specs.Rational.{ℚ, ◌/ℚ◌, neg_ℚ}

abbrev pub is_digit : ℕ → Bool
is_digit c = nat_le 48 c && nat_le c 57

-- the number of the digits of n and then these, where they are digits
unfoldable pub number_on : ℕ → List ℕ → Option ℕ
number_on n [] = Some n
number_on n (c ∷ cs) = cond (is_digit c) (number_on (n * 10 + (c - 48)) cs) None

-- The number of a word of one decimal digit or more. Zeros may lead.
unfoldable pub number_of : List ℕ → Option ℕ
number_of [] = None
number_of (c ∷ cs) = number_on 0 (c ∷ cs)

-- where it is below the limit
unfoldable pub below : ℕ → Option ℕ → Option ℕ
below limit None = None
below limit (Some n) = cond (nat_lt n limit) (Some n) None

-- where it isn't 0
unfoldable pub not_zero : Option ℕ → Option ℕ
not_zero None = None
not_zero (Some zero) = None
not_zero (Some (suc n)) = Some (suc n)

-- an index: a number below dim
unfoldable pub index_of : ℕ → List ℕ → Option ℕ
index_of dim word = below dim (number_of word)

-- a dim: a number from 1 to 32
unfoldable pub dim_of : List ℕ → Option ℕ
dim_of word = not_zero (below 33 (number_of word))

-- ---- the numbers of a law

-- a number of one digit or two
unfoldable pub short_of : List ℕ → Option ℕ
short_of word = cond (nat_le (length word) 2) (number_of word) None

-- A number of a law: an optional sign, then one digit or two.
unfoldable pub signed_of : List ℕ → Option ℤ
signed_of [] = None
signed_of (c ∷ cs) =
    cond (c == 43) (option_map pos (short_of cs))
    (cond (c == 45) (option_map (λ n. neg_ℤ (pos n)) (short_of cs)) (option_map pos (short_of (c ∷ cs))))

-- ---- values

-- a number from 0 to 2^127-1
unfoldable pub whole_of : List ℕ → Option ℕ
whole_of word = below (2 ^ 127) (number_of word)

abbrev pub is_stroke : ℕ → Bool
is_stroke c = c == 47

-- what stands before the first stroke
unfoldable pub before_stroke : List ℕ → List ℕ
before_stroke [] = []
before_stroke (c ∷ cs) = cond (is_stroke c) [] (c ∷ before_stroke cs)

-- what begins with the first stroke
unfoldable pub from_stroke : List ℕ → List ℕ
from_stroke [] = []
from_stroke (c ∷ cs) = cond (is_stroke c) (c ∷ cs) (from_stroke cs)

-- a number from 1 to 2^127-1 behind a stroke, and 1 where there is no stroke
unfoldable pub denominator_of : List ℕ → Option ℕ
denominator_of [] = Some 1
denominator_of (stroke ∷ word) = not_zero (whole_of word)

unfoldable pub quotient_of : Option ℕ → Option ℕ → Option ℚ
quotient_of None d = None
quotient_of (Some n) None = None
quotient_of (Some n) (Some d) = Some (pos n /ℚ d)

-- n or n/d
unfoldable pub size_of : List ℕ → Option ℚ
size_of word = quotient_of (whole_of (before_stroke word)) (denominator_of (from_stroke word))

-- The fraction of a value: an optional sign, then n or n/d.
unfoldable pub read_value_of : List ℕ → Option ℚ
read_value_of [] = None
read_value_of (c ∷ cs) = cond (c == 43) (size_of cs) (cond (c == 45) (option_map neg_ℚ (size_of cs)) (size_of (c ∷ cs)))
