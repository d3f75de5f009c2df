-- Worked fractions, each by computation: what is obtained, what isn't, and texts.
use Rattle.std.specs.Prelude.{◌≡◌, ℕ, ◌^◌, ◌-◌, pos, negsuc, neg_ℤ, Some, None, [], ◌∷◌, ◌++◌, decimal, refl}
use Rattle.airy_math.specs.Rational.{ℚ, ◌/ℚ◌, ℚ_computes}
use Rattle.airy_math.specs.RationalLaws.{0ℚ, 1ℚ, half}
use Rattle.airy_math.specs.Obtained.{fits, obtained_sum, obtained_product}
use Rattle.frac128.specs.Fraction.{quotient, fraction_text}

-- To name this on an `unfolding` line opens what is obtained there, for `refl` at numbers.
unfoldable pub fractions_compute : ℕ → ℕ
unfolding ℚ_computes 0ℚ 1ℚ half fits obtained_sum obtained_product
fractions_compute n = n

-- 2^127 - 1, the greatest number of a fraction
unfoldable pub greatest : ℚ
unfolding ℚ_computes
greatest = pos (2 ^ 127 - 1) /ℚ 1

-- 2^126
unfoldable pub large : ℚ
unfolding ℚ_computes
large = pos (2 ^ 126) /ℚ 1

-- 2^126 below 1, the least fraction above 0 that is a power of two
unfoldable pub small : ℚ
unfolding ℚ_computes
small = pos 1 /ℚ (2 ^ 126)

lowest_terms : quotient (pos 4) (pos 8) ≡ half
unfolding fractions_compute
lowest_terms = refl

two_signs : quotient (negsuc 2) (negsuc 5) ≡ half
unfolding fractions_compute
two_signs = refl

sign_above : quotient (pos 3) (negsuc 5) ≡ neg_ℤ (pos 1) /ℚ 2
unfolding fractions_compute
sign_above = refl

sum_of_half_and_third : obtained_sum half (pos 1 /ℚ 3) ≡ Some (pos 5 /ℚ 6)
unfolding fractions_compute
sum_of_half_and_third = refl

sum_zero : obtained_sum (pos 1 /ℚ 6) (neg_ℤ (pos 1) /ℚ 6) ≡ Some 0ℚ
unfolding fractions_compute
sum_zero = refl

sum_too_great : obtained_sum greatest 1ℚ ≡ None
unfolding fractions_compute greatest
sum_too_great = refl

sum_too_low : obtained_sum (neg_ℤ (pos (2 ^ 127 - 1)) /ℚ 1) (neg_ℤ (pos 1) /ℚ 1) ≡ None
unfolding fractions_compute
sum_too_low = refl

product_too_great : obtained_product large (pos 2 /ℚ 1) ≡ None
unfolding fractions_compute large
product_too_great = refl

product_of_large_and_half : obtained_product large half ≡ Some (pos (2 ^ 125) /ℚ 1)
unfolding fractions_compute large
product_of_large_and_half = refl

-- the product of the denominators leaves the range, and the sum doesn't
sum_over_common : obtained_sum small small ≡ Some (pos 1 /ℚ (2 ^ 125))
unfolding fractions_compute small
sum_over_common = refl

-- the product of the numerators leaves the range, and the product doesn't
product_across : obtained_product (pos (2 ^ 126) /ℚ 3) (pos 3 /ℚ (2 ^ 126)) ≡ Some 1ℚ
unfolding fractions_compute
product_across = refl

-- a sum whose first part leaves the range is refused
sum_of_far_numbers : obtained_sum large (pos 1 /ℚ 4) ≡ None
unfolding fractions_compute large
sum_of_far_numbers = refl

-- 45 and 47 are the codes of `-` and `/`
text_of_fraction : fraction_text (neg_ℤ (pos 2) /ℚ 4) ≡ (45 ∷ decimal 1) ++ 47 ∷ decimal 2
unfolding fractions_compute
text_of_fraction = refl

text_of_whole : fraction_text (pos 12 /ℚ 4) ≡ decimal 3 ++ []
unfolding fractions_compute
text_of_whole = refl
