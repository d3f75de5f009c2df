-- Zeros are obtained: a product with a factor 0 is 0, and adding 0 leaves a number in range as it is.
use Rattle.std.proofs.Common.{ℕ, ◌<◌, ◌^◌, ◌≡◌, refl, ◌∙◌, true, ◌&&◌, cond, List, [], ◌∷◌, ◌++◌, ℤ, pos, ◌+ℤ◌, ◌*ℤ◌, nat_abs, Option, Some, None}
use lib.IntN.{*ℤ-one, *ℤ_comm, +ℤ_comm, +ℤ_idl}
use Rattle.std.proofs.lemmas.Bool.{lt-ltb}
use Rattle.airy_math.specs.Gcd.{gcd, IsGcd-gcd}
use Rattle.airy_math.specs.Rational.{ℚ, ℚ_computes, gcd_one, one_gcd}
use Rattle.airy_math.specs.RationalLaws.{0ℚ, 0ℚ_idl, 0ℚ-*ℚ}
use Rattle.airy_math.specs.Obtained.{fits, IsInRange, obtained_sum, obtained_product, both_obtained, obtained_from}
use Rattle.airy_math.proofs.SumLemmas.{0ℚ_idr, *ℚ-0ℚ}
use Rattle.airy_math.proofs.IntLemmas.{*ℤ-one'}

fits-lem : (z : ℤ) → nat_abs z < 2 ^ 127 → fits z ≡ true
unfolding fits
fits-lem z h = lt-ltb _ _ h

plus_zero : (z : ℤ) → z +ℤ pos 0 ≡ z
plus_zero z = +ℤ_comm z (pos 0) ∙ +ℤ_idl z

num_zero : 0ℚ.num ≡ pos 0
unfolding 0ℚ ℚ_computes
num_zero = refl

den_zero : 0ℚ.den ≡ 1
unfolding 0ℚ ℚ_computes
den_zero = refl

fits_zero : fits (pos 0) ≡ true
unfolding fits
fits_zero = refl

-- adding 0 leaves a number in range as it is
pub sum_zero : (x : ℚ) → IsInRange x → obtained_sum x 0ℚ ≡ Some x
unfolding obtained_sum
sum_zero x h =
    let num = fits-lem x.num h.num in
    let den = fits-lem (pos x.den) h.den in
    simp (den_zero, num_zero, gcd_one, *ℤ-one', native.Mathlib.Nat.zero-mul, plus_zero, native.Mathlib.Nat.div-one, native.Mathlib.Nat.mul-one, num, den, fits_zero, 0ℚ_idr)

-- a number in range is what it gives added to 0
pub zero_sum : (x : ℚ) → IsInRange x → obtained_sum 0ℚ x ≡ Some x
unfolding obtained_sum
zero_sum x h =
    let num = fits-lem x.num h.num in
    let den = fits-lem (pos x.den) h.den in
    simp (den_zero, num_zero, one_gcd, gcd_one, *ℤ-one', native.Mathlib.Nat.zero-mul, +ℤ_idl, native.Mathlib.Nat.div-one, native.Mathlib.Nat.one-mul, num, den, fits_zero, 0ℚ_idl)

zero_fits : cond (fits 0ℚ.num && fits (pos 0ℚ.den)) (Some 0ℚ) None ≡ Some 0ℚ
unfolding fits 0ℚ ℚ_computes
zero_fits = refl

-- a product with a factor 0 is obtained and 0
pub product_zero : (y : ℚ) → obtained_product 0ℚ y ≡ Some 0ℚ
unfolding obtained_product
product_zero y = rw (0ℚ-*ℚ y) zero_fits

pub product_zero_last : (x : ℚ) → obtained_product x 0ℚ ≡ Some 0ℚ
unfolding obtained_product
product_zero_last x = rw (*ℚ-0ℚ x) zero_fits

pub from_append : (s : Option ℚ) (ts us : List (Option ℚ)) → obtained_from s (ts ++ us) ≡ obtained_from (obtained_from s ts) us
unfolding obtained_from
from_append s [] us = refl
from_append s (t ∷ ts) us = from_append (both_obtained obtained_sum s t) ts us
