-- The laws of fractions as pairs of whole numbers.
use Rattle.std.proofs.Common.{◌≡◌, ℕ, suc, zero, ◌*◌, ◌/◌, ◌<◌, Bool, true, false, refl, sym, ◌∙◌, ap, ap₂, subst, arith, ℤ, pos, negsuc, neg_ℤ, ◌+ℤ◌, ◌*ℤ◌, unsigned_abs, Some, None, IsSome, cond, ◌&&◌, ◌^◌, ◌↔◌, ◌≢◌}
use Rattle.frac128.proofs.Words.{and_parts, ints, gcd, ℚ, ◌/ℚ◌, ◌+ℚ◌, ◌*ℚ◌, neg_ℚ, parts_lem, same_fraction, fits, obtained_sum, obtained_product, quotient}
use Rattle.std.proofs.Math.IntN.{*ℤ_comm}
use Rattle.airy_math.specs.Ints.{*ℤ-neg}
use Rattle.airy_math.specs.Rational.{positive, coprime, cross, cross_from_same, lowest_parts, is_lowest}
use Rattle.airy_math.specs.RationalLaws.{add_fractions, mul_fractions, positive_times}
use Rattle.airy_math.proofs.ObtainedLaw.{sum_exact, product_exact}
use Rattle.frac128.specs.Laws.{IsNumber, IsLowest, SchoolRules, IsWithin, SumWithin, RangeRules}
use Rattle.frac128.proofs.SignLemmas.{nat_lt-true, below-nat_lt}

number_of : (n : ℤ) (d : ℕ) → 0 < d → IsNumber (n /ℚ d) n d
number_of n d p = record { some = p; cross = cross n d p }

from_number : (x : ℚ) (n : ℤ) (d : ℕ) → IsNumber x n d → x ≡ n /ℚ d
from_number x n d h = sym (parts_lem x) ∙ same_fraction x.num n x.den d (positive x) h.some h.cross

to_number : (x : ℚ) (n : ℤ) (d : ℕ) → 0 < d → x ≡ n /ℚ d → IsNumber x n d
to_number x n d p e = subst (λ y. IsNumber y n d) (sym e) (number_of n d p)

equal : (x y : ℚ) (n m : ℤ) (d e : ℕ) → IsNumber x n d → IsNumber y m e → (x ≡ y) ↔ (n *ℤ pos e ≡ m *ℤ pos d)
equal x y n m d e h k =
    let a = from_number x n d h in
    let b = from_number y m e k in
    (λ s. cross_from_same n m d e h.some k.some (sym a ∙ s ∙ b), λ s. a ∙ same_fraction n m d e h.some k.some s ∙ sym b)

neg-times : (a b : ℤ) → neg_ℤ a *ℤ b ≡ neg_ℤ (a *ℤ b)
neg-times a b = *ℤ_comm (neg_ℤ a) b ∙ *ℤ-neg b a ∙ ap neg_ℤ (*ℤ_comm b a)

negative : (x : ℚ) (n : ℤ) (d : ℕ) → IsNumber x n d → IsNumber (neg_ℚ x) (neg_ℤ n) d
unfolding neg_ℚ
negative x n d h = to_number (neg_ℤ x.num /ℚ x.den) (neg_ℤ n) d h.some
    (same_fraction (neg_ℤ x.num) (neg_ℤ n) x.den d (positive x) h.some (neg-times x.num (pos d) ∙ ap neg_ℤ h.cross ∙ sym (neg-times n (pos x.den))))

sum : (x y s : ℚ) (n m : ℤ) (d e : ℕ) → IsNumber x n d → IsNumber y m e → obtained_sum x y ≡ Some s → IsNumber s (n *ℤ pos e +ℤ m *ℤ pos d) (d * e)
sum x y s n m d e h k o = to_number s (n *ℤ pos e +ℤ m *ℤ pos d) (d * e) (positive_times d e h.some k.some)
    (sum_exact x y s o ∙ ap₂ ◌+ℚ◌ (from_number x n d h) (from_number y m e k) ∙ add_fractions n m d e h.some k.some)

product : (x y p : ℚ) (n m : ℤ) (d e : ℕ) → IsNumber x n d → IsNumber y m e → obtained_product x y ≡ Some p → IsNumber p (n *ℤ m) (d * e)
product x y p n m d e h k o = to_number p (n *ℤ m) (d * e) (positive_times d e h.some k.some)
    (product_exact x y p o ∙ ap₂ ◌*ℚ◌ (from_number x n d h) (from_number y m e k) ∙ mul_fractions n m d e h.some k.some)

neg-neg : (z : ℤ) → neg_ℤ (neg_ℤ z) ≡ z
neg-neg (pos zero) = refl
neg-neg (pos (suc n)) = refl
neg-neg (negsuc n) = refl

quotient_of : (n d : ℤ) → d ≢ pos 0 → (quotient n d).num *ℤ d ≡ n *ℤ pos (quotient n d).den
quotient_of n (pos zero) h = absurd (h refl)
quotient_of n (pos (suc d)) h = cross n (suc d) (omega arith)
quotient_of n (negsuc d) h =
    let x = neg_ℤ n /ℚ suc d in
    *ℤ-neg x.num (pos (suc d)) ∙ ap neg_ℤ (cross (neg_ℤ n) (suc d) (omega arith)) ∙ ap neg_ℤ (neg-times n (pos x.den)) ∙ neg-neg (n *ℤ pos x.den)

pub school_rules : SchoolRules
school_rules = record {
  number = number_of;
  quotient_of = quotient_of;
  lowest = λ x. record { is = record { some = positive x; cross = refl }; coprime = coprime x };
  equal = equal;
  negative = negative;
  sum = sum;
  product = product;
}

-- ---- the range

fits_within : (z : ℤ) → fits z ≡ true → IsWithin z
unfolding fits
fits_within z e =
    let h : unsigned_abs z < 2 ^ 127 = below-nat_lt (unsigned_abs z) (2 ^ 127) e in
    record { low = omega (arith, ints); high = omega (arith, ints) }

within_fits : (z : ℤ) → IsWithin z → fits z ≡ true
unfolding fits
within_fits z h =
    let l = h.low in
    let k = h.high in
    nat_lt-true (unsigned_abs z) (2 ^ 127) (omega (arith, ints))

some_true : (b : Bool) (x : ℚ) → IsSome (cond b (Some x) None) → b ≡ true
some_true true x h = refl
some_true false x h = h

true_some : (b : Bool) (x : ℚ) → b ≡ true → IsSome (cond b (Some x) None)
true_some true x e = refl
true_some false x e = e

all_true : (a b c d : Bool) → a ≡ true → b ≡ true → c ≡ true → d ≡ true → (a && b && c && d) ≡ true
all_true a b c d p q r s = ap₂ (λ x y. x && b && c && y) p s ∙ ap₂ (λ x y. true && x && y && true) q r

-- the two numbers of x, where x is n/d in lowest terms
numbers_are : (x : ℚ) (n : ℤ) (d : ℕ) → IsLowest x n d → (x.num ≡ n) × (x.den ≡ d)
numbers_are x n d h =
    let e = from_number x n d h.is in
    let k = lowest_parts n d (is_lowest n d h.is.some h.coprime) in
    (ap (λ w. w.num) e ∙ k.0, ap (λ w. w.den) e ∙ k.1)

sum_at : (x y : ℚ) → IsSome (obtained_sum x y) ↔ SumWithin x.num x.den y.num y.den
unfolding obtained_sum
sum_at x y =
    let g = gcd x.den y.den in
    let l = x.num *ℤ pos (y.den / g) in
    let r = y.num *ℤ pos (x.den / g) in
    let m = x.den / g * (y.den / gcd (unsigned_abs (l +ℤ r)) g) in
    let b = fits l && fits r && fits (l +ℤ r) && fits (pos m) in (
      λ h.
          let p = and_parts (fits l && fits r && fits (l +ℤ r)) (fits (pos m)) (some_true b (x +ℚ y) h) in
          let q = and_parts (fits l && fits r) (fits (l +ℤ r)) p.0 in
          let t = and_parts (fits l) (fits r) q.0 in
          record { left = fits_within l t.0; right = fits_within r t.1; whole = fits_within (l +ℤ r) q.1; den = fits_within (pos m) p.1 },
      λ h. true_some b (x +ℚ y) (all_true (fits l) (fits r) (fits (l +ℤ r)) (fits (pos m)) (within_fits l h.left) (within_fits r h.right) (within_fits (l +ℤ r) h.whole) (within_fits (pos m) h.den)),
    )

sum_range : (x y : ℚ) (a c : ℤ) (b d : ℕ) → IsLowest x a b → IsLowest y c d → IsSome (obtained_sum x y) ↔ SumWithin a b c d
sum_range x y a c b d h k =
    let p = numbers_are x a b h in
    let q = numbers_are y c d k in
    subst (λ w. IsSome (obtained_sum x y) ↔ w) (ap₂ (λ s t. SumWithin s t y.num y.den) p.0 p.1 ∙ ap₂ (λ s t. SumWithin a b s t) q.0 q.1) (sum_at x y)

product_range : (x y : ℚ) (n m p : ℤ) (d e q : ℕ) → IsNumber x n d → IsNumber y m e → 0 < q → gcd (unsigned_abs p) q ≡ 1 → (n *ℤ m) *ℤ pos q ≡ p *ℤ pos (d * e)
    → IsSome (obtained_product x y) ↔ (IsWithin p × IsWithin (pos q))
unfolding obtained_product
product_range x y n m p d e q hx hy some none cross =
    let z = x *ℚ y in
    let same : z ≡ p /ℚ q =
    ap₂ ◌*ℚ◌ (from_number x n d hx) (from_number y m e hy) ∙ mul_fractions n m d e hx.some hy.some
    ∙ same_fraction (n *ℤ m) p (d * e) q (positive_times d e hx.some hy.some) some cross in
    let k = numbers_are z p q (record { is = to_number z p q some same; coprime = none }) in (
      λ h.
          let t = and_parts (fits z.num) (fits (pos z.den)) (some_true (fits z.num && fits (pos z.den)) z h) in
          (subst (λ w. IsWithin w) k.0 (fits_within z.num t.0), subst (λ w. IsWithin (pos w)) k.1 (fits_within (pos z.den) t.1)),
      λ h. true_some (fits z.num && fits (pos z.den)) z
          (ap₂ (λ a b. a && b) (ap fits k.0 ∙ within_fits p h.0) (ap (λ w. fits (pos w)) k.1 ∙ within_fits (pos q) h.1)),
    )

pub range_rules : RangeRules
range_rules = record { sum = sum_range; product = product_range }
