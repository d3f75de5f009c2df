-- Sums and products of fractions that need not be in lowest terms.
use Rattle.std.proofs.Common.{◌≡◌, subst, ℕ, zero, suc, ◌+◌, ◌-◌, ◌*◌, ◌/◌, ◌<◌, ◌≤◌, refl, sym, ◌∙◌, ap, ap₂, arith, ℤ, pos, negsuc, ◌+ℤ◌, ◌*ℤ◌, unsigned_abs}
use Rattle.std.specs.Prelude.{Option, Some, None, ◌^◌, nat_eq, false, FitsSigned}
use lib.Dec.{eqb}
use Rattle.std.specs.Int.{w64}
use Rattle.std.proofs.lemmas.Int.{unsigned_abs-mul, ints}
use Rattle.std.proofs.lemmas.Nat.{pow_pos, pow-add, mul-lt, mul-le, shl_below, pow_below}
use Rattle.std.proofs.Math.Nat.{pow-le-pow_right, div-div-eq-div-mul, lt-div-mul-add, mul-lt-mul_of_pos_right}
use mathlib.Core.Logic.{◌⊎◌, inl, inr}
use Rattle.std.proofs.lemmas.Bool.{cases_lt}
use Rattle.airy_math.specs.Rational.{ℚ, ◌/ℚ◌, positive, cross, parts_lem}
use Rattle.airy_math.specs.Obtained.{obtained_sum, obtained_product, both_obtained, ◌⊛◌}
use Rattle.running_sum.specs.Kept.{fraction_of}
use Rattle.running_sum.specs.Sizes.{IsRaisedSum}
use Rattle.running_sum.proofs.CertifiedLaw.{raised, product, sum}
use Rattle.airy_math.specs.RationalLaws.{positive_times}
use Rattle.frac128.proofs.SignLemmas.{word_size}

pub some_of : (n : ℤ) (o k : ℕ) → 0 < o → fraction_of n o k ≡ Some (n /ℚ (o * 2 ^ k))
unfolding fraction_of
some_of n zero k p = absurd (omega arith)
some_of n (suc o) k p = let e : nat_eq (suc o) 0 ≡ false = grind arith in rw e refl

pub none_of : (n : ℤ) (k : ℕ) → fraction_of n 0 k ≡ None
unfolding fraction_of
none_of n k = refl

none_right : (step : ℚ → ℚ → Option ℚ) (x : Option ℚ) → both_obtained step x None ≡ None
unfolding both_obtained
none_right step None = refl
none_right step (Some x) = refl

none_left : (step : ℚ → ℚ → Option ℚ) (y : Option ℚ) → both_obtained step None y ≡ None
unfolding both_obtained
none_left step y = refl

both_some : (step : ℚ → ℚ → Option ℚ) (x y : ℚ) → both_obtained step (Some x) (Some y) ≡ step x y
unfolding both_obtained
both_some step x y = refl

-- numbers of i and j bits
pub size-product : (a b : ℤ) (i j : ℕ) → unsigned_abs a < 2 ^ i → unsigned_abs b < 2 ^ j → i + j ≤ 127 → unsigned_abs (a *ℤ b) < 2 ^ 127
size-product a b i j p q h =
    let e = unsigned_abs-mul a b in
    let l = mul-lt (unsigned_abs a) (unsigned_abs b) (2 ^ i) (2 ^ j) p q in
    let s = pow-add 2 i j in
    let m : 2 ^ (i + j) ≤ 2 ^ 127 = pow-le-pow_right (omega arith) h in
    omega arith

-- ---- products

dens : (o p k l : ℕ) → (o * 2 ^ k) * (p * 2 ^ l) ≡ (o * p) * 2 ^ (k + l)
dens o p k l = let e = pow-add 2 k l in at o p (2 ^ k) (2 ^ l) ∙ ap (λ t. (o * p) * t) (sym e)
  where
    at : (o p a b : ℕ) → (o * a) * (p * b) ≡ (o * p) * (a * b)
    at o p a b = omega arith

pub product_of : (n m : ℤ) (o p k l : ℕ) → unsigned_abs (n *ℤ m) < 2 ^ 127 → (o * p) * 2 ^ (k + l) < 2 ^ 127
    → fraction_of (n *ℤ m) (o * p) (k + l) ≡ fraction_of n o k ⊛ fraction_of m p l
unfolding ◌⊛◌
product_of n m zero p k l h d = ap (λ t. fraction_of (n *ℤ m) t (k + l)) (zero-times p) ∙ none_of (n *ℤ m) (k + l) ∙ sym (ap (λ t. both_obtained obtained_product t (fraction_of m p l)) (none_of n k) ∙ none_left obtained_product _)
  where
    zero-times : (p : ℕ) → 0 * p ≡ 0
    zero-times p = omega arith
product_of n m (suc o) zero k l h d = ap (λ t. fraction_of (n *ℤ m) t (k + l)) (times-zero (suc o)) ∙ none_of (n *ℤ m) (k + l) ∙ sym (ap (λ t. both_obtained obtained_product (fraction_of n (suc o) k) t) (none_of m l) ∙ none_right obtained_product _)
  where
    times-zero : (o : ℕ) → o * 0 ≡ 0
    times-zero o = omega arith
product_of n m (suc o) (suc p) k l h d =
    let e = dens (suc o) (suc p) k l in
    some_of (n *ℤ m) (suc o * suc p) (k + l) (positive_times (suc o) (suc p) (omega arith) (omega arith))
    ∙ sym (ap₂ (both_obtained obtained_product) (some_of n (suc o) k (omega arith)) (some_of m (suc p) l (omega arith)) ∙ both_some obtained_product _ _
    ∙ product n m (suc o * 2 ^ k) (suc p * 2 ^ l) (positive_times (suc o) (2 ^ k) (omega arith) (pow_pos k)) (positive_times (suc p) (2 ^ l) (omega arith) (pow_pos l)) h (omega arith)
    ∙ ap (λ t. Some ((n *ℤ m) /ℚ t)) e)

-- ---- sums

-- n/(o 2^k) over w 2^t, where w is f times o
over_more : (n : ℤ) (o k f w t : ℕ) → 0 < w → o * f ≡ w → k ≤ t → fraction_of n o k ≡ Some ((n *ℤ pos (f * 2 ^ (t - k))) /ℚ (w * 2 ^ t))
over_more n zero k f w t p e h = absurd (omega arith)
over_more n (suc o) k zero w t p e h = absurd (omega arith)
over_more n (suc o) k (suc f) w t p e h =
    some_of n (suc o) k (omega arith)
    ∙ ap Some (raised n (suc o * 2 ^ k) (suc f * 2 ^ (t - k)) (positive_times (suc o) (2 ^ k) (omega arith) (pow_pos k)) (positive_times (suc f) (2 ^ (t - k)) (omega arith) (pow_pos (t - k)))
    ∙ ap (λ d. (n *ℤ pos (suc f * 2 ^ (t - k))) /ℚ d) (dens (suc o) (suc f) k (t - k) ∙ ap₂ (λ a b. a * 2 ^ b) e (back k t h)))
  where
    back : (k t : ℕ) → k ≤ t → k + (t - k) ≡ t
    back k t h = omega arith

-- The sum over a common denominator w 2^t: both numbers over it, their sum, and it are in range.
pub sum_of : (n m x y s : ℤ) (o p k l f g w t : ℕ) → 0 < w → o * f ≡ w → p * g ≡ w → k ≤ t → l ≤ t → w * 2 ^ t < 2 ^ 127
    → x ≡ n *ℤ pos (f * 2 ^ (t - k)) → y ≡ m *ℤ pos (g * 2 ^ (t - l)) → s ≡ x +ℤ y → unsigned_abs x < 2 ^ 127 → unsigned_abs y < 2 ^ 127 → unsigned_abs s < 2 ^ 127
    → fraction_of s w t ≡ both_obtained obtained_sum (fraction_of n o k) (fraction_of m p l)
sum_of n m x y s o p k l f g w t some eo ep hk hl d ex ey es hx hy hs =
    some_of s w t some ∙ ap (λ z. Some (z /ℚ (w * 2 ^ t))) es
    ∙ sym (ap₂ (both_obtained obtained_sum) (over_more n o k f w t some eo hk ∙ ap (λ z. Some (z /ℚ (w * 2 ^ t))) (sym ex)) (over_more m p l g w t some ep hl ∙ ap (λ z. Some (z /ℚ (w * 2 ^ t))) (sym ey))
    ∙ both_some obtained_sum _ _
    ∙ sum x y (w * 2 ^ t) (positive_times w (2 ^ t) some (pow_pos t)) d hx hy (rw es at hs))

-- ---- numbers by their lengths

pub below-power : (n i : ℕ) → n < 2 ^ i → i ≤ 127 → n < 2 ^ 127
below-power n i h l = let m : 2 ^ i ≤ 2 ^ 127 = pow-le-pow_right (omega arith) l in omega arith

pub size-shifted : (k j t : ℕ) → k < 2 ^ j → j + t ≤ 127 → k * 2 ^ t < 2 ^ 127
size-shifted k j t h l = below-power (k * 2 ^ t) (j + t) (shl_below k j t h) l

pub size-raised : (a : ℤ) (k i j t : ℕ) → unsigned_abs a < 2 ^ i → k < 2 ^ j → i + j + t ≤ 127 → unsigned_abs (a *ℤ pos (k * 2 ^ t)) < 2 ^ 127
size-raised a k i j t p q h = size-product a (pos (k * 2 ^ t)) i (j + t) p (shl_below k j t q) (omega arith)

pub size-dens : (o p i j t : ℕ) → o < 2 ^ i → p < 2 ^ j → i + j + t ≤ 127 → (o * p) * 2 ^ t < 2 ^ 127
size-dens o p i j t a b h = size-shifted (o * p) (i + j) t (let l = mul-lt o p (2 ^ i) (2 ^ j) a b in let e = pow-add 2 i j in omega arith) h

-- ---- fractions in lowest terms

pub common_parts : (v : ℚ) (a b : ℕ) → 0 < b → v ≡ pos a /ℚ b → a * v.den ≡ b * unsigned_abs v.num
common_parts v a b p e =
    let h : unsigned_abs v.num * b ≡ a * v.den = subst (λ w. unsigned_abs w.num * b ≡ a * w.den) (sym e) (sym (unsigned_abs-mul (pos a /ℚ b).num (pos b)) ∙ ap unsigned_abs (cross (pos a) b p) ∙ unsigned_abs-mul (pos a) (pos (pos a /ℚ b).den)) in
    omega arith

pub from_fraction : (v : ℚ) (o t : ℕ) → o * 2 ^ t ≡ v.den → fraction_of v.num o t ≡ Some v
from_fraction v zero t e = absurd (omega (arith, positive v))
from_fraction v (suc o) t e = some_of v.num (suc o) t (omega arith) ∙ ap (λ d. Some (v.num /ℚ d)) e ∙ ap Some (parts_lem v)

pub odd_above : (o t d : ℕ) → o * 2 ^ t ≡ d → 0 < d → 0 < o
odd_above zero t d e p = absurd (omega arith)
odd_above (suc o) t d e p = omega arith

pub few_twos : (k o t d : ℕ) → o * 2 ^ t ≡ d → 0 < d → d < 2 ^ k → t < k
few_twos k zero t d e p h = absurd (omega arith)
few_twos k (suc o) t d e p h = by (cases_lt t k)
  where
    by : (t < k) ⊎ (k ≤ t) → t < k
    by (inl l) = l
    by (inr l) = let m : 2 ^ k ≤ 2 ^ t = pow-le-pow_right (omega arith) l in absurd (omega arith)

pub size-odds : (o p i j t : ℕ) → o < 2 ^ i → p < 2 ^ j → i + j + t ≤ 127 → o * p < 2 ^ 127
size-odds o p i j t a b h = below-power (o * p) (i + j) (let l = mul-lt o p (2 ^ i) (2 ^ j) a b in let e = pow-add 2 i j in omega arith) (omega arith)

-- the sum over one denominator
pub sum_same : (n m s : ℤ) (o k l : ℕ) → l ≤ k → o * 2 ^ k < 2 ^ 127 → unsigned_abs n < 2 ^ 127 → IsRaisedSum n m (k - l) s
    → fraction_of s o k ≡ both_obtained obtained_sum (fraction_of n o k) (fraction_of m o l)
sum_same n m s zero k l h d hn r = none_of s k ∙ sym (ap (λ t. both_obtained obtained_sum t (fraction_of m 0 l)) (none_of n k) ∙ none_left obtained_sum _)
sum_same n m s (suc o) k l h d hn r =
    sum_of n m n (m *ℤ pos (2 ^ (k - l))) s (suc o) (suc o) k l 1 1 (suc o) k (omega arith) (omega arith) (omega arith) (omega arith) h d (self n k) (ap (λ p. m *ℤ pos p) (one_left (2 ^ (k - l)))) r.value hn r.raised_fits r.fits
  where
    one_right : (n : ℤ) → n *ℤ pos 1 ≡ n
    one_right n = omega (arith, ints)

    one_left : (p : ℕ) → p ≡ 1 * p
    one_left p = omega arith

    self : (n : ℤ) (k : ℕ) → n ≡ n *ℤ pos (1 * 2 ^ (k - k))
    self n k = let e : k - k ≡ 0 = omega arith in rw e (sym (one_right n))

-- ---- sums by a look at high halves

-- a number whose high half has at most 62 - t bits
pub small_raised : (n t : ℕ) → t ≤ 62 → n / 2 ^ 64 / 2 ^ (62 - t) ≡ 0 → n * 2 ^ t < 2 ^ 126
small_raised n t h z =
    let d = 2 ^ 64 * 2 ^ (62 - t) in
    let e : n / d ≡ 0 = sym (div-div-eq-div-mul n (2 ^ 64) (2 ^ (62 - t))) ∙ z in
    let some : 0 < d = positive_times (2 ^ 64) (2 ^ (62 - t)) (omega arith) (pow_pos (62 - t)) in
    let l = mul-lt-mul_of_pos_right (subst (λ q. n < q * d + d) e (lt-div-mul-add some)) (pow_pos t) in
    let s : 2 ^ (62 - t) * 2 ^ t ≡ 2 ^ 62 = sym (pow-add 2 (62 - t) t) ∙ ap (λ k. 2 ^ k) (let b : 62 - t + t ≡ 62 = omega arith in b) in
    omega arith

pub sum_fits : (a b : ℤ) → unsigned_abs a < 2 ^ 126 → unsigned_abs b < 2 ^ 126 → unsigned_abs (a +ℤ b) < 2 ^ 127
sum_fits a b p q = omega (arith, ints)

pub one_power : (k : ℕ) → k < 127 → 1 * 2 ^ k < 2 ^ 127
one_power k h = let l = pow_below k 127 h in omega arith

-- ---- words

pub words_fit : (a b : ℤ) → FitsSigned w64 a → FitsSigned w64 b → unsigned_abs (a *ℤ b) < 2 ^ 127
words_fit a b f g =
    let e = unsigned_abs-mul a b in
    let l = mul-le (unsigned_abs a) (unsigned_abs b) (2 ^ 63) (2 ^ 63) (word_size a f) (word_size b g) in
    omega arith

pub word_product : (n m : ℤ) (o p k l : ℕ) → 0 < o → 0 < p → unsigned_abs (n *ℤ m) < 2 ^ 127 → (o * p) * 2 ^ (k + l) < 2 ^ 127
    → fraction_of (n *ℤ m) (o * p) (k + l) ≡ Some (n /ℚ (o * 2 ^ k)) ⊛ Some (m /ℚ (p * 2 ^ l))
word_product n m o p k l a b h d = product_of n m o p k l h d ∙ ap₂ ◌⊛◌ (some_of n o k a) (some_of m p l b)
