-- Whole numbers that fit, and the twos of a number.
use Rattle.std.proofs.Common.{◌≡◌, ℕ, zero, suc, ◌+◌, ◌-◌, ◌*◌, ◌/◌, ◌%◌, ◌<◌, refl, sym, ◌∙◌, ap, arith, ℤ, pos, negsuc, unsigned_abs}
use Rattle.std.specs.Int.Count.{count_trailing_zeros, under}
use Rattle.std.specs.Prelude.{◌^◌, IfOk, IsErrOf, Some, Ok, Err, Result}
use Rattle.std.specs.Result.{result_ok}
use Rattle.std.proofs.Math.Nat.{pow-suc, mul_comm, div-div-eq-div-mul}
use mathlib.Core.Logic.{◌⊎◌, inl, inr}
use Rattle.airy_math.specs.Rational.{ℚ}
use Rattle.frac128.specs.declared.fraction.FracErr.{FracErr}
use Rattle.frac128.specs.declared.fraction.FracErr.TheVariants.{ZeroDen, Over}
use Rattle.frac128.proofs.TwosLemmas.{halves}

-- the part without the zeros at the end of a number
pub zeros_split : (k n : ℕ) → 0 < n → n < 2 ^ k → n / 2 ^ count_trailing_zeros k n * 2 ^ count_trailing_zeros k n ≡ n
unfolding count_trailing_zeros
zeros_split zero n p h = absurd (let e : 2 ^ 0 ≡ 1 = refl in omega arith)
zeros_split (suc k) n p h =
    let half : n / 2 < 2 ^ k = (let e = pow-suc 2 k in omega arith) in
    by (n % 2) refl (λ some. zeros_split k (n / 2) some half)
  where
    even : (t : ℕ) → n % 2 ≡ 0 → n / 2 / 2 ^ t * 2 ^ t ≡ n / 2 → n / 2 ^ suc t * 2 ^ suc t ≡ n
    even t e s =
        let same : n / 2 ^ suc t ≡ n / 2 / 2 ^ t = ap (λ x. n / x) (pow-suc 2 t ∙ mul_comm (2 ^ t) 2) ∙ sym (div-div-eq-div-mul n 2 (2 ^ t)) in
        ap (λ q. q * 2 ^ suc t) same ∙ halves n (n / 2 / 2 ^ t) t e s

    by : (d : ℕ) → n % 2 ≡ d → (0 < n / 2 → n / 2 / 2 ^ count_trailing_zeros k (n / 2) * 2 ^ count_trailing_zeros k (n / 2) ≡ n / 2)
        → n / 2 ^ under d (count_trailing_zeros k (n / 2)) * 2 ^ under d (count_trailing_zeros k (n / 2)) ≡ n
    by zero e f = even (count_trailing_zeros k (n / 2)) e (f (omega arith))
    by (suc d) e f = let a : n / 2 ^ 0 * 2 ^ 0 ≡ n = omega arith in a

-- a fraction of numbers in range is made
pub made : (r : Result ℚ FracErr) (q : ℚ) → (IsErrOf r ZeroDen → ⊥) → (IsErrOf r Over → ⊥) → IfOk r (λ f. f ≡ q) → result_ok r ≡ Some q
made (Ok f) q z o h = ap Some h
made (Err ZeroDen) q z o h = absurd (z refl)
made (Err Over) q z o h = absurd (o refl)

-- a number in range isn't the least one
pub not_least : (n : ℤ) (d : ℕ) → unsigned_abs n < 2 ^ 127 → (n ≡ negsuc (2 ^ 127 - 1)) ⊎ (pos d ≡ negsuc (2 ^ 127 - 1)) → ⊥
not_least n d h (inl e) = let a : unsigned_abs n ≡ 2 ^ 127 - 1 + 1 = ap unsigned_abs e in absurd (omega arith)
not_least n d h (inr e) = cc
