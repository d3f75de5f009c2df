-- A number that isn't 0 can be taken from both sides of an equation, and its powers aren't 0.
use Prim.Native.Nat.{ℕ, zero, suc, ◌*◌, ◌<◌}
use mathlib.Core.Path.{◌≡◌, refl, sym, ap, ◌∙◌}
use native.Mathlib.Omega.{arith}
use lib.IntN.{ℤ, pos, negsuc, ◌*ℤ◌, neg_ℤ, *ℤ_comm, zero-*ℤ}
use Rattle.std.proofs.lemmas.Int.{ints}
use Rattle.airy_math.specs.Ints.{*ℤ-neg}
use Rattle.airy_math.specs.Rational.{ℚ, ◌/ℚ◌, ◌*ℚ◌, same_fraction, some_pos, lowest_parts, lowest_whole, zero_lowest}
use Rattle.airy_math.specs.RationalLaws.{0ℚ, 1ℚ, 1ℚ_idl, *ℚ_assoc, by_fraction, mul_fractions}
use Rattle.airy_math.specs.Cuts.{power}
use Rattle.airy_math.proofs.SumLemmas.{*ℚ-0ℚ}

-- ---- the inverse

abbrev HasInverse : ℚ → Type 0
HasInverse x = (y : ℚ) × (y *ℚ x ≡ 1ℚ)

turned : (n : ℤ) (m d : ℕ) (y : ℤ) → 0 < m → 0 < d → y *ℤ n ≡ pos (d * m) → (y /ℚ m) *ℚ (n /ℚ d) ≡ 1ℚ
unfolding 1ℚ
turned n m d y p q h = mul_fractions y n m d p q ∙ same_fraction (y *ℤ n) (pos 1) (m * d) 1 (grind arith) (some_pos 0) (ap (λ t. t *ℤ pos 1) h ∙ ap pos (omega arith))

two_signs : (a b : ℤ) → neg_ℤ a *ℤ neg_ℤ b ≡ a *ℤ b
two_signs a b = *ℤ-neg (neg_ℤ a) b ∙ ap neg_ℤ (*ℤ_comm (neg_ℤ a) b ∙ *ℤ-neg b a) ∙ twice (b *ℤ a) ∙ *ℤ_comm b a
  where
    twice : (x : ℤ) → neg_ℤ (neg_ℤ x) ≡ x
    twice (pos zero) = refl
    twice (pos (suc n)) = refl
    twice (negsuc n) = refl

inverse_of : (x : ℚ) → (x ≡ 0ℚ → ⊥) → HasInverse x
unfolding 0ℚ
inverse_of x = by_fraction (λ x. (x ≡ 0ℚ → ⊥) → HasInverse x) (λ n d p. at n d p) x
  where
    at : (n : ℤ) (d : ℕ) → 0 < d → (n /ℚ d ≡ 0ℚ → ⊥) → HasInverse (n /ℚ d)
    at (pos zero) d p h = absurd (h (same_fraction (pos 0) (pos 0) d 1 p (some_pos 0) (zero-*ℤ (pos 1) ∙ sym (zero-*ℤ (pos d)))))
    at (pos (suc k)) d p h = (pos d /ℚ suc k, turned (pos (suc k)) (suc k) d (pos d) (some_pos k) p refl)
    at (negsuc k) d p h = (neg_ℤ (pos d) /ℚ suc k, turned (negsuc k) (suc k) d (neg_ℤ (pos d)) (some_pos k) p (two_signs (pos d) (pos (suc k))))

-- ---- what follows

pub times_same : (w x y : ℚ) → (w ≡ 0ℚ → ⊥) → w *ℚ x ≡ w *ℚ y → x ≡ y
times_same w x y h e = let i = inverse_of w h in sym (back i.0 x i.1) ∙ ap (λ t. i.0 *ℚ t) e ∙ back i.0 y i.1
  where
    back : (u x : ℚ) → u *ℚ w ≡ 1ℚ → u *ℚ (w *ℚ x) ≡ x
    back u x e = sym (*ℚ_assoc u w x) ∙ ap (λ t. t *ℚ x) e ∙ 1ℚ_idl x

one_not_zero : 1ℚ ≡ 0ℚ → ⊥
unfolding 1ℚ 0ℚ
one_not_zero e = apart (sym (lowest_parts (pos 1) 1 (lowest_whole (pos 1))).0 ∙ ap (λ x. x.num) e ∙ (lowest_parts (pos 0) 1 zero_lowest).0)
  where
    apart : pos 1 ≡ pos 0 → ⊥
    apart h = omega (arith, ints)

pub power_not_zero : (v : ℚ) (e : ℕ) → (v ≡ 0ℚ → ⊥) → power v e ≡ 0ℚ → ⊥
unfolding power
power_not_zero v zero h z = one_not_zero z
power_not_zero v (suc e) h z = power_not_zero v e h (times_same v (power v e) 0ℚ h (z ∙ sym (*ℚ-0ℚ v)))

pub power_none : (v : ℚ) (e : ℕ) → e ≡ 0 → power v e ≡ 0ℚ → ⊥
unfolding power
power_none v zero z h = one_not_zero h
power_none v (suc e) z h = absurd (omega arith)
