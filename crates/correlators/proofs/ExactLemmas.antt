-- What is obtained of divisions is the quotient by the factorials.
use Rattle.std.proofs.Common.{◌≡◌, ℕ, zero, suc, ◌+◌, ◌*◌, ◌/◌, ◌<◌, List, [], ◌∷◌, map, Option, Some, None, refl, sym, ap, subst, ◌∙◌, arith, pos, option_and_then}
use Rattle.correlators.proofs.Words.{mul-div_cancel_left, ℚ, ◌/ℚ◌, ◌*ℚ◌, 1ℚ, *ℚ_assoc, mul_fractions, below, count_from, factorial, obtained_product, product_exact, 1ℚ_idr, odd_factorial, odd_factorials, length_factorials, divided, divisors, over_indices, over_odd_factorials, over_factorials}
use Rattle.std.proofs.Math.Nat.{div-one}
use Rattle.airy_math.specs.RationalLaws.{positive_times}

over_both : (v : ℚ) (m n : ℕ) → 0 < m → 0 < n → (v *ℚ (pos 1 /ℚ m)) *ℚ (pos 1 /ℚ n) ≡ v *ℚ (pos 1 /ℚ (m * n))
over_both v m n h k = *ℚ_assoc v (pos 1 /ℚ m) (pos 1 /ℚ n) ∙ ap (λ x. v *ℚ x) (mul_fractions (pos 1) (pos 1) m n h k)

over_one : (v : ℚ) (n : ℕ) → n ≡ 1 → v ≡ v *ℚ (pos 1 /ℚ n)
unfolding 1ℚ
over_one v n e = sym (ap (λ n. v *ℚ (pos 1 /ℚ n)) e ∙ 1ℚ_idr v)

-- where two steps give a value, the first gives one
both_steps : (f : ℚ → Option ℚ) (o : Option ℚ) (w : ℚ) → option_and_then f o ≡ Some w → (u : ℚ) × (o ≡ Some u) × (f u ≡ Some w)
both_steps f None w e = cc
both_steps f (Some u) w e = (u, refl, e)

-- the divisors of d make P (2 d / step), and all that of the list
module _ (step : ℕ) (P : ℕ → ℕ) (first : P 0 ≡ 1) (next : (k : ℕ) → P (suc k) ≡ P k * (step * k + (step + 1)))
    (whole : List ℕ → ℕ) (none : whole [] ≡ 1) (more : (d : ℕ) (ds : List ℕ) → whole (d ∷ ds) ≡ P (2 * d / step) * whole ds) where
  some : (k : ℕ) → 0 < P k
  some zero = omega (arith, first)
  some (suc k) = subst (λ n. 0 < n) (sym (next k)) (positive_times (P k) (step * k + (step + 1)) (some k) (omega arith))

  all_some : (ds : List ℕ) → 0 < whole ds
  all_some [] = omega (arith, none)
  all_some (d ∷ ds) = subst (λ n. 0 < n) (sym (more d ds)) (positive_times (P (2 * d / step)) (whole ds) (some (2 * d / step)) (all_some ds))

  from_the : (n k : ℕ) (v w : ℚ) → divided (map (λ k. step * k + (step + 1)) (count_from k n)) (v *ℚ (pos 1 /ℚ P k)) ≡ Some w → w ≡ v *ℚ (pos 1 /ℚ P (k + n))
  unfolding divided count_from
  from_the zero k v w e = let s : w ≡ v *ℚ (pos 1 /ℚ P k) = cc in s ∙ ap (λ m. v *ℚ (pos 1 /ℚ P m)) (omega arith)
  from_the (suc n) k v w e =
      let rest = divided (map (λ k. step * k + (step + 1)) (count_from (suc k) n)) in
      let both = both_steps rest (obtained_product (v *ℚ (pos 1 /ℚ P k)) (pos 1 /ℚ (step * k + (step + 1)))) w e in
      let then : both.0 ≡ v *ℚ (pos 1 /ℚ P (suc k)) = product_exact _ _ both.0 both.1 ∙ over_both v (P k) (step * k + (step + 1)) (some k) (omega arith) ∙ ap (λ m. v *ℚ (pos 1 /ℚ m)) (sym (next k)) in
      from_the n (suc k) v w (subst (λ u. rest u ≡ Some w) then both.2) ∙ ap (λ m. v *ℚ (pos 1 /ℚ P m)) (omega arith)

  exact : (idx : List ℕ) (v w : ℚ) → over_indices step idx v ≡ Some w → w ≡ v *ℚ (pos 1 /ℚ whole idx)
  unfolding over_indices divisors below
  exact [] v w e = let s : w ≡ v = cc in s ∙ over_one v (whole []) none
  exact (d ∷ ds) v w e =
      let both = both_steps (over_indices step ds) (divided (divisors step d) v) w e in
      exact ds both.0 w both.2
      ∙ ap (λ u. u *ℚ (pos 1 /ℚ whole ds)) (from_the (2 * d / step) 0 v both.0 (ap (divided (divisors step d)) (sym (over_one v (P 0) first)) ∙ both.1) ∙ ap (λ m. v *ℚ (pos 1 /ℚ P m)) (omega arith))
      ∙ over_both v (P (2 * d / step)) (whole ds) (some (2 * d / step)) (all_some ds) ∙ ap (λ m. v *ℚ (pos 1 /ℚ m)) (sym (more d ds))

pub odd_exact : (idx : List ℕ) (v w : ℚ) → over_odd_factorials idx v ≡ Some w → w ≡ v *ℚ (pos 1 /ℚ odd_factorials idx)
unfolding over_odd_factorials odd_factorials odd_factorial
odd_exact = exact 2 odd_factorial refl (λ k. refl) odd_factorials refl (λ d ds. ap (λ m. odd_factorial m * odd_factorials ds) (sym (mul-div_cancel_left d (omega arith))))

pub all_exact : (idx : List ℕ) (v w : ℚ) → over_factorials idx v ≡ Some w → w ≡ v *ℚ (pos 1 /ℚ length_factorials idx)
unfolding over_factorials length_factorials factorial
all_exact = exact 1 (λ k. factorial (suc k)) refl (λ k. omega arith) length_factorials refl (λ d ds. ap (λ m. factorial m * length_factorials ds) (last d))
  where
    last : (d : ℕ) → 2 * d + 1 ≡ suc (2 * d / 1)
    last d = omega (arith, div-one (2 * d))
