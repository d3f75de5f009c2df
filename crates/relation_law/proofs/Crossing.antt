-- A sum that lacks one member, and two sums that are one sum over all whole numbers.
use Prim.Native.Nat.{ℕ, suc, ◌+◌, ◌*◌, ◌-◌, ◌<◌, ◌≤◌}
use mathlib.Core.Path.{◌≡◌, sym, ap, ap₂, ◌∙◌}
use native.Mathlib.Omega.{arith}
use Rattle.airy_math.specs.Curves.{reach}
use Rattle.relation_law.proofs.Sequences.{gather, +ℚ_cancel, sum-below_split, sum-flip, reach-same, square, factors, window, odd_window}
use Rattle.airy_math.specs.Rational.{ℚ, ◌+ℚ◌, ◌*ℚ◌, whole}
use Rattle.airy_math.specs.RationalLaws.{1ℚ_idl, +ℚ_assoc, *ℚ_comm, sums_q}
use Rattle.airy_math.specs.Sums.{sum_over, below}
use Rattle.airy_math.proofs.SumLemmas.{sum-add, sum-scale, sum-below_front}
use Rattle.airy_math.proofs.StartLaw.{whole-one}
use Rattle.airy_math.proofs.BelowDimLaw.{sum-below_cong}

-- where q is one less than p, the sum lacks its first member
module _ (c : ℕ → ℚ) (p q r t L : ℕ) (low : p ≤ suc q) (high : r < L + t) where
  abbrev S : ℚ
  S = reach (square c) (r + p) (q + t)

  abbrev first : ℚ
  first = reach c p (suc q) *ℚ reach c (suc r) t

  same_S : reach (square c) (suc r + p) (suc q + t) ≡ S
  same_S = reach-same (square c) (suc r + p) (suc q + t) (r + p) (q + t) (omega arith)

  same_first : factors c p (suc q) (suc r) t 0 ≡ first
  unfolding factors
  same_first = ap₂ ◌*ℚ◌ (reach-same c (0 + p) (suc q) p (suc q) (omega arith)) (reach-same c (suc r) (0 + t) (suc r) t (omega arith))

  same_next : (a : ℕ) → factors c p (suc q) (suc r) t (suc a) ≡ factors c p q r t a
  unfolding factors
  same_next a = ap₂ ◌*ℚ◌ (reach-same c (suc a + p) (suc q) (a + p) q (omega arith)) (reach-same c (suc r) (suc a + t) r (a + t) (omega arith))

  plain : first +ℚ sum_over (below L) (factors c p q r t) ≡ S
  plain =
      ap₂ ◌+ℚ◌ (sym same_first) (sum-below_cong (factors c p q r t) (λ a. factors c p (suc q) (suc r) t (suc a)) L (λ a h. sym (same_next a)))
      ∙ sym (sum-below_front (factors c p (suc q) (suc r) t) L)
      ∙ window c p (suc q) (suc r) t (suc L) low (omega arith) ∙ same_S

  odd_sum : ℚ
  odd_sum = sum_over (below L) (λ a. whole (2 * a + 1) *ℚ factors c p q r t a)

  odd_next : sum_over (below (suc L)) (λ a. whole (2 * a + 1) *ℚ factors c p (suc q) (suc r) t a) ≡ first +ℚ (odd_sum +ℚ whole 2 *ℚ sum_over (below L) (factors c p q r t))
  unfolding odd_sum
  odd_next =
      sum-below_front (λ a. whole (2 * a + 1) *ℚ factors c p (suc q) (suc r) t a) L
      ∙ ap₂ ◌+ℚ◌
      (ap₂ (λ k x. whole k *ℚ x) (one tt) same_first ∙ ap (λ x. x *ℚ first) whole-one ∙ 1ℚ_idl first)
      (sum-below_cong (λ a. whole (2 * suc a + 1) *ℚ factors c p (suc q) (suc r) t (suc a)) (λ a. whole (2 * a + 1) *ℚ factors c p q r t a +ℚ whole 2 *ℚ factors c p q r t a) L
      (λ a h. ap₂ (λ k x. whole k *ℚ x) (odd a) (same_next a) ∙ sym (gather (2 * a + 1) 2 (factors c p q r t a)))
      ∙ sum-add (λ a. whole (2 * a + 1) *ℚ factors c p q r t a) (λ a. whole 2 *ℚ factors c p q r t a) (below L)
      ∙ ap (λ x. sum_over (below L) (λ a. whole (2 * a + 1) *ℚ factors c p q r t a) +ℚ x) (sym (sum-scale (whole 2) (factors c p q r t) (below L))))
    where
      one : Unit {0} → 2 * 0 + 1 ≡ 1
      one u = omega arith

      odd : (a : ℕ) → 2 * suc a + 1 ≡ 2 * a + 1 + 2
      odd a = omega arith

  pub odd_edge : sum_over (below L) (λ a. whole (2 * a + 1) *ℚ factors c p q r t a) +ℚ whole (p + t) *ℚ S ≡ whole (r + q + 1) *ℚ S +ℚ first
  unfolding odd_sum
  odd_edge =
      solve odd_sum (sum_over (below L) (factors c p q r t)) S first
      (ap (λ x. x +ℚ whole (p + t) *ℚ S) (sym odd_next) ∙ ap (λ x. sum_over (below (suc L)) (λ a. whole (2 * a + 1) *ℚ factors c p (suc q) (suc r) t a) +ℚ whole (p + t) *ℚ x) (sym same_S)
      ∙ odd_window c p (suc q) (suc r) t (suc L) low (omega arith) ∙ ap₂ (λ k x. whole k *ℚ x) more same_S) plain
    where
      more : suc r + suc q + 1 ≡ r + q + 1 + 2
      more = omega arith

      solve : (Y P S h : ℚ) → (h +ℚ (Y +ℚ whole 2 *ℚ P)) +ℚ whole (p + t) *ℚ S ≡ whole (r + q + 1 + 2) *ℚ S → h +ℚ P ≡ S → Y +ℚ whole (p + t) *ℚ S ≡ whole (r + q + 1) *ℚ S +ℚ h
      solve Y P S h e f = +ℚ_cancel (h +ℚ whole 2 *ℚ P) _ _ (left Y (whole 2 *ℚ P) (whole (p + t) *ℚ S) h ∙ e ∙ sym (gather (r + q + 1) 2 S) ∙ ap (λ x. whole (r + q + 1) *ℚ S +ℚ x) (twice S ∙ ap₂ ◌+ℚ◌ (sym f) (sym f) ∙ right h P) ∙ sym (+ℚ_assoc _ _ _))
        where
          left : (Y P z h : ℚ) → (Y +ℚ z) +ℚ (h +ℚ P) ≡ (h +ℚ (Y +ℚ P)) +ℚ z
          left Y P z h = simp sums_q

          twice : (x : ℚ) → whole 2 *ℚ x ≡ x +ℚ x
          twice x = sym (gather 1 1 x) ∙ ap (λ o. o *ℚ x +ℚ o *ℚ x) whole-one ∙ ap₂ ◌+ℚ◌ (1ℚ_idl x) (1ℚ_idl x)

          sides : (h P : ℚ) → (h +ℚ P) +ℚ (h +ℚ P) ≡ h +ℚ (h +ℚ (P +ℚ P))
          sides h P = simp sums_q

          right : (h P : ℚ) → (h +ℚ P) +ℚ (h +ℚ P) ≡ h +ℚ (h +ℚ whole 2 *ℚ P)
          right h P = sides h P ∙ ap (λ x. h +ℚ (h +ℚ x)) (sym (twice P))

-- the sum of (2a + 1) c_(a + x + 1 - i) c_(y - a - j)
unfoldable pub mixed : (ℕ → ℚ) → ℕ → ℕ → ℕ → ℕ → ℕ → ℚ
mixed c i x j y K = sum_over (below K) λ a. whole (2 * a + 1) *ℚ factors c (suc x) i y j a

module _ (c : ℕ → ℚ) (i x j y K : ℕ) (low : x < i + K) (high : y < K) where
  abbrev both : ℕ → ℚ
  both u = factors c (suc x) (i + K) (y + K) j u

  upper : (a : ℕ) → both (K + a) ≡ factors c (suc x) i y j a
  unfolding factors
  upper a = ap₂ ◌*ℚ◌ (reach-same c (K + a + suc x) (i + K) (a + suc x) i (omega arith)) (reach-same c (y + K) (K + a + j) y (a + j) (omega arith))

  lower : (a : ℕ) → a < K → both (K - suc a) ≡ factors c (suc y) j x i a
  unfolding factors
  lower a h = *ℚ_comm _ _ ∙ ap₂ ◌*ℚ◌ (reach-same c (y + K) (K - suc a + j) (a + suc y) j (omega arith)) (reach-same c (K - suc a + suc x) (i + K) x (a + i) (omega arith))

  abbrev one_sum : ℚ
  one_sum = reach (square c) (suc (y + x)) (i + j)

  same_sum : reach (square c) (y + K + suc x) (i + K + j) ≡ one_sum
  same_sum = reach-same (square c) (y + K + suc x) (i + K + j) (suc (y + x)) (i + j) (omega arith)

  abbrev h_up : ℕ → ℚ
  h_up = factors c (suc x) i y j

  abbrev h_low : ℕ → ℚ
  h_low = factors c (suc y) j x i

  plain_both : sum_over (below K) h_low +ℚ sum_over (below K) h_up ≡ one_sum
  plain_both =
      ap₂ ◌+ℚ◌ (sum-below_cong h_low (λ a. both (K - suc a)) K (λ a h. sym (lower a h)) ∙ sym (sum-flip both K)) (sum-below_cong h_up (λ a. both (K + a)) K (λ a h. sym (upper a)))
      ∙ sym (sum-below_split both K K) ∙ window c (suc x) (i + K) (y + K) j (K + K) (omega arith) (omega arith) ∙ same_sum

  odd_both : sum_over (below (K + K)) (λ u. whole (2 * u + 1) *ℚ both u) +ℚ mixed c j y i x K ≡ whole (2 * K) *ℚ one_sum +ℚ mixed c i x j y K
  unfolding mixed
  odd_both =
      ap (λ t. t +ℚ mixed c j y i x K) (sum-below_split (λ u. whole (2 * u + 1) *ℚ both u) K K
      ∙ ap₂ ◌+ℚ◌ (sum-flip (λ u. whole (2 * u + 1) *ℚ both u) K ∙ sum-below_cong (λ a. whole (2 * (K - suc a) + 1) *ℚ both (K - suc a)) (λ a. whole (2 * (K - suc a) + 1) *ℚ h_low a) K (λ a h. ap (λ t. whole (2 * (K - suc a) + 1) *ℚ t) (lower a h)))
      (sum-below_cong (λ a. whole (2 * (K + a) + 1) *ℚ both (K + a)) (λ a. whole (2 * K) *ℚ h_up a +ℚ whole (2 * a + 1) *ℚ h_up a) K (λ a h. ap₂ (λ k t. whole k *ℚ t) (odd_up a) (upper a) ∙ sym (gather (2 * K) (2 * a + 1) (h_up a)))
      ∙ sum-add (λ a. whole (2 * K) *ℚ h_up a) (λ a. whole (2 * a + 1) *ℚ h_up a) (below K)
      ∙ ap (λ t. t +ℚ mixed c i x j y K) (sym (sum-scale (whole (2 * K)) h_up (below K)))))
      ∙ move _ _ _ _
      ∙ ap (λ t. t +ℚ whole (2 * K) *ℚ sum_over (below K) h_up +ℚ mixed c i x j y K)
      (sym (sum-add (λ a. whole (2 * (K - suc a) + 1) *ℚ h_low a) (λ a. whole (2 * a + 1) *ℚ h_low a) (below K))
      ∙ sum-below_cong (λ a. whole (2 * (K - suc a) + 1) *ℚ h_low a +ℚ whole (2 * a + 1) *ℚ h_low a) (λ a. whole (2 * K) *ℚ h_low a) K (λ a h. gather (2 * (K - suc a) + 1) (2 * a + 1) (h_low a) ∙ ap (λ k. whole k *ℚ h_low a) (odd_low a h))
      ∙ sym (sum-scale (whole (2 * K)) h_low (below K)))
      ∙ ap (λ t. t +ℚ mixed c i x j y K) (sym (Rattle.airy_math.specs.RationalLaws.*ℚ_distrib (whole (2 * K)) (sum_over (below K) h_low) (sum_over (below K) h_up)) ∙ ap (λ t. whole (2 * K) *ℚ t) plain_both)
    where
      odd_up : (a : ℕ) → 2 * (K + a) + 1 ≡ 2 * K + (2 * a + 1)
      odd_up a = omega arith

      odd_low : (a : ℕ) → a < K → 2 * (K - suc a) + 1 + (2 * a + 1) ≡ 2 * K
      odd_low a h = omega arith

      move : (l u m t : ℚ) → (l +ℚ (u +ℚ m)) +ℚ t ≡ (l +ℚ t) +ℚ u +ℚ m
      move l u m t = simp sums_q

  -- the sum over a of one side and that over -a - 1 of the other are one sum over all whole numbers
  pub crossed : mixed c i x j y K +ℚ whole (suc x + j) *ℚ one_sum ≡ mixed c j y i x K +ℚ whole (suc y + i) *ℚ one_sum
  crossed =
      solve (mixed c i x j y K) (mixed c j y i x K) (sum_over (below (K + K)) (λ u. whole (2 * u + 1) *ℚ both u)) one_sum odd_both
      (ap (λ t. sum_over (below (K + K)) (λ u. whole (2 * u + 1) *ℚ both u) +ℚ whole (suc x + j) *ℚ t) (sym same_sum)
      ∙ odd_window c (suc x) (i + K) (y + K) j (K + K) (omega arith) (omega arith) ∙ ap₂ (λ k t. whole k *ℚ t) more same_sum)
    where
      more : y + K + (i + K) + 1 ≡ suc y + i + 2 * K
      more = omega arith

      solve : (M M' X S : ℚ) → X +ℚ M' ≡ whole (2 * K) *ℚ S +ℚ M → X +ℚ whole (suc x + j) *ℚ S ≡ whole (suc y + i + 2 * K) *ℚ S → M +ℚ whole (suc x + j) *ℚ S ≡ M' +ℚ whole (suc y + i) *ℚ S
      solve M M' X S e f =
          +ℚ_cancel (whole (2 * K) *ℚ S) _ _
          (left M (whole (suc x + j) *ℚ S) (whole (2 * K) *ℚ S) ∙ ap (λ t. t +ℚ whole (suc x + j) *ℚ S) (sym e) ∙ middle X M' (whole (suc x + j) *ℚ S) ∙ ap (λ t. M' +ℚ t) (f ∙ sym (gather (suc y + i) (2 * K) S)) ∙ sym (+ℚ_assoc _ _ _))
        where
          left : (m b k : ℚ) → (m +ℚ b) +ℚ k ≡ (k +ℚ m) +ℚ b
          left m b k = simp sums_q

          middle : (X M b : ℚ) → (X +ℚ M) +ℚ b ≡ M +ℚ (X +ℚ b)
          middle X M b = simp sums_q
