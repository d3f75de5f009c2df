-- Sums of products c_s c_t with s + t fixed.
use Prim.Native.Nat.{ℕ, zero, suc, ◌+◌, ◌*◌, ◌-◌, ◌<◌, ◌≤◌}
use mathlib.Core.Path.{◌≡◌, sym, ap, ap₂, ◌∙◌}
use mathlib.Core.Logic.{◌⊎◌, inl, inr}
use native.Mathlib.Omega.{arith}
use Rattle.std.proofs.lemmas.Bool.{le-leb, lt-leb, cases_lt}
use Rattle.airy_math.specs.Rational.{ℚ, ◌+ℚ◌, ◌*ℚ◌, neg_ℚ, whole}
use Rattle.airy_math.specs.RationalLaws.{0ℚ, 0ℚ_idl, 0ℚ-*ℚ, +ℚ_inv, +ℚ_assoc, *ℚ_comm, *ℚ_distrib_r}
use Rattle.airy_math.specs.Curves.{reach}
use Rattle.airy_math.specs.Sums.{sum_over, when, below, count_from}
use Rattle.airy_math.proofs.SumLemmas.{sum-zero, sum-add, sum-scale, sum-below_front, sum-reverse, 0ℚ_idr, *ℚ-0ℚ, whole-add}
use Rattle.airy_math.proofs.BelowDimLaw.{sum-below_cong}

-- ---- whole numbers and cancelling

pub gather : (m n : ℕ) (x : ℚ) → whole m *ℚ x +ℚ whole n *ℚ x ≡ whole (m + n) *ℚ x
gather m n x = sym (*ℚ_distrib_r x (whole m) (whole n)) ∙ ap (λ t. t *ℚ x) (sym (whole-add m n))

pub +ℚ_cancel : (z x y : ℚ) → x +ℚ z ≡ y +ℚ z → x ≡ y
+ℚ_cancel z x y e = sym (undo x) ∙ ap (λ t. t +ℚ neg_ℚ z) e ∙ undo y
  where
    undo : (x : ℚ) → (x +ℚ z) +ℚ neg_ℚ z ≡ x
    undo x = +ℚ_assoc x z (neg_ℚ z) ∙ ap (λ t. x +ℚ t) (+ℚ_inv z) ∙ 0ℚ_idr x

-- ---- sums over the numbers below a bound

pub sum-none_below : (f : ℕ → ℚ) (n : ℕ) → ((a : ℕ) → a < n → f a ≡ 0ℚ) → sum_over (below n) f ≡ 0ℚ
sum-none_below f n h = sum-below_cong f (λ a. 0ℚ) n h ∙ sum-zero (below n)

pub sum-below_split : (f : ℕ → ℚ) (m n : ℕ) → sum_over (below (m + n)) f ≡ sum_over (below m) f +ℚ sum_over (below n) (λ a. f (m + a))
unfolding sum_over below count_from
sum-below_split f zero n = ap (λ t. sum_over (below t) f) (zero_plus n) ∙ sum-below_cong f (λ a. f (0 + a)) n (λ a p. ap f (sym (zero_plus a))) ∙ sym (0ℚ_idl _)
  where
    zero_plus : (n : ℕ) → 0 + n ≡ n
    zero_plus n = omega arith
sum-below_split f (suc m) n =
    ap (λ t. sum_over (below t) f) (suc_plus m n) ∙ sum-below_front f (m + n)
    ∙ ap (λ t. f 0 +ℚ t) (sum-below_split (λ a. f (suc a)) m n ∙ ap (λ t. sum_over (below m) (λ a. f (suc a)) +ℚ t) (sum-below_cong (λ a. f (suc (m + a))) (λ a. f (suc m + a)) n (λ a p. ap f (sym (suc_plus m a)))))
    ∙ sym (+ℚ_assoc _ _ _) ∙ ap (λ t. t +ℚ sum_over (below n) (λ a. f (suc m + a))) (sym (sum-below_front f m))
  where
    suc_plus : (m n : ℕ) → suc m + n ≡ suc (m + n)
    suc_plus m n = omega arith

-- only the n numbers from m on count
pub sum-window : (f : ℕ → ℚ) (m n L : ℕ) → m + n ≤ L → ((a : ℕ) → a < m → f a ≡ 0ℚ) → ((a : ℕ) → m + n ≤ a → f a ≡ 0ℚ) → sum_over (below L) f ≡ sum_over (below n) (λ s. f (m + s))
sum-window f m n L h low high =
    ap (λ t. sum_over (below t) f) (parts m n L h) ∙ sum-below_split f m (n + (L - (m + n)))
    ∙ ap₂ ◌+ℚ◌ (sum-none_below f m low) (sum-below_split (λ a. f (m + a)) n (L - (m + n)))
    ∙ 0ℚ_idl _ ∙ ap (λ t. sum_over (below n) (λ s. f (m + s)) +ℚ t) (sum-none_below (λ a. f (m + (n + a))) (L - (m + n)) (λ a p. high (m + (n + a)) (omega arith))) ∙ 0ℚ_idr _
  where
    parts : (m n L : ℕ) → m + n ≤ L → L ≡ m + (n + (L - (m + n)))
    parts m n L h = omega arith

pub sum-first : (f : ℕ → ℚ) (L : ℕ) → 0 < L → ((a : ℕ) → 0 < a → f a ≡ 0ℚ) → sum_over (below L) f ≡ f 0
unfolding sum_over below count_from
sum-first f L h z = sum-window f 0 1 L (omega arith) (λ a p. absurd (omega arith)) (λ a p. z a (omega arith)) ∙ 0ℚ_idr (f (0 + 0)) ∙ ap f (zeros tt)
  where
    zeros : Unit {0} → 0 + 0 ≡ 0
    zeros t = omega arith

-- from the other end
pub sum-flip : (f : ℕ → ℚ) (n : ℕ) → sum_over (below n) f ≡ sum_over (below n) (λ a. f (n - suc a))
sum-flip f zero = sum-below_cong f (λ a. f (0 - suc a)) 0 (λ a p. absurd (omega arith))
sum-flip f (suc n) = sum-reverse (λ a b. f a) n ∙ sum-below_cong (λ a. f (n - a)) (λ a. f (suc n - suc a)) (suc n) (λ a p. ap f (less n a))
  where
    less : (n a : ℕ) → n - a ≡ suc n - suc a
    less n a = omega arith

-- ---- c at a difference

pub reach-at : (c : ℕ → ℚ) (m n e : ℕ) → m ≡ n + e → reach c m n ≡ c e
unfolding reach when
reach-at c m n e h = ap (λ t. when t (c (m - n))) (le-leb n m (omega arith)) ∙ ap c (minus m n e h)
  where
    minus : (m n e : ℕ) → m ≡ n + e → m - n ≡ e
    minus m n e h = omega arith

pub reach-none : (c : ℕ → ℚ) (m n : ℕ) → m < n → reach c m n ≡ 0ℚ
unfolding reach when
reach-none c m n h = ap (λ t. when t (c (m - n))) (lt-leb n m h)

pub reach-same : (c : ℕ → ℚ) (m n m' n' : ℕ) → m + n' ≡ m' + n → reach c m n ≡ reach c m' n'
reach-same c m n m' n' h = at (cases_lt m n)
  where
    at : (m < n) ⊎ (n ≤ m) → reach c m n ≡ reach c m' n'
    at (inl p) = reach-none c m n p ∙ sym (reach-none c m' n' (omega arith))
    at (inr p) = reach-at c m n (m - n) (omega arith) ∙ sym (reach-at c m' n' (m - n) (omega arith))

-- ---- the products of two members of c whose numbers add up to n

unfoldable pub square : (ℕ → ℚ) → ℕ → ℚ
square c n = sum_over (below (suc n)) λ s. c s *ℚ c (n - s)

unfoldable pub moment : (ℕ → ℚ) → ℕ → ℚ
moment c n = sum_over (below (suc n)) λ s. whole s *ℚ (c s *ℚ c (n - s))

-- twice the sum of s c_s c_t is n times the sum of c_s c_t
pub moment_lem : (c : ℕ → ℚ) (n : ℕ) → moment c n +ℚ moment c n ≡ whole n *ℚ square c n
unfolding moment square
moment_lem c n =
    ap (λ t. moment c n +ℚ t) (sum-reverse (λ s t. whole s *ℚ (c s *ℚ c t)) n)
    ∙ sym (sum-add (λ s. whole s *ℚ (c s *ℚ c (n - s))) (λ s. whole (n - s) *ℚ (c (n - s) *ℚ c s)) (below (suc n)))
    ∙ sum-below_cong (λ s. whole s *ℚ (c s *ℚ c (n - s)) +ℚ whole (n - s) *ℚ (c (n - s) *ℚ c s)) (λ s. whole n *ℚ (c s *ℚ c (n - s))) (suc n)
    (λ s p. ap (λ t. whole s *ℚ (c s *ℚ c (n - s)) +ℚ whole (n - s) *ℚ t) (*ℚ_comm (c (n - s)) (c s)) ∙ gather s (n - s) (c s *ℚ c (n - s)) ∙ ap (λ t. whole t *ℚ (c s *ℚ c (n - s))) (both n s p))
    ∙ sym (sum-scale (whole n) (λ s. c s *ℚ c (n - s)) (below (suc n)))
  where
    both : (n s : ℕ) → s < suc n → s + (n - s) ≡ n
    both n s p = omega arith

-- c_(a + p - q) c_(r - a - t)
unfoldable pub factors : (ℕ → ℚ) → ℕ → ℕ → ℕ → ℕ → ℕ → ℚ
factors c p q r t a = reach c (a + p) q *ℚ reach c r (a + t)

module _ (c : ℕ → ℚ) (p q r t L : ℕ) (low : p ≤ q) (high : r < L + t) where
  zero_left : (a : ℕ) → a + p < q → factors c p q r t a ≡ 0ℚ
  unfolding factors
  zero_left a h = ap (λ x. x *ℚ reach c r (a + t)) (reach-none c (a + p) q h) ∙ 0ℚ-*ℚ _

  zero_right : (a : ℕ) → r < a + t → factors c p q r t a ≡ 0ℚ
  unfolding factors
  zero_right a h = ap (λ x. reach c (a + p) q *ℚ x) (reach-none c r (a + t) h) ∙ *ℚ-0ℚ _

  all_zero : r + p < q + t → (a : ℕ) → factors c p q r t a ≡ 0ℚ
  all_zero h a = at (cases_lt (a + p) q)
    where
      at : (a + p < q) ⊎ (q ≤ a + p) → factors c p q r t a ≡ 0ℚ
      at (inl l) = zero_left a l
      at (inr l) = zero_right a (omega arith)

  module _ (m n : ℕ) (is_q : q ≡ p + m) (is_r : r ≡ m + t + n) where
    term_is : (s : ℕ) → s < suc n → factors c p q r t (m + s) ≡ c s *ℚ c (n - s)
    unfolding factors
    term_is s h = ap₂ ◌*ℚ◌ (reach-at c (m + s + p) q s (omega arith)) (reach-at c r (m + s + t) (n - s) (omega arith))

    weighted_window : (w : ℕ → ℚ) → sum_over (below L) (λ a. w a *ℚ factors c p q r t a) ≡ sum_over (below (suc n)) (λ s. w (m + s) *ℚ (c s *ℚ c (n - s)))
    weighted_window w =
        sum-window (λ a. w a *ℚ factors c p q r t a) m (suc n) L (omega arith)
        (λ a h. ap (λ x. w a *ℚ x) (zero_left a (omega arith)) ∙ *ℚ-0ℚ _)
        (λ a h. ap (λ x. w a *ℚ x) (zero_right a (omega arith)) ∙ *ℚ-0ℚ _)
        ∙ sum-below_cong (λ s. w (m + s) *ℚ factors c p q r t (m + s)) (λ s. w (m + s) *ℚ (c s *ℚ c (n - s))) (suc n) (λ s h. ap (λ x. w (m + s) *ℚ x) (term_is s h))

    plain_at : sum_over (below L) (factors c p q r t) ≡ square c n
    unfolding square
    plain_at =
        sum-window (factors c p q r t) m (suc n) L (omega arith) (λ a h. zero_left a (omega arith)) (λ a h. zero_right a (omega arith))
        ∙ sum-below_cong (λ s. factors c p q r t (m + s)) (λ s. c s *ℚ c (n - s)) (suc n) term_is

    odd_at : sum_over (below L) (λ a. whole (2 * a + 1) *ℚ factors c p q r t a) ≡ whole (2 * m + 1 + n) *ℚ square c n
    unfolding square moment
    odd_at =
        weighted_window (λ a. whole (2 * a + 1))
        ∙ sum-below_cong (λ s. whole (2 * (m + s) + 1) *ℚ (c s *ℚ c (n - s))) (λ s. whole (2 * m + 1) *ℚ (c s *ℚ c (n - s)) +ℚ (whole s *ℚ (c s *ℚ c (n - s)) +ℚ whole s *ℚ (c s *ℚ c (n - s)))) (suc n)
        (λ s h. ap (λ k. whole k *ℚ (c s *ℚ c (n - s))) (odd s) ∙ sym (gather (2 * m + 1) (s + s) (c s *ℚ c (n - s))) ∙ ap (λ x. whole (2 * m + 1) *ℚ (c s *ℚ c (n - s)) +ℚ x) (sym (gather s s (c s *ℚ c (n - s)))))
        ∙ sum-add (λ s. whole (2 * m + 1) *ℚ (c s *ℚ c (n - s))) (λ s. whole s *ℚ (c s *ℚ c (n - s)) +ℚ whole s *ℚ (c s *ℚ c (n - s))) (below (suc n))
        ∙ ap₂ ◌+ℚ◌ (sym (sum-scale (whole (2 * m + 1)) (λ s. c s *ℚ c (n - s)) (below (suc n)))) (sum-add (λ s. whole s *ℚ (c s *ℚ c (n - s))) (λ s. whole s *ℚ (c s *ℚ c (n - s))) (below (suc n)))
        ∙ last
      where
        odd : (s : ℕ) → 2 * (m + s) + 1 ≡ 2 * m + 1 + (s + s)
        odd s = omega arith

        last : whole (2 * m + 1) *ℚ sum_over (below (suc n)) (λ s. c s *ℚ c (n - s)) +ℚ (sum_over (below (suc n)) (λ s. whole s *ℚ (c s *ℚ c (n - s))) +ℚ sum_over (below (suc n)) (λ s. whole s *ℚ (c s *ℚ c (n - s)))) ≡ whole (2 * m + 1 + n) *ℚ square c n
        last = ap (λ x. whole (2 * m + 1) *ℚ square c n +ℚ x) (moment_lem c n) ∙ gather (2 * m + 1) n (square c n)

  -- the sum of the products is one sum over all s + t = r + p - q - t
  pub window : sum_over (below L) (factors c p q r t) ≡ reach (square c) (r + p) (q + t)
  window = at (cases_lt (r + p) (q + t))
    where
      at : (r + p < q + t) ⊎ (q + t ≤ r + p) → sum_over (below L) (factors c p q r t) ≡ reach (square c) (r + p) (q + t)
      at (inl h) = sum-none_below (factors c p q r t) L (λ a l. all_zero h a) ∙ sym (reach-none (square c) (r + p) (q + t) h)
      at (inr h) = plain_at (q - p) (r + p - (q + t)) (omega arith) (omega arith) ∙ sym (reach-at (square c) (r + p) (q + t) (r + p - (q + t)) (omega arith))

  -- and with the weights 2a + 1 it is r + q + 1 - p - t times that sum
  pub odd_window : sum_over (below L) (λ a. whole (2 * a + 1) *ℚ factors c p q r t a) +ℚ whole (p + t) *ℚ reach (square c) (r + p) (q + t) ≡ whole (r + q + 1) *ℚ reach (square c) (r + p) (q + t)
  odd_window = at (cases_lt (r + p) (q + t))
    where
      at : (r + p < q + t) ⊎ (q + t ≤ r + p) → sum_over (below L) (λ a. whole (2 * a + 1) *ℚ factors c p q r t a) +ℚ whole (p + t) *ℚ reach (square c) (r + p) (q + t) ≡ whole (r + q + 1) *ℚ reach (square c) (r + p) (q + t)
      at (inl h) =
          ap₂ (λ x y. x +ℚ whole (p + t) *ℚ y) (sum-none_below (λ a. whole (2 * a + 1) *ℚ factors c p q r t a) L (λ a l. ap (λ x. whole (2 * a + 1) *ℚ x) (all_zero h a) ∙ *ℚ-0ℚ _)) (reach-none (square c) (r + p) (q + t) h)
          ∙ 0ℚ_idl _ ∙ *ℚ-0ℚ _ ∙ sym (*ℚ-0ℚ _) ∙ ap (λ x. whole (r + q + 1) *ℚ x) (sym (reach-none (square c) (r + p) (q + t) h))
      at (inr h) =
          let m = q - p in
          let n = r + p - (q + t) in
          ap (λ x. x +ℚ whole (p + t) *ℚ reach (square c) (r + p) (q + t)) (odd_at m n (omega arith) (omega arith) ∙ ap (λ x. whole (2 * m + 1 + n) *ℚ x) (sym (reach-at (square c) (r + p) (q + t) n (omega arith))))
          ∙ gather (2 * m + 1 + n) (p + t) (reach (square c) (r + p) (q + t)) ∙ ap (λ k. whole k *ℚ reach (square c) (r + p) (q + t)) (numbers h)
        where
          numbers : q + t ≤ r + p → 2 * (q - p) + 1 + (r + p - (q + t)) + (p + t) ≡ r + q + 1
          numbers h = omega arith
