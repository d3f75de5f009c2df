-- The five relations for the tensors of every sequence c with c_0 = 1, in both gradings.
use Prim.Native.Nat.{ℕ, zero, suc, ◌+◌, ◌*◌, ◌<◌, ◌≤◌}
use mathlib.Core.Path.{◌≡◌, refl, sym, ap, ap₂, ◌∙◌}
use mathlib.Core.Logic.{◌⊎◌, inl, inr}
use native.Mathlib.Omega.{arith}
use lib.Dec.{eqb}
use lib.IntN.{pos}
use Rattle.std.proofs.lemmas.Bool.{cases_lt, cases_order, eq-eqb, ne_eqb}
use Rattle.airy_math.specs.Curves.{reach}
use Rattle.relation_law.proofs.Sequences.{gather, +ℚ_cancel, sum-none_below, sum-first, reach-at, reach-none, reach-same, square, factors, window}
use Rattle.relation_law.proofs.Crossing.{odd_edge, mixed, crossed}
use Rattle.airy_math.specs.Rational.{ℚ, ◌+ℚ◌, ◌*ℚ◌, ◌/ℚ◌, whole, ℚ_computes}
use Rattle.airy_math.specs.RationalLaws.{0ℚ, 1ℚ, half, 0ℚ_idl, 1ℚ_idl, 0ℚ-*ℚ, *ℚ_assoc, *ℚ_left_comm, *ℚ_distrib, *ℚ_distrib_r, sums_q, products_q}
use Rattle.airy_math.specs.Sums.{sum_over, when, below, count_from}
use Rattle.airy_math.specs.Tensors.{Tensors}
use Rattle.airy_math.specs.Relations.{rel_AA, rel_BA, rel_BB, rel_BC, rel_D, Close}
use Rattle.airy_math.proofs.SumLemmas.{sum-scale, 0ℚ_idr, *ℚ-0ℚ, 1ℚ_idr, sum-three}
use Rattle.airy_math.proofs.StartLaw.{whole-one}
use Rattle.airy_math.proofs.BelowDimLaw.{sum-below_cong}

unfoldable pub eighth : ℚ
eighth = pos 1 /ℚ 8

-- What the tensors of wk, wp and every curve (d = 1) and those of bgw (d = 0) have in common.
pub record IsCurve (T : Tensors) (c : ℕ → ℚ) (d : ℕ) : Type 0 where
  pub A : (i j k : ℕ) → T.A i j k ≡ when (eqb (i + j + k + 1) d) 1ℚ
  pub B : (i j k : ℕ) → T.B i j k ≡ whole (2 * j + 1) *ℚ reach c (k + d) (i + j)
  pub C : (i j k : ℕ) → T.C i j k ≡ reach c (suc (j + k + d)) i
  pub D : (i : ℕ) → T.D i ≡ reach c d i *ℚ eighth

bracket-no : (n d : ℕ) (x : ℚ) → (n ≡ d → ⊥) → x *ℚ when (eqb n d) 1ℚ ≡ 0ℚ
unfolding when
bracket-no n d x h = ap (λ t. x *ℚ when t 1ℚ) (ne_eqb n d h) ∙ *ℚ-0ℚ x

bracket-yes : (n d : ℕ) (x : ℚ) → n ≡ d → x *ℚ when (eqb n d) 1ℚ ≡ x
unfolding when
bracket-yes n d x h = ap (λ t. x *ℚ when t 1ℚ) (eq-eqb n d h) ∙ 1ℚ_idr x

-- ---- the last steps, over plain numbers

bc_end : (x y i j : ℕ) (S M₁ M₂ M₃ M₄ : ℚ) →
    M₁ +ℚ whole (suc x + j) *ℚ S ≡ M₄ +ℚ whole (suc y + i) *ℚ S →
    M₂ +ℚ whole (suc y + j) *ℚ S ≡ M₃ +ℚ whole (suc x + i) *ℚ S →
    whole (2 * j + 1) *ℚ S +ℚ M₁ +ℚ M₂ ≡ whole (2 * i + 1) *ℚ S +ℚ M₃ +ℚ M₄
bc_end x y i j S M₁ M₂ M₃ M₄ e f =
    +ℚ_cancel (whole (suc x + j) *ℚ S +ℚ whole (suc y + j) *ℚ S) _ _
    (left _ M₁ M₂ _ _ ∙ ap₂ (λ s t. whole (2 * j + 1) *ℚ S +ℚ (s +ℚ t)) e f
    ∙ middle _ M₃ M₄ _ _ ∙ ap (λ t. t +ℚ (M₃ +ℚ M₄)) (weights (2 * j + 1) (suc y + i) (suc x + i) (2 * i + 1) (suc x + j) (suc y + j) same) ∙ right _ M₃ M₄ _ _)
  where
    left : (w m n a b : ℚ) → (w +ℚ m +ℚ n) +ℚ (a +ℚ b) ≡ w +ℚ ((m +ℚ a) +ℚ (n +ℚ b))
    left w m n a b = simp sums_q

    middle : (w m n a b : ℚ) → w +ℚ ((n +ℚ a) +ℚ (m +ℚ b)) ≡ ((w +ℚ a) +ℚ b) +ℚ (m +ℚ n)
    middle w m n a b = simp sums_q

    right : (w m n a b : ℚ) → ((w +ℚ a) +ℚ b) +ℚ (m +ℚ n) ≡ (w +ℚ m +ℚ n) +ℚ (a +ℚ b)
    right w m n a b = simp sums_q

    same : 2 * j + 1 + (suc y + i) + (suc x + i) ≡ 2 * i + 1 + (suc x + j) + (suc y + j)
    same = omega arith

    weights : (a b c a' b' c' : ℕ) → a + b + c ≡ a' + b' + c' → (whole a *ℚ S +ℚ whole b *ℚ S) +ℚ whole c *ℚ S ≡ (whole a' *ℚ S +ℚ whole b' *ℚ S) +ℚ whole c' *ℚ S
    weights a b c a' b' c' h = ap (λ t. t +ℚ whole c *ℚ S) (gather a b S) ∙ gather (a + b) c S ∙ ap (λ n. whole n *ℚ S) h ∙ sym (ap (λ t. t +ℚ whole c' *ℚ S) (gather a' b' S) ∙ gather (a' + b') c' S)

bb_end : (d i j k l : ℕ) (S Y Y' h h' : ℚ) →
    Y +ℚ whole (d + j) *ℚ S ≡ whole (l + d + (i + k) + 1) *ℚ S +ℚ h →
    Y' +ℚ whole (d + i) *ℚ S ≡ whole (l + d + (j + k) + 1) *ℚ S +ℚ h' →
    whole (2 * j + 1) *ℚ S +ℚ Y +ℚ h' ≡ whole (2 * i + 1) *ℚ S +ℚ Y' +ℚ h
bb_end d i j k l S Y Y' h h' e f =
    +ℚ_cancel (whole (d + j) *ℚ S +ℚ whole (d + i) *ℚ S) _ _
    (left _ Y h' _ _ ∙ ap (λ t. whole (2 * j + 1) *ℚ S +ℚ (t +ℚ (h' +ℚ whole (d + i) *ℚ S))) e
    ∙ middle _ _ _ h h' ∙ ap (λ t. t +ℚ (h +ℚ h')) (weights (2 * j + 1) (l + d + (i + k) + 1) (d + i) (2 * i + 1) (l + d + (j + k) + 1) (d + j) same)
    ∙ back _ _ _ h h' ∙ ap (λ t. whole (2 * i + 1) *ℚ S +ℚ (t +ℚ (h +ℚ whole (d + j) *ℚ S))) (sym f) ∙ right _ Y' h _ _)
  where
    left : (w y h a b : ℚ) → (w +ℚ y +ℚ h) +ℚ (a +ℚ b) ≡ w +ℚ ((y +ℚ a) +ℚ (h +ℚ b))
    left w y h a b = simp sums_q

    middle : (w a b h h' : ℚ) → w +ℚ ((a +ℚ h) +ℚ (h' +ℚ b)) ≡ ((w +ℚ a) +ℚ b) +ℚ (h +ℚ h')
    middle w a b h h' = simp sums_q

    back : (w a b h h' : ℚ) → ((w +ℚ a) +ℚ b) +ℚ (h +ℚ h') ≡ w +ℚ ((a +ℚ h') +ℚ (h +ℚ b))
    back w a b h h' = simp sums_q

    right : (w y h a b : ℚ) → w +ℚ ((y +ℚ b) +ℚ (h +ℚ a)) ≡ (w +ℚ y +ℚ h) +ℚ (a +ℚ b)
    right w y h a b = simp sums_q

    same : 2 * j + 1 + (l + d + (i + k) + 1) + (d + i) ≡ 2 * i + 1 + (l + d + (j + k) + 1) + (d + j)
    same = omega arith

    weights : (a b c a' b' c' : ℕ) → a + b + c ≡ a' + b' + c' → (whole a *ℚ S +ℚ whole b *ℚ S) +ℚ whole c *ℚ S ≡ (whole a' *ℚ S +ℚ whole b' *ℚ S) +ℚ whole c' *ℚ S
    weights a b c a' b' c' h = ap (λ t. t +ℚ whole c *ℚ S) (gather a b S) ∙ gather (a + b) c S ∙ ap (λ n. whole n *ℚ S) h ∙ sym (ap (λ t. t +ℚ whole c' *ℚ S) (gather a' b' S) ∙ gather (a' + b') c' S)

module _ (T : Tensors) (c : ℕ → ℚ) (d N : ℕ) (is : IsCurve T c d) (one : c 0 ≡ 1ℚ) (small : d ≤ 1) (room : 2 * N + 1 ≤ T.dim) where
  -- ---- AA

  pub aa : (i j k : ℕ) → rel_AA T i j k ≡ rel_AA T j i k
  unfolding rel_AA
  aa i j k = is.A i j k ∙ ap (λ n. when (eqb n d) 1ℚ) (same i j k) ∙ sym (is.A j i k)
    where
      same : (i j k : ℕ) → i + j + k + 1 ≡ j + i + k + 1
      same i j k = omega arith

  -- ---- BC

  bc_is : (i j k l : ℕ) → d ≤ i + j → i < N → j < N → k < N → l < N →
      rel_BC T i j k l ≡ whole (2 * j + 1) *ℚ reach (square c) (suc (l + d + (k + d))) (i + j) +ℚ mixed c i (k + d) j (l + d) T.dim +ℚ mixed c i (l + d) j (k + d) T.dim
  unfolding rel_BC factors mixed
  bc_is i j k l far hi hj hk hl =
      sum-below_cong (λ a. T.B i j a *ℚ T.C a k l +ℚ T.C i k a *ℚ T.B j a l +ℚ T.C i l a *ℚ T.B j a k)
      (λ a. whole (2 * j + 1) *ℚ factors c d (i + j) (suc (k + l + d)) 0 a +ℚ whole (2 * a + 1) *ℚ factors c (suc (k + d)) i (l + d) j a +ℚ whole (2 * a + 1) *ℚ factors c (suc (l + d)) i (k + d) j a) T.dim
      (λ a h. ap₂ ◌+ℚ◌ (ap₂ ◌+ℚ◌ (first a) (second k l a)) (second l k a))
      ∙ sum-three (λ a. whole (2 * j + 1) *ℚ factors c d (i + j) (suc (k + l + d)) 0 a) (λ a. whole (2 * a + 1) *ℚ factors c (suc (k + d)) i (l + d) j a) (λ a. whole (2 * a + 1) *ℚ factors c (suc (l + d)) i (k + d) j a) T.dim
      ∙ ap (λ t. t +ℚ mixed c i (k + d) j (l + d) T.dim +ℚ mixed c i (l + d) j (k + d) T.dim)
      (sym (sum-scale (whole (2 * j + 1)) (factors c d (i + j) (suc (k + l + d)) 0) (below T.dim))
      ∙ ap (λ t. whole (2 * j + 1) *ℚ t) (window c d (i + j) (suc (k + l + d)) 0 T.dim far (omega arith) ∙ reach-same (square c) (suc (k + l + d) + d) (i + j + 0) (suc (l + d + (k + d))) (i + j) (omega arith)))
    where
      first : (a : ℕ) → T.B i j a *ℚ T.C a k l ≡ whole (2 * j + 1) *ℚ factors c d (i + j) (suc (k + l + d)) 0 a
      first a = ap₂ ◌*ℚ◌ (is.B i j a) (is.C a k l ∙ reach-same c (suc (k + l + d)) a (suc (k + l + d)) (a + 0) (omega arith)) ∙ *ℚ_assoc _ _ _

      second : (k l a : ℕ) → T.C i k a *ℚ T.B j a l ≡ whole (2 * a + 1) *ℚ factors c (suc (k + d)) i (l + d) j a
      second k l a = ap₂ ◌*ℚ◌ (is.C i k a ∙ reach-same c (suc (k + a + d)) i (a + suc (k + d)) i (omega arith)) (is.B j a l ∙ ap (λ t. whole (2 * a + 1) *ℚ t) (reach-same c (l + d) (j + a) (l + d) (a + j) (omega arith))) ∙ *ℚ_left_comm _ _ _

  pub bc : (i j k l : ℕ) → i < N → j < N → k < N → l < N → rel_BC T i j k l ≡ rel_BC T j i k l
  bc i j k l hi hj hk hl = at (cases_order i j)
    where
      apart : 0 < i + j → rel_BC T i j k l ≡ rel_BC T j i k l
      apart h =
          bc_is i j k l (omega arith) hi hj hk hl
          ∙ bc_end (k + d) (l + d) i j (reach (square c) (suc (l + d + (k + d))) (i + j)) (mixed c i (k + d) j (l + d) T.dim) (mixed c i (l + d) j (k + d) T.dim) (mixed c j (k + d) i (l + d) T.dim) (mixed c j (l + d) i (k + d) T.dim)
          (crossed c i (k + d) j (l + d) T.dim (omega arith) (omega arith))
          (ap (λ t. mixed c i (l + d) j (k + d) T.dim +ℚ whole (suc (l + d) + j) *ℚ t) turned ∙ crossed c i (l + d) j (k + d) T.dim (omega arith) (omega arith) ∙ ap (λ t. mixed c j (k + d) i (l + d) T.dim +ℚ whole (suc (k + d) + i) *ℚ t) (sym turned))
          ∙ ap (λ t. whole (2 * i + 1) *ℚ t +ℚ mixed c j (k + d) i (l + d) T.dim +ℚ mixed c j (l + d) i (k + d) T.dim) (reach-same (square c) (suc (l + d + (k + d))) (i + j) (suc (l + d + (k + d))) (j + i) (omega arith))
          ∙ sym (bc_is j i k l (omega arith) hj hi hk hl)
        where
          turned : reach (square c) (suc (l + d + (k + d))) (i + j) ≡ reach (square c) (suc (k + d + (l + d))) (i + j)
          turned = reach-same (square c) (suc (l + d + (k + d))) (i + j) (suc (k + d + (l + d))) (i + j) (omega arith)

      at : (i ≡ j) ⊎ ((i < j) ⊎ (j < i)) → rel_BC T i j k l ≡ rel_BC T j i k l
      at (inl e) = ap₂ (λ x y. rel_BC T x y k l) e (sym e)
      at (inr (inl h)) = apart (omega arith)
      at (inr (inr h)) = apart (omega arith)

  -- ---- BB

  abbrev edge : ℕ → ℕ → ℕ → ℕ → ℚ
  edge i j k l = reach c d (suc (i + k)) *ℚ reach c (suc (l + d)) j

  abbrev inner : ℕ → ℕ → ℕ → ℕ → ℚ
  inner i j k l = sum_over (below T.dim) (λ a. whole (2 * a + 1) *ℚ factors c d (i + k) (l + d) j a)

  -- the products of C and A
  ca_is : (i j k l : ℕ) → 0 < T.dim → sum_over (below T.dim) (λ a. T.C i l a *ℚ T.A j a k) ≡ whole (2 * k + 1) *ℚ edge j i k l
  ca_is i j k l room =
      sum-below_cong (λ a. T.C i l a *ℚ T.A j a k) (λ a. reach c (suc (l + a + d)) i *ℚ when (eqb (j + a + k + 1) d) 1ℚ) T.dim (λ a h. ap₂ ◌*ℚ◌ (is.C i l a) (is.A j a k))
      ∙ sum-first (λ a. reach c (suc (l + a + d)) i *ℚ when (eqb (j + a + k + 1) d) 1ℚ) T.dim room (λ a h. bracket-no (j + a + k + 1) d _ (λ e. omega arith))
      ∙ at (cases_lt d (suc (j + k)))
    where
      at : (d < suc (j + k)) ⊎ (suc (j + k) ≤ d) → reach c (suc (l + 0 + d)) i *ℚ when (eqb (j + 0 + k + 1) d) 1ℚ ≡ whole (2 * k + 1) *ℚ (reach c d (suc (j + k)) *ℚ reach c (suc (l + d)) i)
      at (inl h) = bracket-no (j + 0 + k + 1) d _ (λ e. omega arith) ∙ sym (ap (λ t. whole (2 * k + 1) *ℚ (t *ℚ reach c (suc (l + d)) i)) (reach-none c d (suc (j + k)) h) ∙ ap (λ t. whole (2 * k + 1) *ℚ t) (0ℚ-*ℚ _) ∙ *ℚ-0ℚ _)
      at (inr h) =
          bracket-yes (j + 0 + k + 1) d _ (omega arith) ∙ reach-same c (suc (l + 0 + d)) i (suc (l + d)) i (omega arith)
          ∙ sym (ap₂ (λ n t. whole n *ℚ (t *ℚ reach c (suc (l + d)) i)) k_zero (reach-at c d (suc (j + k)) 0 (omega arith) ∙ one) ∙ ap (λ t. t *ℚ (1ℚ *ℚ reach c (suc (l + d)) i)) whole-one ∙ 1ℚ_idl _ ∙ 1ℚ_idl _)
        where
          k_zero : 2 * k + 1 ≡ 1
          k_zero = omega arith

  bb_is : (i j k l : ℕ) → d ≤ i + j → i < N → j < N → k < N → l < N →
      rel_BB T i j k l ≡ whole (2 * k + 1) *ℚ (whole (2 * j + 1) *ℚ reach (square c) (l + d + d) (i + k + j) +ℚ inner i j k l +ℚ edge j i k l)
  unfolding rel_BB factors
  bb_is i j k l far hi hj hk hl =
      sum-below_cong (λ a. T.B i j a *ℚ T.B a k l +ℚ T.B i k a *ℚ T.B j a l +ℚ T.C i l a *ℚ T.A j a k)
      (λ a. whole (2 * k + 1) *ℚ (whole (2 * j + 1) *ℚ factors c d (i + j) (l + d) k a) +ℚ whole (2 * k + 1) *ℚ (whole (2 * a + 1) *ℚ factors c d (i + k) (l + d) j a) +ℚ T.C i l a *ℚ T.A j a k) T.dim
      (λ a h. ap (λ t. t +ℚ T.C i l a *ℚ T.A j a k) (ap₂ ◌+ℚ◌ (first a) (second a)))
      ∙ sum-three (λ a. whole (2 * k + 1) *ℚ (whole (2 * j + 1) *ℚ factors c d (i + j) (l + d) k a)) (λ a. whole (2 * k + 1) *ℚ (whole (2 * a + 1) *ℚ factors c d (i + k) (l + d) j a)) (λ a. T.C i l a *ℚ T.A j a k) T.dim
      ∙ ap₂ ◌+ℚ◌ (ap₂ ◌+ℚ◌
      (sym (sum-scale (whole (2 * k + 1)) (λ a. whole (2 * j + 1) *ℚ factors c d (i + j) (l + d) k a) (below T.dim)) ∙ ap (λ t. whole (2 * k + 1) *ℚ t) (sym (sum-scale (whole (2 * j + 1)) (factors c d (i + j) (l + d) k) (below T.dim))
      ∙ ap (λ t. whole (2 * j + 1) *ℚ t) (window c d (i + j) (l + d) k T.dim far (omega arith) ∙ reach-same (square c) (l + d + d) (i + j + k) (l + d + d) (i + k + j) (omega arith))))
      (sym (sum-scale (whole (2 * k + 1)) (λ a. whole (2 * a + 1) *ℚ factors c d (i + k) (l + d) j a) (below T.dim))))
      (ca_is i j k l (omega arith))
      ∙ together _ _ _ _
    where
      regroup₁ : (w r v s : ℚ) → (w *ℚ r) *ℚ (v *ℚ s) ≡ v *ℚ (w *ℚ (r *ℚ s))
      regroup₁ w r v s = simp products_q

      regroup₂ : (v r w s : ℚ) → (v *ℚ r) *ℚ (w *ℚ s) ≡ v *ℚ (w *ℚ (r *ℚ s))
      regroup₂ v r w s = simp products_q

      first : (a : ℕ) → T.B i j a *ℚ T.B a k l ≡ whole (2 * k + 1) *ℚ (whole (2 * j + 1) *ℚ factors c d (i + j) (l + d) k a)
      first a = ap₂ ◌*ℚ◌ (is.B i j a) (is.B a k l) ∙ regroup₁ _ _ _ _

      second : (a : ℕ) → T.B i k a *ℚ T.B j a l ≡ whole (2 * k + 1) *ℚ (whole (2 * a + 1) *ℚ factors c d (i + k) (l + d) j a)
      second a = ap₂ ◌*ℚ◌ (is.B i k a) (is.B j a l ∙ ap (λ t. whole (2 * a + 1) *ℚ t) (reach-same c (l + d) (j + a) (l + d) (a + j) (omega arith))) ∙ regroup₂ _ _ _ _

      together : (v x y z : ℚ) → v *ℚ x +ℚ v *ℚ y +ℚ v *ℚ z ≡ v *ℚ (x +ℚ y +ℚ z)
      together v x y z = simp (*ℚ_distrib, sums_q)

  pub bb : (i j k l : ℕ) → i < N → j < N → k < N → l < N → rel_BB T i j k l ≡ rel_BB T j i k l
  bb i j k l hi hj hk hl = at (cases_order i j)
    where
      turned : reach (square c) (l + d + d) (i + k + j) ≡ reach (square c) (l + d + d) (j + k + i)
      turned = reach-same (square c) (l + d + d) (i + k + j) (l + d + d) (j + k + i) (omega arith)

      apart : 0 < i + j → rel_BB T i j k l ≡ rel_BB T j i k l
      apart h =
          bb_is i j k l (omega arith) hi hj hk hl
          ∙ ap (λ t. whole (2 * k + 1) *ℚ t)
          (bb_end d i j k l (reach (square c) (l + d + d) (i + k + j)) (inner i j k l) (inner j i k l) (edge i j k l) (edge j i k l)
          (odd_edge c d (i + k) (l + d) j T.dim (omega arith) (omega arith))
          (ap (λ t. inner j i k l +ℚ whole (d + i) *ℚ t) turned ∙ odd_edge c d (j + k) (l + d) i T.dim (omega arith) (omega arith) ∙ ap (λ t. whole (l + d + (j + k) + 1) *ℚ t +ℚ edge j i k l) (sym turned))
          ∙ ap (λ t. whole (2 * i + 1) *ℚ t +ℚ inner j i k l +ℚ edge i j k l) turned)
          ∙ sym (bb_is j i k l (omega arith) hj hi hk hl)

      at : (i ≡ j) ⊎ ((i < j) ⊎ (j < i)) → rel_BB T i j k l ≡ rel_BB T j i k l
      at (inl e) = ap₂ (λ x y. rel_BB T x y k l) e (sym e)
      at (inr (inl h)) = apart (omega arith)
      at (inr (inr h)) = apart (omega arith)

  -- ---- BA

  abbrev b : ℕ → ℕ → ℚ
  b i j = whole (2 * j + 1) *ℚ reach c d (i + j)

  b-none : (i j : ℕ) (x : ℚ) → d < i + j → b i j *ℚ x ≡ 0ℚ
  b-none i j x h = ap (λ t. (whole (2 * j + 1) *ℚ t) *ℚ x) (reach-none c d (i + j) h) ∙ ap (λ t. t *ℚ x) (*ℚ-0ℚ _) ∙ 0ℚ-*ℚ x

  abbrev br : ℕ → ℚ
  br n = when (eqb (n + 1) d) 1ℚ

  abbrev ba : ℕ → ℕ → ℕ → ℕ → ℚ
  ba i j k l = b i j *ℚ br (k + l) +ℚ b i k *ℚ br (j + l) +ℚ b i l *ℚ br (j + k)

  ba_is : (i j k l : ℕ) → 0 < T.dim → rel_BA T i j k l ≡ ba i j k l
  unfolding rel_BA
  ba_is i j k l room =
      sum-below_cong (λ a. T.B i j a *ℚ T.A a k l +ℚ T.B i k a *ℚ T.A j a l +ℚ T.B i l a *ℚ T.A j a k) (λ a. term j (a + k + l + 1) a +ℚ term k (j + a + l + 1) a +ℚ term l (j + a + k + 1) a) T.dim
      (λ a h. ap₂ ◌+ℚ◌ (ap₂ ◌+ℚ◌ (ap₂ ◌*ℚ◌ (is.B i j a) (is.A a k l)) (ap₂ ◌*ℚ◌ (is.B i k a) (is.A j a l))) (ap₂ ◌*ℚ◌ (is.B i l a) (is.A j a k)))
      ∙ sum-first (λ a. term j (a + k + l + 1) a +ℚ term k (j + a + l + 1) a +ℚ term l (j + a + k + 1) a) T.dim room
      (λ a h. ap₂ ◌+ℚ◌ (ap₂ ◌+ℚ◌ (bracket-no (a + k + l + 1) d _ (λ e. omega arith)) (bracket-no (j + a + l + 1) d _ (λ e. omega arith))) (bracket-no (j + a + k + 1) d _ (λ e. omega arith)) ∙ ap (λ t. t +ℚ 0ℚ) (0ℚ_idl 0ℚ) ∙ 0ℚ_idl 0ℚ)
      ∙ ap₂ ◌+ℚ◌ (ap₂ ◌+ℚ◌ (same j (0 + k + l + 1) (k + l + 1) (omega arith)) (same k (j + 0 + l + 1) (j + l + 1) (omega arith))) (same l (j + 0 + k + 1) (j + k + 1) (omega arith))
    where
      term : ℕ → ℕ → ℕ → ℚ
      term x n a = (whole (2 * x + 1) *ℚ reach c (a + d) (i + x)) *ℚ when (eqb n d) 1ℚ

      same : (x n m : ℕ) → n ≡ m → term x n 0 ≡ b i x *ℚ when (eqb m d) 1ℚ
      same x n m e = ap₂ (λ t s. (whole (2 * x + 1) *ℚ t) *ℚ when (eqb s d) 1ℚ) (reach-same c (0 + d) (i + x) d (i + x) (omega arith)) e

  no : (x : ℚ) (n : ℕ) → d < n + 1 → x *ℚ br n ≡ 0ℚ
  no x n h = bracket-no (n + 1) d x (λ e. omega arith)

  yes : (x : ℚ) (n : ℕ) → n + 1 ≡ d → x *ℚ br n ≡ x
  yes x n h = bracket-yes (n + 1) d x h

  zeros : (x y z : ℚ) → x ≡ 0ℚ → y ≡ 0ℚ → z ≡ 0ℚ → x +ℚ y +ℚ z ≡ 0ℚ
  zeros x y z e f g = ap₂ ◌+ℚ◌ (ap₂ ◌+ℚ◌ e f) g ∙ ap (λ t. t +ℚ 0ℚ) (0ℚ_idl 0ℚ) ∙ 0ℚ_idl 0ℚ

  ba_far : (i j k l : ℕ) → d < i → ba i j k l ≡ 0ℚ
  ba_far i j k l h = zeros _ _ _ (b-none i j _ (omega arith)) (b-none i k _ (omega arith)) (b-none i l _ (omega arith))

  ba_second : (i j k l : ℕ) → 0 < j → d < i + j → ba i j k l ≡ 0ℚ
  ba_second i j k l p h = zeros _ _ _ (b-none i j _ h) (no _ (j + l) (omega arith)) (no _ (j + k) (omega arith))

  -- the one place with something in it
  ba_one : (k l : ℕ) → d ≡ 1 → ba 1 0 k l ≡ ba 0 1 k l
  ba_one k l is_one = at (cases_lt 0 (k + l))
    where
      right : ba 0 1 k l ≡ b 0 1 *ℚ br (k + l)
      right = ap₂ (λ y z. b 0 1 *ℚ br (k + l) +ℚ y +ℚ z) (no (b 0 k) (1 + l) (omega arith)) (no (b 0 l) (1 + k) (omega arith)) ∙ 0ℚ_idr _ ∙ 0ℚ_idr _

      cross : (k l : ℕ) → 0 < k + l → b 1 k *ℚ br (0 + l) ≡ 0ℚ
      cross k l h = by (cases_lt 0 k)
        where
          by : (0 < k) ⊎ (k ≤ 0) → b 1 k *ℚ br (0 + l) ≡ 0ℚ
          by (inl p) = b-none 1 k _ (omega arith)
          by (inr p) = no (b 1 k) (0 + l) (omega arith)

      three : (x : ℚ) → whole 1 *ℚ x +ℚ whole 1 *ℚ x +ℚ whole 1 *ℚ x ≡ whole 3 *ℚ x
      three x = ap (λ t. t +ℚ whole 1 *ℚ x) (gather 1 1 x) ∙ gather 2 1 x

      b_10 : (x : ℕ) → x ≡ 0 → b 1 x ≡ whole 1 *ℚ reach c d 1
      b_10 x e = ap₂ (λ n m. whole n *ℚ reach c d m) (odd x e) (plus x e)
        where
          odd : (x : ℕ) → x ≡ 0 → 2 * x + 1 ≡ 1
          odd x e = omega arith

          plus : (x : ℕ) → x ≡ 0 → 1 + x ≡ 1
          plus x e = omega arith

      at : (0 < k + l) ⊎ (k + l ≤ 0) → ba 1 0 k l ≡ ba 0 1 k l
      at (inl h) = zeros _ _ _ (no (b 1 0) (k + l) (omega arith)) (cross k l h) (cross l k (omega arith)) ∙ sym (right ∙ no (b 0 1) (k + l) (omega arith))
      at (inr h) =
          ap₂ ◌+ℚ◌ (ap₂ ◌+ℚ◌ (yes (b 1 0) (k + l) (omega arith) ∙ b_10 0 refl) (yes (b 1 k) (0 + l) (omega arith) ∙ b_10 k (omega arith))) (yes (b 1 l) (0 + k) (omega arith) ∙ b_10 l (omega arith))
          ∙ three (reach c d 1) ∙ sym (right ∙ yes (b 0 1) (k + l) (omega arith))

  ba_turn : (i j k l : ℕ) → ba i j k l ≡ ba j i k l
  ba_turn zero zero k l = refl
  ba_turn (suc i) (suc j) k l = ba_second (suc i) (suc j) k l (omega arith) (omega arith) ∙ sym (ba_second (suc j) (suc i) k l (omega arith) (omega arith))
  ba_turn (suc i) zero k l = at i (cases_lt d (suc i))
    where
      at : (i : ℕ) → (d < suc i) ⊎ (suc i ≤ d) → ba (suc i) 0 k l ≡ ba 0 (suc i) k l
      at i (inl h) = ba_far (suc i) 0 k l h ∙ sym (ba_second 0 (suc i) k l (omega arith) (omega arith))
      at zero (inr h) = ba_one k l (omega arith)
      at (suc i) (inr h) = absurd (omega arith)
  ba_turn zero (suc j) k l = at j (cases_lt d (suc j))
    where
      at : (i : ℕ) → (d < suc i) ⊎ (suc i ≤ d) → ba 0 (suc i) k l ≡ ba (suc i) 0 k l
      at i (inl h) = ba_second 0 (suc i) k l (omega arith) (omega arith) ∙ sym (ba_far (suc i) 0 k l h)
      at zero (inr h) = sym (ba_one k l (omega arith))
      at (suc i) (inr h) = absurd (omega arith)

  pub ba_law : (i j k l : ℕ) → i < N → rel_BA T i j k l ≡ rel_BA T j i k l
  ba_law i j k l h = ba_is i j k l (omega arith) ∙ ba_turn i j k l ∙ sym (ba_is j i k l (omega arith))

  -- ---- D

  abbrev dd : ℕ → ℕ → ℚ
  dd i j = (whole (2 * j + 1) *ℚ eighth) *ℚ reach (square c) (d + d) (i + j) +ℚ half *ℚ (reach c (suc d) i *ℚ when (eqb (j + 1) d) 1ℚ)

  d_is : (i j : ℕ) → d ≤ i + j → d < T.dim → rel_D T i j ≡ dd i j
  unfolding rel_D factors
  d_is i j far wide =
      ap₂ (λ s t. s +ℚ half *ℚ t)
      (sum-below_cong (λ a. T.B i j a *ℚ T.D a) (λ a. (whole (2 * j + 1) *ℚ eighth) *ℚ factors c d (i + j) d 0 a) T.dim
      (λ a h. ap₂ ◌*ℚ◌ (is.B i j a) (is.D a ∙ ap (λ t. t *ℚ eighth) (reach-same c d a d (a + 0) (omega arith))) ∙ regroup _ _ _ _)
      ∙ sym (sum-scale (whole (2 * j + 1) *ℚ eighth) (factors c d (i + j) d 0) (below T.dim))
      ∙ ap (λ t. (whole (2 * j + 1) *ℚ eighth) *ℚ t) (window c d (i + j) d 0 T.dim far (omega arith) ∙ reach-same (square c) (d + d) (i + j + 0) (d + d) (i + j) (omega arith)))
      (sum-below_cong (λ a. sum_over (below T.dim) (λ b. T.C i a b *ℚ T.A j a b)) (λ a. sum_over (below T.dim) (λ b. ca a b)) T.dim (λ a h. sum-below_cong (λ b. T.C i a b *ℚ T.A j a b) (λ b. ca a b) T.dim (λ b p. ap₂ ◌*ℚ◌ (is.C i a b) (is.A j a b)))
      ∙ sum-first (λ a. sum_over (below T.dim) (λ b. ca a b)) T.dim (omega arith) (λ a h. sum-none_below (λ b. ca a b) T.dim (λ b p. bracket-no (j + a + b + 1) d _ (λ e. omega arith)))
      ∙ sum-first (λ b. ca 0 b) T.dim (omega arith) (λ b h. bracket-no (j + 0 + b + 1) d _ (λ e. omega arith))
      ∙ ap₂ (λ s n. s *ℚ when (eqb n d) 1ℚ) (reach-same c (suc (0 + 0 + d)) i (suc d) i (omega arith)) zeros_out)
    where
      ca : ℕ → ℕ → ℚ
      ca a b = reach c (suc (a + b + d)) i *ℚ when (eqb (j + a + b + 1) d) 1ℚ

      zeros_out : j + 0 + 0 + 1 ≡ j + 1
      zeros_out = omega arith

      regroup : (w r s e : ℚ) → (w *ℚ r) *ℚ (s *ℚ e) ≡ (w *ℚ e) *ℚ (r *ℚ s)
      regroup w r s e = simp products_q

  sum_zero : (i j : ℕ) → d + d < i + j → (whole (2 * j + 1) *ℚ eighth) *ℚ reach (square c) (d + d) (i + j) ≡ 0ℚ
  sum_zero i j h = ap (λ t. (whole (2 * j + 1) *ℚ eighth) *ℚ t) (reach-none (square c) (d + d) (i + j) h) ∙ *ℚ-0ℚ _

  half_zero : (x : ℚ) → x ≡ 0ℚ → half *ℚ x ≡ 0ℚ
  half_zero x e = ap (λ t. half *ℚ t) e ∙ *ℚ-0ℚ half

  dd_zero : (i j : ℕ) → d + d < i + j → d < j + 1 → dd i j ≡ 0ℚ
  dd_zero i j h p = ap₂ ◌+ℚ◌ (sum_zero i j h) (half_zero _ (no (reach c (suc d) i) j p)) ∙ 0ℚ_idl 0ℚ

  dd_far : (i j : ℕ) → d + d < i + j → suc d < i → dd i j ≡ 0ℚ
  dd_far i j h p = ap₂ ◌+ℚ◌ (sum_zero i j h) (half_zero _ (ap (λ t. t *ℚ when (eqb (j + 1) d) 1ℚ) (reach-none c (suc d) i p) ∙ 0ℚ-*ℚ _)) ∙ 0ℚ_idl 0ℚ

  square_zero : square c 0 ≡ 1ℚ
  unfolding square sum_over below count_from
  square_zero = 0ℚ_idr _ ∙ ap₂ ◌*ℚ◌ one one ∙ 1ℚ_idl 1ℚ

  square_one : square c 1 ≡ c 1 +ℚ c 1
  unfolding square sum_over below count_from
  square_one = ap₂ ◌+ℚ◌ (ap (λ t. t *ℚ c 1) one ∙ 1ℚ_idl (c 1)) (0ℚ_idr _ ∙ ap (λ t. c 1 *ℚ t) one ∙ 1ℚ_idr (c 1))

  -- at i = 1 and i = 2 with j = 0
  dd_at : (i e w : ℕ) (v : ℚ) → d ≡ 1 → i + e ≡ 2 → 0 < i → 2 * i + 1 ≡ w → square c e ≡ v → (whole 1 *ℚ eighth) *ℚ v +ℚ half *ℚ c e ≡ (whole w *ℚ eighth) *ℚ v → dd i 0 ≡ dd 0 i
  dd_at i e w v is_one sum p is_w is_v h =
      ap₂ (λ s t. (whole 1 *ℚ eighth) *ℚ s +ℚ half *ℚ t) (reach-at (square c) (d + d) (i + 0) e (omega arith) ∙ is_v) (yes (reach c (suc d) i) 0 (omega arith) ∙ reach-at c (suc d) i e (omega arith))
      ∙ h
      ∙ sym (ap₂ ◌+ℚ◌ (ap₂ (λ n s. (whole n *ℚ eighth) *ℚ s) is_w (reach-at (square c) (d + d) (0 + i) e (omega arith) ∙ is_v)) (half_zero _ (no (reach c (suc d) 0) i (omega arith))) ∙ 0ℚ_idr _)

  numbers_one : (whole 1 *ℚ eighth +ℚ whole 1 *ℚ eighth) +ℚ half ≡ whole 3 *ℚ eighth +ℚ whole 3 *ℚ eighth
  unfolding ℚ_computes half eighth
  numbers_one = refl

  numbers_two : whole 1 *ℚ eighth +ℚ half ≡ whole 5 *ℚ eighth
  unfolding ℚ_computes half eighth
  numbers_two = refl

  dd_one : d ≡ 1 → dd 1 0 ≡ dd 0 1
  dd_one h = dd_at 1 1 3 (c 1 +ℚ c 1) h (omega arith) (omega arith) refl square_one
      (left (whole 1 *ℚ eighth) half (c 1) ∙ ap (λ t. t *ℚ c 1) numbers_one ∙ right (whole 3 *ℚ eighth) (c 1))
    where
      left : (w h x : ℚ) → w *ℚ (x +ℚ x) +ℚ h *ℚ x ≡ ((w +ℚ w) +ℚ h) *ℚ x
      left w h x = simp (*ℚ_distrib, *ℚ_distrib_r)

      right : (w x : ℚ) → (w +ℚ w) *ℚ x ≡ w *ℚ (x +ℚ x)
      right w x = simp (*ℚ_distrib, *ℚ_distrib_r)

  dd_two : d ≡ 1 → dd 2 0 ≡ dd 0 2
  dd_two h = dd_at 2 0 5 1ℚ h (omega arith) (omega arith) refl square_zero
      (ap₂ (λ s t. s +ℚ half *ℚ t) (1ℚ_idr _) one ∙ ap (λ t. whole 1 *ℚ eighth +ℚ t) (1ℚ_idr half) ∙ numbers_two ∙ sym (1ℚ_idr _))

  dd_front : (i : ℕ) → dd (suc i) 0 ≡ dd 0 (suc i)
  dd_front i = at i (cases_lt d 1)
    where
      at : (i : ℕ) → (d < 1) ⊎ (1 ≤ d) → dd (suc i) 0 ≡ dd 0 (suc i)
      at i (inl h) = dd_zero (suc i) 0 (omega arith) (omega arith) ∙ sym (dd_zero 0 (suc i) (omega arith) (omega arith))
      at zero (inr h) = dd_one (omega arith)
      at (suc zero) (inr h) = dd_two (omega arith)
      at (suc (suc i)) (inr h) = dd_far (suc (suc (suc i))) 0 (omega arith) (omega arith) ∙ sym (dd_zero 0 (suc (suc (suc i))) (omega arith) (omega arith))

  dd_turn : (i j : ℕ) → (i ≡ j → ⊥) → dd i j ≡ dd j i
  dd_turn zero zero h = refl
  dd_turn (suc i) zero h = dd_front i
  dd_turn zero (suc j) h = sym (dd_front j)
  dd_turn (suc i) (suc j) h = dd_zero (suc i) (suc j) (far (cases_order (suc i) (suc j))) (omega arith) ∙ sym (dd_zero (suc j) (suc i) (far' (cases_order (suc i) (suc j))) (omega arith))
    where
      far : (suc i ≡ suc j) ⊎ ((suc i < suc j) ⊎ (suc j < suc i)) → d + d < suc i + suc j
      far (inl e) = absurd (h e)
      far (inr (inl p)) = omega arith
      far (inr (inr p)) = omega arith

      far' : (suc i ≡ suc j) ⊎ ((suc i < suc j) ⊎ (suc j < suc i)) → d + d < suc j + suc i
      far' (inl e) = absurd (h e)
      far' (inr (inl p)) = omega arith
      far' (inr (inr p)) = omega arith

  pub d_law : (i j : ℕ) → i < N → rel_D T i j ≡ rel_D T j i
  d_law i j hi = at (cases_order i j)
    where
      apart : 0 < i + j → (i ≡ j → ⊥) → rel_D T i j ≡ rel_D T j i
      apart h n = d_is i j (omega arith) (omega arith) ∙ dd_turn i j n ∙ sym (d_is j i (omega arith) (omega arith))

      at : (i ≡ j) ⊎ ((i < j) ⊎ (j < i)) → rel_D T i j ≡ rel_D T j i
      at (inl e) = ap₂ (λ x y. rel_D T x y) e (sym e)
      at (inr (inl h)) = apart (omega arith) (λ e. omega arith)
      at (inr (inr h)) = apart (omega arith) (λ e. omega arith)

  pub closes : Close T N
  closes = record {
    AA = λ i j k hi hj hk. aa i j k;
    BA = λ i j k l hi hj hk hl. ba_law i j k l hi;
    BB = λ i j k l hi hj hk hl. bb i j k l hi hj hk hl;
    BC = λ i j k l hi hj hk hl. bc i j k l hi hj hk hl;
    D = λ i j hi hj. d_law i j hi;
  }
