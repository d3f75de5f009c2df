-- What a solution's coefficient with one index more is, where no entry of C stands at that index.
use Prim.Native.Nat.{ℕ, zero, suc, ◌+◌, ◌*◌, ◌<◌, ◌≤◌}
use mathlib.Core.Path.{◌≡◌, refl, sym, ap, ap₂, subst, ◌∙◌}
use mathlib.Core.Bool.{Bool, true, false}
use mathlib.Core.List.{List, ◌∷◌}
use mathlib.Core.Logic.{◌⊎◌, inl, inr}
use native.Mathlib.Omega.{arith}
use lib.Dec.{ltb, eqb}
use lib.IntN.{pos}
use lib.ListN.{length}
use Rattle.std.proofs.lemmas.Bool.{cases_lt, cases_eq, eq-eqb, ne_eqb}
use Rattle.airy_math.specs.Rational.{ℚ, ◌+ℚ◌, ◌*ℚ◌, ◌/ℚ◌, whole}
use Rattle.airy_math.specs.RationalLaws.{0ℚ, half, products_q, 0ℚ_idl, 0ℚ-*ℚ, *ℚ_left_comm}
use Rattle.airy_math.specs.Sums.{sum_over, when, below}
use Rattle.airy_math.specs.Keys.{total, euler, key_of, times, exponents}
use Rattle.airy_math.specs.Shapes.{Keeps}
use Rattle.airy_math.specs.Tensors.{Tensors, IsSymmetric, IsGraded}
use Rattle.airy_math.specs.Cuts.{law_at}
use Rattle.airy_math.specs.Series.{Series, raise, lower, exponent}
use Rattle.airy_math.specs.Solutions.{Solves, amplitude}
use Rattle.airy_math.proofs.SumLemmas.{Each-below, sum-cong, sum-cong_each, sum-zero, sum-scale, sum_both, sum_both-cong, 0ℚ_idr, *ℚ-0ℚ}
use Rattle.airy_math.proofs.KeyLemmas.{AllBelow}
use Rattle.airy_math.proofs.MoveLemmas.{exponents-cons}
use Rattle.airy_math.proofs.SplitLemmas.{scaled, whole-mul}
use Rattle.airy_math.proofs.ConstraintLemmas.{Recursion, c_term, joined, products, recursion_from_residue, raise-lower, whole-zero}
use Rattle.airy_math.proofs.PivotLaw.{no_a_part, no_d_part, when-zero}
use Rattle.airy_math.proofs.StartLaw.{sum-one}
use Rattle.airy_math.proofs.GradedLaw.{Covered, graded_zero}
use Rattle.airy_math.proofs.SolutionLaw.{length-exponents, exponent-exponents, zero_scaled}
use Rattle.intersection_law.specs.Numbers.{odd_factorial, odd_factorials, intersection_number}
use Rattle.intersection_law.proofs.PlaceLemmas.{total-exponents, index_sum-exponents, sum-by_index, when-at, sum-whole, quotient-times, odd_factorial_pos, odd_factorials_pos}

-- two tests of one fact
pub same_test : (p q r s : ℕ) → (p ≡ q → r ≡ s) → (r ≡ s → p ≡ q) → eqb p q ≡ eqb r s
same_test p q r s h k = by (cases_eq r s)
  where
    by : (r ≡ s) ⊎ (r ≡ s → ⊥) → eqb p q ≡ eqb r s
    by (inl e) = eq-eqb p q (k e) ∙ sym (eq-eqb r s e)
    by (inr d) = ne_eqb p q (λ e. d (h e)) ∙ sym (ne_eqb r s d)

-- a row with one entry c, at j
pub row-one : (m j : ℕ) (c : ℚ) (x v : ℕ → ℚ) → j < m → ((b : ℕ) → x b ≡ when (eqb b j) c) → sum_over (below m) (λ b. x b *ℚ v b) ≡ c *ℚ v j
unfolding when
row-one m j c x v p h = sum-cong _ _ (below m) (λ b. ap (λ u. u *ℚ v b) (h b) ∙ inside (eqb b j) (v b) ∙ when-at (λ b. c *ℚ v b) b j) ∙ sum-one j m (c *ℚ v j) p
  where
    inside : (t : Bool) (y : ℚ) → when t c *ℚ y ≡ when t (c *ℚ y)
    inside true y = refl
    inside false y = 0ℚ-*ℚ y

-- and with none
pub row-none : (m : ℕ) (x v : ℕ → ℚ) → ((b : ℕ) → x b ≡ 0ℚ) → sum_over (below m) (λ b. x b *ℚ v b) ≡ 0ℚ
row-none m x v h = sum-cong _ (λ b. 0ℚ) (below m) (λ b. ap (λ u. u *ℚ v b) (h b) ∙ 0ℚ-*ℚ (v b)) ∙ sum-zero (below m)

-- the sum of the 2d + 1, times x
sum-odd : (x : ℚ) (ds : List ℕ) → sum_over ds (λ a. whole (2 * a + 1) *ℚ x) ≡ whole (2 * total ds + length ds) *ℚ x
unfolding total
sum-odd x ds = sum-whole (λ d. 2 * d + 1) (λ ds. 2 * total ds + length ds) refl (λ d ds. omega arith) x ds

-- a number that is 0 or has the factor o E, over o
divided : (s : ℚ) (N o E n : ℕ) → 0 < o → 0 < n → (s ≡ 0ℚ) ⊎ (N ≡ o * E) → (whole N *ℚ s) *ℚ (pos 1 /ℚ (o * n)) ≡ whole E *ℚ (s *ℚ (pos 1 /ℚ n))
divided s N o E n p q (inl z) = ap (λ t. t *ℚ (pos 1 /ℚ (o * n))) (ap (λ t. whole N *ℚ t) z ∙ *ℚ-0ℚ (whole N)) ∙ 0ℚ-*ℚ _ ∙ sym (ap (λ t. whole E *ℚ (t *ℚ (pos 1 /ℚ n))) z ∙ ap (λ t. whole E *ℚ t) (0ℚ-*ℚ _) ∙ *ℚ-0ℚ (whole E))
divided s N o E n p q (inr e) = ap (λ t. (t *ℚ s) *ℚ (pos 1 /ℚ (o * n))) (ap whole e ∙ whole-mul o E) ∙ regroup (whole o) (whole E) s (pos 1 /ℚ (o * n)) ∙ ap (λ t. whole E *ℚ (s *ℚ t)) (sym (quotient-times o 1 n p q))
  where
    regroup : (w v s r : ℚ) → ((w *ℚ v) *ℚ s) *ℚ r ≡ v *ℚ (s *ℚ (w *ℚ r))
    regroup w v s r = simp products_q

module _ (S : Tensors) (X : ℕ) (f : Series) (sy : IsSymmetric S) (gr : IsGraded S) (so : Solves S X f) (g : ℕ) (ds : List ℕ) (b : AllBelow S.dim ds) (some : 0 < euler g (length ds)) (most : euler g (suc (length ds)) ≤ X) where
  abbrev e : List ℕ
  e = exponents S.dim ds

  places : total e ≡ length ds
  places = total-exponents S.dim ds b

  -- the coefficient is 0, or the shape covers the list
  pub zero_or_covered : (scaled f g e ≡ 0ℚ) ⊎ Keeps S.shape (pos (total ds)) (law_at S.shape g (length ds))
  unfolding Covered euler
  zero_or_covered = at (cases_lt 0 (total e))
    where
      at : (0 < total e) ⊎ (total e ≤ 0) → (scaled f g e ≡ 0ℚ) ⊎ Keeps S.shape (pos (total ds)) (law_at S.shape g (length ds))
      at (inr h) = inl (zero_scaled f g e (so.has_indices g e (omega arith)))
      at (inl h) = subst (λ p. (scaled f g e ≡ 0ℚ) ⊎ p) (ap₂ (λ s n. Keeps S.shape (pos s) (law_at S.shape g n)) (index_sum-exponents S.dim ds b) places)
          (graded_zero S X f sy gr so g e (length-exponents S.dim ds) h (omega (arith, places)))

  module _ (i : ℕ) (p : i < S.dim) (no_c : (a b : ℕ) → S.C i a b ≡ 0ℚ) where
    b_alone : Recursion S f i g e ≡ sum_both S.dim (λ a b. S.B i a b *ℚ (whole (exponent e a) *ℚ scaled f g (raise (lower e a) b)))
    unfolding Recursion c_term euler
    b_alone = ap₂ (λ x y. x +ℚ B +ℚ C +ℚ y) (none _ _ (no_a_part S i g e (λ u v. omega (arith, places)))) (none _ _ (no_d_part S i g e (λ u v. omega (arith, places))))
        ∙ 0ℚ_idr _ ∙ ap₂ ◌+ℚ◌ (0ℚ_idl B) (sum_both-cong _ (λ a b. 0ℚ) S.dim (λ a b q r. no_term a b) ∙ zeros) ∙ 0ℚ_idr B
      where
        B : ℚ
        B = sum_both S.dim (λ a b. S.B i a b *ℚ (whole (exponent e a) *ℚ scaled f g (raise (lower e a) b)))

        C : ℚ
        C = sum_both S.dim (λ a b. when (ltb a b) (c_term S f i g e a b) +ℚ when (eqb a b) (half *ℚ c_term S f i g e a b))

        none : (x y : ℚ) → y ≡ 0ℚ → x *ℚ y ≡ 0ℚ
        none x y h = ap (λ t. x *ℚ t) h ∙ *ℚ-0ℚ x

        zeros : sum_both S.dim (λ a b. 0ℚ) ≡ 0ℚ
        zeros = sum-cong _ (λ a. 0ℚ) (below S.dim) (λ a. sum-zero (below S.dim)) ∙ sum-zero (below S.dim)

        no_term : (a b : ℕ) → when (ltb a b) (c_term S f i g e a b) +ℚ when (eqb a b) (half *ℚ c_term S f i g e a b) ≡ 0ℚ
        no_term a b =
            ap (λ t. when (ltb a b) t +ℚ when (eqb a b) (half *ℚ t)) (ap (λ t. t *ℚ (joined f a b g e +ℚ products f a b g e)) (no_c a b) ∙ 0ℚ-*ℚ _)
            ∙ ap₂ ◌+ℚ◌ (when-zero (ltb a b)) (ap (when (eqb a b)) (*ℚ-0ℚ half) ∙ when-zero (eqb a b)) ∙ 0ℚ_idl 0ℚ

    -- The coefficient with the index i more is a sum over the places of the list.
    pub index_more : (row : ℕ → ℚ) → ((a : ℕ) → a < S.dim → 0 < exponent e a → sum_over (below S.dim) (λ b. S.B i a b *ℚ scaled f g (raise (lower e a) b)) ≡ row a) → scaled f g (exponents S.dim (i ∷ ds)) ≡ sum_over ds row
    unfolding euler
    index_more row h =
        ap (scaled f g) (exponents-cons S.dim i ds)
        ∙ recursion_from_residue S f i g e sy len p (so.constraints i g e p len (subst (λ n. 0 < euler g (suc n)) (sym places) more) (subst (λ n. euler g (suc n) ≤ X) (sym places) most))
        ∙ b_alone ∙ sum-cong_each _ _ (below S.dim) (Each-below _ S.dim each_row) ∙ sym (sum-by_index row S.dim ds b)
      where
        len : length e ≡ S.dim
        len = length-exponents S.dim ds

        more : 0 < euler g (suc (length ds))
        more = omega arith

        scaled_row : (w : ℚ) (x v : ℕ → ℚ) → sum_over (below S.dim) (λ b. x b *ℚ (w *ℚ v b)) ≡ w *ℚ sum_over (below S.dim) (λ b. x b *ℚ v b)
        scaled_row w x v = sum-cong _ _ (below S.dim) (λ b. *ℚ_left_comm (x b) w (v b)) ∙ sym (sum-scale w (λ b. x b *ℚ v b) (below S.dim))

        each_row : (a : ℕ) → a < S.dim → sum_over (below S.dim) (λ b. S.B i a b *ℚ (whole (exponent e a) *ℚ scaled f g (raise (lower e a) b))) ≡ whole (times a ds) *ℚ row a
        each_row a q = scaled_row (whole (exponent e a)) (S.B i a) (λ b. scaled f g (raise (lower e a) b)) ∙ by (exponent e a) refl ∙ ap (λ n. whole n *ℚ row a) (exponent-exponents S.dim a ds q)
          where
            by : (n : ℕ) → exponent e a ≡ n → whole (exponent e a) *ℚ sum_over (below S.dim) (λ b. S.B i a b *ℚ scaled f g (raise (lower e a) b)) ≡ whole (exponent e a) *ℚ row a
            by zero z = gone _ ∙ sym (gone _)
              where
                gone : (x : ℚ) → whole (exponent e a) *ℚ x ≡ 0ℚ
                gone x = ap (λ n. whole n *ℚ x) z ∙ ap (λ t. t *ℚ x) whole-zero ∙ 0ℚ-*ℚ x
            by (suc n) z = ap (λ t. whole (exponent e a) *ℚ t) (h a q (omega arith))

    -- Where B^i_ab is (2a + 1) [a = b], it is the coefficient without that index, times the sum of the 2d + 1;
    index_keeps : ((a b : ℕ) → S.B i a b ≡ when (eqb b a) (whole (2 * a + 1))) → scaled f g (exponents S.dim (i ∷ ds)) ≡ whole (2 * total ds + length ds) *ℚ scaled f g e
    index_keeps h =
        index_more (λ a. whole (2 * a + 1) *ℚ scaled f g e) (λ a q s.
        row-one S.dim a (whole (2 * a + 1)) (S.B i a) (λ b. scaled f g (raise (lower e a) b)) q (h a) ∙ ap (λ y. whole (2 * a + 1) *ℚ scaled f g y) (raise-lower e a s))
        ∙ sum-odd (scaled f g e) ds

    -- and the intersection number has a factor n, where the shape makes that sum n times (2i + 1)!!.
    pub number_keeps : ((a b : ℕ) → S.B i a b ≡ when (eqb b a) (whole (2 * a + 1))) → (n : ℕ) → (Keeps S.shape (pos (total ds)) (law_at S.shape g (length ds)) → 2 * total ds + length ds ≡ odd_factorial i * n)
        → intersection_number S.dim f (key_of g (i ∷ ds)) ≡ whole n *ℚ intersection_number S.dim f (key_of g ds)
    unfolding intersection_number amplitude scaled key_of odd_factorials
    number_keeps h n k = ap (λ t. t *ℚ (pos 1 /ℚ (odd_factorial i * odd_factorials ds))) (index_keeps h)
        ∙ divided (scaled f g e) (2 * total ds + length ds) (odd_factorial i) n (odd_factorials ds) (odd_factorial_pos i) (odd_factorials_pos ds) (by zero_or_covered)
      where
        by : (scaled f g e ≡ 0ℚ) ⊎ Keeps S.shape (pos (total ds)) (law_at S.shape g (length ds)) → (scaled f g e ≡ 0ℚ) ⊎ (2 * total ds + length ds ≡ odd_factorial i * n)
        by (inl z) = inl z
        by (inr c) = inr (k c)
