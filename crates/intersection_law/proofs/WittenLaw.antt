-- The string equation, the dilaton equation, and genus 0.
use Prim.Native.Nat.{ℕ, zero, suc, ◌+◌, ◌*◌, ◌-◌, ◌<◌, ◌≤◌}
use mathlib.Core.Path.{◌≡◌, refl, sym, ap, ap₂, subst, ◌∙◌}
use mathlib.Core.List.{List, [], ◌∷◌}
use native.Mathlib.Omega.{arith}
use lib.Dec.{eqb}
use lib.IntN.{pos, ◌+ℤ◌, ◌*ℤ◌, ◌-ℤ◌}
use lib.ListN.{length, replicate}
use Rattle.std.proofs.lemmas.Int.{ints}
use Rattle.std.proofs.lemmas.Bool.{eqb-true}
use Rattle.airy_math.specs.Rational.{ℚ, ◌*ℚ◌, ◌/ℚ◌, whole}
use Rattle.airy_math.specs.RationalLaws.{0ℚ, 1ℚ, products_q, 0ℚ-*ℚ, *ℚ_comm, mul_fractions}
use Rattle.airy_math.specs.Sums.{sum_over, when, below, factorial}
use Rattle.airy_math.specs.Keys.{euler, key_of, total, exponents}
use Rattle.airy_math.specs.Shapes.{law_number, Keeps, per_g, per_n}
use Rattle.airy_math.specs.Named.{wk, wk_shape}
use Rattle.airy_math.specs.Cuts.{law_at}
use Rattle.airy_math.specs.Series.{Series, raise, lower, exponent}
use Rattle.airy_math.specs.Solutions.{Solves, factorials, amplitude}
use Rattle.airy_math.specs.Terms.{term_value}
use Rattle.airy_math.specs.Examples.{computes}
use Rattle.airy_math.proofs.SumLemmas.{sum-cong, sum-scale, 0ℚ_idr, *ℚ-0ℚ}
use Rattle.airy_math.proofs.SplitLemmas.{scaled}
use Rattle.airy_math.proofs.MoveLemmas.{exponents-cons}
use Rattle.airy_math.proofs.ConstraintLemmas.{factorials_pos, whole-zero}
use Rattle.airy_math.proofs.PivotLaw.{when-none}
use Rattle.airy_math.proofs.FamilyLaw.{wk_graded, wk_symmetric}
use Rattle.airy_math.proofs.SolutionLaw.{amp, amplitude_law, all_zeros}
use Rattle.intersection_law.specs.Numbers.{odd_factorial, odd_factorials, intersection_number}
use Rattle.intersection_law.specs.Equations.{AreUpTo, lowered, correlator, WittenLaw}
use Rattle.intersection_law.proofs.PlaceLemmas.{below_from_up_to, quotient-times, odd_factorials_pos, IsLowered, at_pred, sum-lowered, IsWithout, has_zero, sum-whole}
use Rattle.intersection_law.proofs.FirstIndex.{same_test, row-one, row-none, index_more, number_keeps}
use Rattle.airy_math.proofs.ConverseLaw.{lower-raise}

module _ (X M : ℕ) (f : Series) (so : Solves (wk M) X f) (g : ℕ) (ds : List ℕ) (up : AreUpTo M ds) (some : 0 < euler g (length ds)) (most : euler g (suc (length ds)) ≤ X) where
  abbrev e : List ℕ
  e = exponents (suc M) ds

  no_c : (i : ℕ) → i < 2 → (a b : ℕ) → when (eqb i (a + b + 2)) 1ℚ ≡ 0ℚ
  no_c i p a b = when-none _ 1ℚ (λ t. omega (arith, eqb-true i (a + b + 2) t))

  -- what B^0 makes of a place where d + 1 stands
  unfoldable of_place : ℕ → ℚ
  of_place d = whole (2 * d + 3) *ℚ scaled f g (raise (lower e (suc d)) d)

  zero_more : scaled f g (exponents (suc M) (0 ∷ ds)) ≡ sum_over ds (at_pred of_place)
  unfolding wk of_place at_pred
  zero_more = index_more (wk M) X f (wk_symmetric M) (wk_graded M) so g ds (below_from_up_to M ds up) some most 0 (omega arith) (no_c 0 (omega arith)) (at_pred of_place) row
    where
      at : ℕ → ℕ → ℚ
      at a b = scaled f g (raise (lower e a) b)

      entry : ℕ → ℕ → ℚ
      entry a b = when (eqb (0 + a) (b + 1)) (whole (2 * a + 1))

      odd : (d : ℕ) → 2 * suc d + 1 ≡ 2 * d + 3
      odd d = omega arith

      row : (a : ℕ) → a < suc M → 0 < exponent e a → sum_over (below (suc M)) (λ b. entry a b *ℚ at a b) ≡ at_pred of_place a
      row zero p q = row-none (suc M) (entry 0) (at 0) (λ b. when-none _ (whole 1) (λ t. omega (arith, eqb-true 0 (b + 1) t)))
      row (suc d) p q =
          row-one (suc M) d (whole (2 * suc d + 1)) (entry (suc d)) (at (suc d)) (omega arith) (λ b. ap (λ t. when t (whole (2 * suc d + 1))) (same_test (0 + suc d) (b + 1) b d (λ h. omega arith) (λ h. omega arith)))
          ∙ ap (λ n. whole n *ℚ at (suc d) d) (odd d)

  pub string : correlator M f g (0 ∷ ds) ≡ sum_over (lowered ds) (correlator M f g)
  unfolding correlator intersection_number amplitude key_of scaled odd_factorials odd_factorial at_pred of_place
  string =
      ap₂ (λ s n. s *ℚ (pos 1 /ℚ n)) zero_more (one_times (odd_factorials ds)) ∙ *ℚ_comm _ r ∙ sum-scale r (at_pred of_place) ds ∙ sum-cong _ _ ds pred
      ∙ sym (sum-lowered (correlator M f g) (λ d. r *ℚ of_place d) ds number)
    where
      r : ℚ
      r = pos 1 /ℚ odd_factorials ds

      one_times : (n : ℕ) → 1 * n ≡ n
      one_times n = omega arith

      pred : (a : ℕ) → r *ℚ at_pred of_place a ≡ at_pred (λ d. r *ℚ of_place d) a
      pred zero = *ℚ-0ℚ r
      pred (suc d) = refl

      number : (d : ℕ) (es : List ℕ) → IsLowered ds d es → correlator M f g es ≡ r *ℚ of_place d
      number d es l =
          ap₂ (λ y q. scaled f g y *ℚ q) place (quotient-times (2 * d + 3) 1 (odd_factorials es) (omega arith) (odd_factorials_pos es) ∙ ap (λ n. whole (2 * d + 3) *ℚ (pos 1 /ℚ n)) odds) ∙ regroup _ _ r
        where
          place : exponents (suc M) es ≡ raise (lower (exponents (suc M) ds) (suc d)) d
          place = l.is.counts (suc M) ∙ ap (λ y. raise y d) (sym (ap (λ y. lower y (suc d)) (l.was.counts (suc M)) ∙ lower-raise _ (suc d)))

          odds : (2 * d + 3) * odd_factorials es ≡ odd_factorials ds
          odds = ap (λ n. (2 * d + 3) * n) l.is.odds ∙ past (odd_factorial d) (2 * d + 3) (odd_factorials l.others) ∙ sym l.was.odds
            where
              past : (a b c : ℕ) → b * (a * c) ≡ (a * b) * c
              past a b c = omega arith

          regroup : (s w r : ℚ) → s *ℚ (w *ℚ r) ≡ r *ℚ (w *ℚ s)
          regroup s w r = simp products_q

  pub dilaton : 1 ≤ M → correlator M f g (1 ∷ ds) ≡ whole (euler g (length ds)) *ℚ correlator M f g ds
  unfolding wk wk_shape correlator Keeps law_at law_number per_g per_n odd_factorial euler
  dilaton h =
      number_keeps (wk M) X f (wk_symmetric M) (wk_graded M) so g ds (below_from_up_to M ds up) some most 1 (omega arith) (no_c 1 (omega arith))
      (λ a b. ap (λ t. when t (whole (2 * a + 1))) (same_test (1 + a) (b + 1) b a (λ e. omega arith) (λ e. omega arith))) (euler g (length ds)) (covered (total ds) g (length ds) some)
    where
      covered : (t g n : ℕ) → 0 < 2 * g + n - 2 → pos t ≡ pos 3 *ℤ (pos g -ℤ pos 1) +ℤ pos 1 *ℤ pos n → 2 * t + n ≡ (1 * (2 * 0 + 3)) * (2 * g + n - 2)
      covered t g n p e = omega (arith, ints)

-- ---- genus 0

module _ (X M : ℕ) (f : Series) (so : Solves (wk M) X f) where
  start : euler 0 3 ≤ X → correlator M f 0 (0 ∷ 0 ∷ 0 ∷ []) ≡ pos 1 /ℚ factorials (0 ∷ 0 ∷ 0 ∷ [])
  unfolding correlator intersection_number amplitude amp scaled key_of wk computes odd_factorials odd_factorial term_value
  start x = ap (λ t. t *ℚ (pos 1 /ℚ 1))
      (amplitude_law (wk M) X f (wk_symmetric M) (wk_graded M) so 0 0 (0 ∷ 0 ∷ 0 ∷ []) (omega arith, (omega arith, (omega arith, tt))) (omega arith, (omega arith, (omega arith, tt))) (omega arith) (omega arith) (omega arith) x
      ∙ 0ℚ_idr 1ℚ)

  -- the formula at the lists of sum t and length t + 3
  abbrev Genus0 : ℕ → Type 0
  Genus0 t = (ds : List ℕ) → AreUpTo M ds → total ds ≡ t → length ds ≡ t + 3 → euler 0 (length ds) ≤ X → correlator M f 0 ds ≡ pos (factorial t) /ℚ factorials ds

  next : (t : ℕ) → Genus0 t → (ds rs : List ℕ) → IsWithout 0 ds rs → AreUpTo M ds → total ds ≡ suc t → length ds ≡ suc t + 3 → euler 0 (length ds) ≤ X → correlator M f 0 ds ≡ pos (factorial (suc t)) /ℚ factorials ds
  unfolding correlator intersection_number amplitude scaled key_of odd_factorials factorials factorial at_pred total euler whole
  next t less ds rs w up s n x =
      ap₂ (λ e o. scaled f 0 e *ℚ (pos 1 /ℚ o)) (w.counts (suc M) ∙ sym (exponents-cons (suc M) 0 rs)) w.odds
      ∙ string X M f so 0 rs up_rs (omega (arith, w.lengths)) (omega (arith, w.lengths))
      ∙ sum-lowered (correlator M f 0) (λ d. whole (suc d) *ℚ c) rs each ∙ sum-cong _ _ rs pred ∙ sum-whole (λ d. d) total refl (λ d ds. refl) c rs
      ∙ ap (λ k. whole k *ℚ c) (omega (arith, w.sums)) ∙ mul_fractions (pos (suc t)) (pos (factorial t)) 1 (factorials rs) (omega arith) (factorials_pos rs)
      ∙ ap (λ k. pos (suc t * factorial t) /ℚ k) (sym w.products)
    where
      c : ℚ
      c = pos (factorial t) /ℚ factorials rs

      up_rs : AreUpTo M rs
      up_rs = ((w.bounds M).0 up).1

      pred : (d : ℕ) → at_pred (λ d. whole (suc d) *ℚ c) d ≡ whole d *ℚ c
      pred zero = sym (0ℚ-*ℚ c) ∙ ap (λ y. y *ℚ c) (sym whole-zero)
      pred (suc d) = refl

      each : (d : ℕ) (es : List ℕ) → IsLowered rs d es → correlator M f 0 es ≡ whole (suc d) *ℚ c
      each d es l =
          less es ((l.is.bounds M).1 (omega (arith, upper.0), upper.1)) (omega (arith, l.is.sums, l.was.sums, w.sums)) len (subst (λ k. euler 0 k ≤ X) (sym len) (omega arith))
          ∙ quotient-times (suc d) (factorial t) (factorials es) (omega arith) (factorials_pos es) ∙ ap (λ k. whole (suc d) *ℚ (pos (factorial t) /ℚ k)) products
        where
          upper : (suc d ≤ M) × AreUpTo M l.others
          upper = (l.was.bounds M).0 up_rs

          len : length es ≡ t + 3
          len = omega (arith, l.is.lengths, l.was.lengths, w.lengths)

          products : suc d * factorials es ≡ factorials rs
          products = ap (λ k. suc d * k) l.is.products ∙ sym (native.Mathlib.Nat.mul_assoc (suc d) (factorial d) (factorials l.others)) ∙ sym l.was.products

  in_genus_0 : (t : ℕ) → Genus0 t
  unfolding factorial
  in_genus_0 zero ds up s n x = ap (correlator M f 0) zeros ∙ start (subst (λ k. euler 0 k ≤ X) n x) ∙ ap (λ y. pos 1 /ℚ factorials y) (sym zeros)
    where
      zeros : ds ≡ 0 ∷ 0 ∷ 0 ∷ []
      zeros = all_zeros ds s ∙ ap (λ k. replicate k 0) n
  in_genus_0 (suc t) ds up s n x = let w = has_zero ds (omega arith) in next t (in_genus_0 t) ds w.0 w.1 up s n x

pub witten : WittenLaw
witten X M f so = record {
  string = λ g ds up some most. string X M f so g ds up some most;
  dilaton = λ h g ds up some most. dilaton X M f so g ds up some most h;
  multinomial = λ ds up e most. in_genus_0 X M f so (total ds) ds up refl (sym e) most;
}
