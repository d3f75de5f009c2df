-- The places of a list: sums over them, by index and by the lists with one number less by 1.
use Prim.Native.Nat.{ℕ, zero, suc, ◌+◌, ◌*◌, ◌<◌, ◌≤◌}
use mathlib.Core.Path.{◌≡◌, refl, sym, ap, ap₂, subst, ◌∙◌}
use mathlib.Core.Bool.{Bool, true, false}
use mathlib.Core.List.{List, [], ◌∷◌, map}
use mathlib.Core.Logic.{◌↔◌}
use native.Mathlib.Omega.{arith}
use lib.Dec.{eqb}
use lib.IntN.{pos, ◌*ℤ◌}
use lib.ListN.{length}
use Rattle.std.proofs.lemmas.Bool.{eqb-true}
use Rattle.airy_math.specs.Rational.{ℚ, ◌+ℚ◌, ◌*ℚ◌, ◌/ℚ◌, whole, same_fraction}
use Rattle.airy_math.specs.RationalLaws.{0ℚ, 0ℚ_idl, 1ℚ_idl, 0ℚ-*ℚ, *ℚ_distrib_r, mul_fractions, one_pos, positive_times}
use Rattle.airy_math.specs.Sums.{sum_over, when, below, factorial}
use Rattle.airy_math.specs.Keys.{times, more, total, exponents}
use Rattle.airy_math.specs.Series.{raise}
use Rattle.airy_math.specs.Solutions.{factorials}
use Rattle.airy_math.proofs.SumLemmas.{sum-cong, sum-map, sum-zero, sum-add, whole-add}
use Rattle.airy_math.proofs.KeyLemmas.{AllBelow}
use Rattle.airy_math.proofs.MoveLemmas.{exponents-cons, exponents-none}
use Rattle.airy_math.proofs.ConstraintLemmas.{raise_comm, whole-zero}
use Rattle.airy_math.proofs.PivotLaw.{total-raise, total-zeros}
use Rattle.airy_math.proofs.StartLaw.{sum-one, whole-one}
use Rattle.airy_math.proofs.GradedLaw.{index_sum, index_sum-raise, index_sum-zeros}
use Rattle.airy_math.proofs.SolutionLaw.{length-exponents}
use Rattle.intersection_law.specs.Numbers.{odd_factorial, odd_factorials}
use Rattle.intersection_law.specs.Equations.{AreUpTo, lowered}

-- ---- whole numbers and quotients

-- n/d is a times n/(a d)
pub quotient-times : (a n d : ℕ) → 0 < a → 0 < d → pos n /ℚ d ≡ whole a *ℚ (pos n /ℚ (a * d))
unfolding whole
quotient-times a n d p q =
    let some = positive_times a d p q in
    same_fraction (pos n) (pos a *ℤ pos n) d (1 * (a * d)) q (positive_times 1 (a * d) one_pos some) (regroup a n d) ∙ sym (mul_fractions (pos a) (pos n) 1 (a * d) one_pos some)
  where
    regroup : (a n d : ℕ) → pos n *ℤ pos (1 * (a * d)) ≡ (pos a *ℤ pos n) *ℤ pos d
    regroup a n d = ap pos (omega arith)

-- ---- the exponents of a list, and their sums

pub below_from_up_to : (M : ℕ) (ds : List ℕ) → AreUpTo M ds → AllBelow (suc M) ds
unfolding AreUpTo
below_from_up_to M [] h = tt
below_from_up_to M (d ∷ ds) h = (omega arith, below_from_up_to M ds h.1)

pub total-exponents : (m : ℕ) (ds : List ℕ) → AllBelow m ds → total (exponents m ds) ≡ length ds
total-exponents m [] b = ap total (exponents-none m) ∙ total-zeros m
total-exponents m (d ∷ ds) b =
    ap total (exponents-cons m d ds) ∙ total-raise (exponents m ds) d (subst (λ n. d < n) (sym (length-exponents m ds)) b.0) ∙ ap suc (total-exponents m ds b.1)

pub index_sum-exponents : (m : ℕ) (ds : List ℕ) → AllBelow m ds → index_sum 0 (exponents m ds) ≡ total ds
unfolding total
index_sum-exponents m [] b = ap (index_sum 0) (exponents-none m) ∙ index_sum-zeros 0 m
index_sum-exponents m (d ∷ ds) b =
    ap (index_sum 0) (exponents-cons m d ds) ∙ index_sum-raise 0 (exponents m ds) d (subst (λ n. d < n) (sym (length-exponents m ds)) b.0) ∙ omega (arith, index_sum-exponents m ds b.1)

-- ---- a sum over the places, by index

one_more : (t : Bool) (n : ℕ) (x : ℚ) → whole (more t n) *ℚ x ≡ when t x +ℚ whole n *ℚ x
unfolding when
one_more true n x = ap (λ t. t *ℚ x) (ap whole (one_plus n) ∙ whole-add 1 n) ∙ *ℚ_distrib_r x (whole 1) (whole n) ∙ ap (λ t. t +ℚ whole n *ℚ x) (ap (λ t. t *ℚ x) whole-one ∙ 1ℚ_idl x)
  where
    one_plus : (n : ℕ) → suc n ≡ 1 + n
    one_plus n = omega arith
one_more false n x = sym (0ℚ_idl _)

pub when-at : (h : ℕ → ℚ) (a b : ℕ) → when (eqb a b) (h a) ≡ when (eqb a b) (h b)
unfolding when
when-at h a b = by (eqb a b) refl
  where
    by : (t : Bool) → eqb a b ≡ t → when t (h a) ≡ when t (h b)
    by true e = ap h (eqb-true a b e)
    by false e = refl

-- the sum over the places is the sum over the indices, each as often as it stands in the list
pub sum-by_index : (h : ℕ → ℚ) (m : ℕ) (ds : List ℕ) → AllBelow m ds → sum_over ds h ≡ sum_over (below m) (λ a. whole (times a ds) *ℚ h a)
unfolding sum_over times
sum-by_index h m [] b = sym (sum-cong _ (λ a. 0ℚ) (below m) (λ a. ap (λ t. t *ℚ h a) whole-zero ∙ 0ℚ-*ℚ (h a)) ∙ sum-zero (below m))
sum-by_index h m (d ∷ ds) b =
    ap₂ ◌+ℚ◌ (sym (sum-one d m (h d) b.0)) (sum-by_index h m ds b.1)
    ∙ sym (sum-add (λ a. when (eqb a d) (h d)) (λ a. whole (times a ds) *ℚ h a) (below m))
    ∙ sum-cong _ _ (below m) (λ a. sym (one_more (eqb a d) (times a ds) (h a) ∙ ap (λ t. t +ℚ whole (times a ds) *ℚ h a) (when-at h a d)))

-- whole multiples of one number: n is the sum of the w
pub sum-whole : (w : ℕ → ℕ) (n : List ℕ → ℕ) → n [] ≡ 0 → ((d : ℕ) (ds : List ℕ) → n (d ∷ ds) ≡ w d + n ds) → (x : ℚ) (ds : List ℕ) → sum_over ds (λ d. whole (w d) *ℚ x) ≡ whole (n ds) *ℚ x
unfolding sum_over
sum-whole w n none more x [] = sym (ap (λ t. whole t *ℚ x) none ∙ ap (λ t. t *ℚ x) whole-zero ∙ 0ℚ-*ℚ x)
sum-whole w n none more x (d ∷ ds) = ap (λ t. whole (w d) *ℚ x +ℚ t) (sum-whole w n none more x ds) ∙ sym (*ℚ_distrib_r x (whole (w d)) (whole (n ds))) ∙ ap (λ t. t *ℚ x) (sym (ap whole (more d ds) ∙ whole-add (w d) (n ds)))

-- ---- a list without one of its numbers

pub odd_factorial_pos : (d : ℕ) → 0 < odd_factorial d
unfolding odd_factorial
odd_factorial_pos zero = one_pos
odd_factorial_pos (suc d) = positive_times (odd_factorial d) (2 * d + 3) (odd_factorial_pos d) (omega arith)

pub odd_factorials_pos : (ds : List ℕ) → 0 < odd_factorials ds
unfolding odd_factorials
odd_factorials_pos [] = one_pos
odd_factorials_pos (d ∷ ds) = positive_times (odd_factorial d) (odd_factorials ds) (odd_factorial_pos d) (odd_factorials_pos ds)

-- what holds where rs is ds without one x, wherever that stands
pub record IsWithout (x : ℕ) (ds rs : List ℕ) : Type 0 where
  pub counts : (m : ℕ) → exponents m ds ≡ raise (exponents m rs) x
  pub odds : odd_factorials ds ≡ odd_factorial x * odd_factorials rs
  pub products : factorials ds ≡ factorial x * factorials rs
  pub sums : total ds ≡ x + total rs
  pub lengths : length ds ≡ suc (length rs)
  pub bounds : (M : ℕ) → AreUpTo M ds ↔ ((x ≤ M) × AreUpTo M rs)

pub without_first : (x : ℕ) (ds : List ℕ) → IsWithout x (x ∷ ds) ds
unfolding odd_factorials factorials total AreUpTo
without_first x ds = record { counts = λ m. exponents-cons m x ds; odds = refl; products = refl; sums = refl; lengths = refl; bounds = λ M. (λ h. h, λ h. h) }

pub without_later : (x y : ℕ) (ds rs : List ℕ) → IsWithout x ds rs → IsWithout x (y ∷ ds) (y ∷ rs)
unfolding odd_factorials factorials total AreUpTo
without_later x y ds rs w = record {
  counts = λ m. exponents-cons m y ds ∙ ap (λ t. raise t y) (w.counts m) ∙ raise_comm (exponents m rs) x y ∙ ap (λ t. raise t x) (sym (exponents-cons m y rs));
  odds = past (odd_factorial y) (odd_factorials ds) (odd_factorial x) (odd_factorials rs) w.odds;
  products = past (factorial y) (factorials ds) (factorial x) (factorials rs) w.products;
  sums = omega (arith, w.sums);
  lengths = ap suc w.lengths;
  bounds = λ M. (λ h. let r = (w.bounds M).0 h.1 in (r.0, (h.0, r.1)), λ h. (h.1.0, (w.bounds M).1 (h.0, h.1.1)));
}
  where
    past : (a b c d : ℕ) → b ≡ c * d → a * b ≡ c * (a * d)
    past a b c d e = ap (λ t. a * t) e ∙ omega arith

-- a list of which the sum is below the length has a 0
pub has_zero : (ds : List ℕ) → total ds < length ds → (rs : List ℕ) × IsWithout 0 ds rs
unfolding total
has_zero [] h = absurd (omega arith)
has_zero (zero ∷ ds) h = (ds, without_first 0 ds)
has_zero (suc d ∷ ds) h = let w = has_zero ds (omega arith) in (suc d ∷ w.0, without_later 0 (suc d) ds w.0 w.1)

-- ---- the lists with one number less by 1

-- es is ds with one d in the place of one d + 1
pub record IsLowered (ds : List ℕ) (d : ℕ) (es : List ℕ) : Type 0 where
  pub others : List ℕ
  pub was : IsWithout (suc d) ds others
  pub is : IsWithout d es others

-- k (d - 1), and 0 where d is 0
unfoldable pub at_pred : (ℕ → ℚ) → ℕ → ℚ
at_pred k zero = 0ℚ
at_pred k (suc d) = k d

-- A sum over the lists with one number less by 1 is a sum over the places.
pub sum-lowered : (K : List ℕ → ℚ) (k : ℕ → ℚ) (ds : List ℕ) → ((d : ℕ) (es : List ℕ) → IsLowered ds d es → K es ≡ k d) → sum_over (lowered ds) K ≡ sum_over ds (at_pred k)
unfolding lowered sum_over at_pred
sum-lowered K k [] h = refl
sum-lowered K k (x ∷ ds) h = by x (sum-map K (λ es. x ∷ es) (lowered ds) ∙ sum-lowered (λ es. K (x ∷ es)) k ds (λ d es l. h d (x ∷ es) (later d es l))) h
  where
    later : (d : ℕ) (es : List ℕ) → IsLowered ds d es → IsLowered (x ∷ ds) d (x ∷ es)
    later d es l = record { others = x ∷ l.others; was = without_later (suc d) x ds l.others l.was; is = without_later d x es l.others l.is }

    by : (x : ℕ) → sum_over (map (λ es. x ∷ es) (lowered ds)) K ≡ sum_over ds (at_pred k)
        → ((d : ℕ) (es : List ℕ) → IsLowered (x ∷ ds) d es → K es ≡ k d) → sum_over (lowered (x ∷ ds)) K ≡ at_pred k x +ℚ sum_over ds (at_pred k)
    by zero r h = r ∙ sym (0ℚ_idl _)
    by (suc d) r h = ap₂ ◌+ℚ◌ (h d (d ∷ ds) (record { others = ds; was = without_first (suc d) ds; is = without_first d ds })) r
