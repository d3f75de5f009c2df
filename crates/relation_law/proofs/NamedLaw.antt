-- wk, bgw, wp and every curve have the form of CurveLaw.
use Prim.Native.Nat.{ℕ, zero, suc, ◌+◌, ◌*◌, ◌-◌, ◌<◌, ◌≤◌}
use mathlib.Core.Path.{◌≡◌, refl, sym, ap, ap₂, ◌∙◌}
use mathlib.Core.Bool.{◌&&◌}
use mathlib.Core.Logic.{◌⊎◌, inl, inr}
use native.Mathlib.Omega.{arith}
use lib.Dec.{leb, eqb}
use lib.IntN.{pos}
use Rattle.std.proofs.lemmas.Bool.{cases_order, eq-eqb, ne_eqb, le-leb}
use Rattle.airy_math.specs.Curves.{reach, entry, with_numbers, curve, numbers_down, number_of, first_or_zero}
use Rattle.airy_math.specs.Families.{lettered, wp}
use Rattle.airy_math.specs.Cuts.{power}
use Rattle.relation_law.specs.Curve.{WkRelations, BgwRelations, CurveRelations, WpRelations}
use Rattle.relation_law.proofs.Sequences.{reach-at, reach-none}
use Rattle.relation_law.proofs.CurveLaw.{IsCurve, closes, eighth}
use Rattle.airy_math.specs.Rational.{ℚ, ◌+ℚ◌, ◌*ℚ◌, ◌/ℚ◌, whole}
use Rattle.airy_math.specs.RationalLaws.{0ℚ, 1ℚ, 0ℚ_idl, 1ℚ_idl, 0ℚ-*ℚ, *ℚ_comm}
use Rattle.airy_math.specs.Sums.{when}
use Rattle.airy_math.specs.Named.{wk, bgw}
use Rattle.airy_math.proofs.SumLemmas.{when-scale, 0ℚ_idr, 1ℚ_idr}
use Rattle.airy_math.proofs.PivotLemmas.{when-and}

when-yes : (n m : ℕ) (x : ℚ) → n ≡ m → when (eqb n m) x ≡ x
unfolding when
when-yes n m x h = ap (λ t. when t x) (eq-eqb n m h)

when-no : (n m : ℕ) (x : ℚ) → (n ≡ m → ⊥) → when (eqb n m) x ≡ 0ℚ
unfolding when
when-no n m x h = ap (λ t. when t x) (ne_eqb n m h)

-- ---- the sequence 1, 0, 0, ..

delta : ℕ → ℚ
delta e = when (eqb e 0) 1ℚ

reach-delta : (m n : ℕ) → reach delta m n ≡ when (eqb n m) 1ℚ
unfolding delta
reach-delta m n = at (cases_order n m)
  where
    at : (n ≡ m) ⊎ ((n < m) ⊎ (m < n)) → reach delta m n ≡ when (eqb n m) 1ℚ
    at (inl e) = reach-at delta m n 0 (omega arith) ∙ when-yes 0 0 1ℚ refl ∙ sym (when-yes n m 1ℚ e)
    at (inr (inl h)) = reach-at delta m n (m - n) (omega arith) ∙ when-no (m - n) 0 1ℚ (λ e. omega arith) ∙ sym (when-no n m 1ℚ (λ e. omega arith))
    at (inr (inr h)) = reach-none delta m n h ∙ sym (when-no n m 1ℚ (λ e. omega arith))

delta-times : (m n : ℕ) (x : ℚ) → when (eqb n m) x ≡ x *ℚ reach delta m n
delta-times m n x = ap (when (eqb n m)) (sym (1ℚ_idr x)) ∙ when-scale (eqb n m) x 1ℚ ∙ ap (λ t. x *ℚ t) (sym (reach-delta m n))

all_zero_test : (i j k : ℕ) → (eqb i 0 && eqb j 0 && eqb k 0) ≡ eqb (i + j + k + 1) 1
all_zero_test zero zero zero = refl
all_zero_test zero zero (suc k) = ap (λ t. eqb 0 0 && eqb 0 0 && t) (ne_eqb (suc k) 0 (λ e. omega arith)) ∙ sym (ne_eqb (0 + 0 + suc k + 1) 1 (λ e. omega arith))
all_zero_test zero (suc j) k = ap (λ t. eqb 0 0 && t && eqb k 0) (ne_eqb (suc j) 0 (λ e. omega arith)) ∙ sym (ne_eqb (0 + suc j + k + 1) 1 (λ e. omega arith))
all_zero_test (suc i) j k = ap (λ t. t && eqb j 0 && eqb k 0) (ne_eqb (suc i) 0 (λ e. omega arith)) ∙ sym (ne_eqb (suc i + j + k + 1) 1 (λ e. omega arith))

wk_is : (M : ℕ) → IsCurve (wk M) delta 1
unfolding wk eighth
wk_is M = record {
  A = λ i j k. ap (λ t. when t 1ℚ) (all_zero_test i j k);
  B = λ i j k. delta-times (k + 1) (i + j) (whole (2 * j + 1));
  C = λ i j k. delta-times (j + k + 2) i 1ℚ ∙ 1ℚ_idl _ ∙ ap (λ n. reach delta n i) (two j k);
  D = λ i. delta-times 1 i (pos 1 /ℚ 8) ∙ *ℚ_comm _ _;
}
  where
    two : (j k : ℕ) → j + k + 2 ≡ suc (j + k + 1)
    two j k = omega arith

bgw_is : (M : ℕ) → IsCurve (bgw M) delta 0
unfolding bgw eighth
bgw_is M = record {
  A = λ i j k. sym (when-no (i + j + k + 1) 0 1ℚ (λ e. omega arith));
  B = λ i j k. delta-times k (i + j) (whole (2 * j + 1)) ∙ ap (λ n. whole (2 * j + 1) *ℚ reach delta n (i + j)) (plus k);
  C = λ i j k. delta-times (j + k + 1) i 1ℚ ∙ 1ℚ_idl _ ∙ ap (λ n. reach delta n i) (one j k);
  D = λ i. delta-times 0 i (pos 1 /ℚ 8) ∙ *ℚ_comm _ _;
}
  where
    plus : (k : ℕ) → k ≡ k + 0
    plus k = omega arith

    one : (j k : ℕ) → j + k + 1 ≡ suc (j + k + 0)
    one j k = omega arith

delta_zero : delta 0 ≡ 1ℚ
unfolding delta
delta_zero = when-yes 0 0 1ℚ refl

pub wk_relations : WkRelations
unfolding wk
wk_relations M N h = closes (wk M) delta 1 N (wk_is M) delta_zero (omega arith) h

pub bgw_relations : BgwRelations
unfolding bgw
bgw_relations M N h = closes (bgw M) delta 0 N (bgw_is M) delta_zero (omega arith) h

-- ---- curves

-- the sequence with 0 beyond `most`
up_to : ℕ → (ℕ → ℚ) → ℕ → ℚ
up_to most c e = when (leb e most) (c e)

entry-reach : (c : ℕ → ℚ) (most m n : ℕ) → entry c most m n ≡ reach (up_to most c) m n
unfolding entry reach up_to
entry-reach c most m n = when-and (leb n m) (leb (m - n) most) (c (m - n))

up_to-in : (most e : ℕ) (c : ℕ → ℚ) → e ≤ most → up_to most c e ≡ c e
unfolding up_to when
up_to-in most e c h = ap (λ t. when t (c e)) (le-leb e most h)

d_entry : (c : ℕ → ℚ) (x : ℚ) → c 0 ≡ 1ℚ → x ≡ c 1 *ℚ eighth → (i : ℕ) → when (eqb i 0) x +ℚ when (eqb i 1) eighth ≡ reach c 1 i *ℚ eighth
d_entry c x one is_x zero = ap₂ ◌+ℚ◌ (when-yes 0 0 x refl) (when-no 0 1 eighth (λ e. omega arith)) ∙ 0ℚ_idr x ∙ is_x ∙ ap (λ t. t *ℚ eighth) (sym (reach-at c 1 0 1 (omega arith)))
d_entry c x one is_x (suc zero) = ap₂ ◌+ℚ◌ (when-no 1 0 x (λ e. omega arith)) (when-yes 1 1 eighth refl) ∙ 0ℚ_idl eighth ∙ sym (1ℚ_idl eighth) ∙ ap (λ t. t *ℚ eighth) (sym (reach-at c 1 1 0 (omega arith) ∙ one))
d_entry c x one is_x (suc (suc i)) = ap₂ ◌+ℚ◌ (when-no (suc (suc i)) 0 x (λ e. omega arith)) (when-no (suc (suc i)) 1 eighth (λ e. omega arith)) ∙ 0ℚ_idl 0ℚ ∙ sym (ap (λ t. t *ℚ eighth) (reach-none c 1 (suc (suc i)) (omega arith)) ∙ 0ℚ-*ℚ eighth)

-- the numbers e are those of the sequence c
numbers_are : (e : ℕ → ℕ → ℚ) (c : ℕ → ℚ) (x : ℚ) (dim : ℕ) → ((m n : ℕ) → e m n ≡ reach c m n) → c 0 ≡ 1ℚ → x ≡ c 1 *ℚ eighth → IsCurve (with_numbers e x dim) c 1
unfolding with_numbers eighth
numbers_are e c x dim is one is_x = record {
  A = λ i j k. ap (λ t. when t 1ℚ) (all_zero_test i j k);
  B = λ i j k. ap (λ t. whole (2 * j + 1) *ℚ t) (is (k + 1) (i + j));
  C = λ i j k. is (j + k + 2) i ∙ ap (λ n. reach c n i) (omega arith);
  D = d_entry c x one is_x;
}

pub curve_relations : CurveRelations
unfolding curve eighth
curve_relations c dim most N one h wide =
    let first : up_to most c 0 ≡ 1ℚ = up_to-in most 0 c (omega arith) ∙ one in
    closes (curve c dim most) (up_to most c) 1 N
    (numbers_are (entry c most) (up_to most c) (c 1 *ℚ (pos 1 /ℚ 8)) dim (entry-reach c most) first (ap (λ t. t *ℚ eighth) (sym (up_to-in most 1 c (omega arith))))) first (omega arith) h

pub wp_relations : WpRelations
unfolding wp number_of numbers_down first_or_zero power eighth
wp_relations v M N h =
    let first : lettered v 0 ≡ 1ℚ = 1ℚ_idl 1ℚ in
    closes (wp M v) (lettered v) 1 N (numbers_are (reach (lettered v)) (lettered v) (lettered v 1 *ℚ (pos 1 /ℚ 8)) (suc M) (λ m n. refl) first refl) first (omega arith) h
