-- Tensors with the same entries. Sequences that agree up to the greatest exponent have the same tensors, and the same is named of them.
use Rattle.std.proofs.Common.{◌≡◌, ℕ, ◌+◌, ◌-◌, ◌*◌, ◌<◌, ◌≤◌, Bool, true, false, ◌&&◌, leb, eqb, refl, ap, ap₂, arith, pos}
use Rattle.std.specs.Prelude.{Option}
use Rattle.std.proofs.lemmas.Bool.{leb-true}
use Rattle.airy_math.specs.Rational.{ℚ, ◌*ℚ◌, ◌+ℚ◌, ◌/ℚ◌, whole}
use Rattle.airy_math.specs.RationalLaws.{1ℚ}
use Rattle.airy_math.specs.Obtained.{obtained_product}
use Rattle.airy_math.specs.Sums.{when}
use Rattle.airy_math.specs.Curves.{curve, curve_shape, entry}
use Rattle.airy_curve.specs.Steps.{entry_refusal, first_answer, or_else, place_refusal, tensors_refusal, unless_obtained, where_so}

module _ (c d : ℕ → ℚ) (most : ℕ) (agree : (e : ℕ) → e ≤ most → c e ≡ d e) where
  entry_agree : (m n : ℕ) → entry c most m n ≡ entry d most m n
  unfolding entry when
  entry_agree m n = by (leb n m) (leb (m - n) most) refl
    where
      by : (t t' : Bool) → leb (m - n) most ≡ t' → when (t && t') (c (m - n)) ≡ when (t && t') (d (m - n))
      by false t' e = refl
      by true false e = refl
      by true true e = agree (m - n) (leb-true (m - n) most e)

  pub same_curve : (dim : ℕ) → 0 < most → curve c dim most ≡ curve d dim most
  unfolding curve
  same_curve dim h = λ x. record {
    dim = dim;
    shape = curve_shape;
    A = λ i j k. when (eqb i 0 && eqb j 0 && eqb k 0) 1ℚ;
    B = λ i j k. whole (2 * j + 1) *ℚ entry_agree (k + 1) (i + j) x;
    C = λ i j k. entry_agree (j + k + 2) i x;
    D = λ i. when (eqb i 0) (agree 1 (omega arith) x *ℚ (pos 1 /ℚ 8)) +ℚ when (eqb i 1) (pos 1 /ℚ 8);
  }

  place_agree : (i j k : ℕ) → place_refusal c most i j k ≡ place_refusal d most i j k
  unfolding place_refusal where_so
  place_agree i j k = by (leb (i + j) (k + 1)) (leb e most) refl
    where
      e : ℕ
      e = k + 1 - (i + j)

      by : (t t' : Bool) → leb e most ≡ t' → where_so (t && t') (unless_obtained e (obtained_product (whole (2 * j + 1)) (c e))) ≡ where_so (t && t') (unless_obtained e (obtained_product (whole (2 * j + 1)) (d e)))
      by false t' h = refl
      by true false h = refl
      by true true h = ap (λ v. unless_obtained e (obtained_product (whole (2 * j + 1)) v)) (agree e (leb-true e most h))

  pub same_entries : (dim : ℕ) → entry_refusal c dim most ≡ entry_refusal d dim most
  same_entries dim = ap (λ (f : ℕ → ℕ → ℕ → Option ℕ). first_answer 0 dim (λ i. first_answer 0 dim (λ j. first_answer 0 dim (f i j)))) places
    where
      places : place_refusal c most ≡ place_refusal d most
      places = λ x i j k. place_agree i j k x

  pub same_tensors : (dim : ℕ) → 0 < most → tensors_refusal c dim most ≡ tensors_refusal d dim most
  unfolding tensors_refusal
  same_tensors dim h = ap₂ (λ o v. or_else o (unless_obtained 1 (obtained_product v (pos 1 /ℚ 8)))) (same_entries dim) (agree 1 (omega arith))
