-- The numbers of Weil and Petersson step by step.
use Rattle.std.proofs.Common.{◌≡◌, ℕ, zero, suc, ◌+◌, ◌-◌, ◌*◌, ◌<◌, ◌≤◌, pos, negsuc, List, get_or, refl, sym, ap, ap₂, ◌∙◌, arith}
use lib.IntN.{◌*ℤ◌}
use Rattle.std.specs.Prelude.{Option, Some, None}
use Rattle.std.proofs.lemmas.Int.{ints}
use Rattle.airy_math.specs.Obtained.{obtained_product}
use Rattle.airy_math.specs.Rational.{ℚ, ◌*ℚ◌, ◌/ℚ◌, same_fraction}
use Rattle.airy_math.specs.RationalLaws.{mul_fractions, products_q}
use Rattle.airy_math.specs.Sums.{factorial}
use Rattle.airy_math.proofs.ObtainedLaw.{product_exact}
use Rattle.airy_math.specs.Curves.{numbers_down}
use Rattle.airy_math.specs.Families.{sine, wp_number}
use Rattle.airy_math.specs.Cuts.{power}
use Rattle.airy_math.specs.CutExamples.{curve_computes}
use Rattle.airy_curve.specs.StepExamples.{steps_compute}
use Rattle.airy_curve.specs.Numbers.{Holds}
use Rattle.airy_curve.specs.Steps.{entry_refusal, first_answer, next_number, or_else, tensors_refusal, unless_obtained}
use Rattle.airy_curve.specs.Storing as curves
use Rattle.airy_curve.specs.declared.making.CurveErr.{CurveErr}
use Rattle.airy_curve.specs.declared.making.CurveErr.TheVariants.{Over, NoMemory}
use Rattle.airy_curve.proofs.StepLemmas.{held-read}
use Rattle.named_families.specs.Families.{Names, made_of}
use Rattle.named_families.specs.Steps.{number_refusal, wp_refusal}
use Rattle.airy_math.proofs.ConstraintLemmas.{factorial_pos}

-- ---- u_k

-- (2k+3)! from (2k+1)!
factorial_two : (k : ℕ) → factorial (2 * suc k + 1) ≡ (2 * k + 3) * ((2 * k + 2) * factorial (2 * k + 1))
unfolding factorial
factorial_two k = ap factorial (more k) ∙ ap₂ (λ m n. m * (n * factorial (2 * k + 1))) (three k) (two k)
  where
    more : (k : ℕ) → 2 * suc k + 1 ≡ suc (suc (2 * k + 1))
    more k = omega arith

    three : (k : ℕ) → suc (suc (2 * k + 1)) ≡ 2 * k + 3
    three k = omega arith

    two : (k : ℕ) → suc (2 * k + 1) ≡ 2 * k + 2
    two k = omega arith

signs : (f r n : ℕ) → n ≡ 2 * (f * r) → (negsuc 3 *ℤ pos 1) *ℤ pos (f * r) ≡ (pos 1 *ℤ negsuc 1) *ℤ pos (1 * n)
signs f r n h = omega (arith, ints)

regroup : (m p x : ℚ) → (m *ℚ p) *ℚ x ≡ p *ℚ (m *ℚ x)
regroup m p x = simp products_q

regroup-back : (p y r : ℚ) → p *ℚ (y *ℚ r) ≡ (p *ℚ y) *ℚ r
regroup-back p y r = simp products_q

pub u-next : (k : ℕ) → sine (suc k) ≡ sine k *ℚ (negsuc 1 /ℚ (suc k * (2 * suc k + 1)))
unfolding sine power
u-next k =
    let f = factorial (2 * k + 1) in
    let r = suc k * (2 * suc k + 1) in
    let n = factorial (2 * suc k + 1) in
    let some_f : 0 < f = factorial_pos (2 * k + 1) in
    let some_n : 0 < n = factorial_pos (2 * suc k + 1) in
    let some_r : 0 < r = omega arith in
    let some_fr : 0 < f * r = omega arith in
    let twice : n ≡ 2 * (f * r) = factorial_two k ∙ omega arith in
    regroup (negsuc 3 /ℚ 1) (power (negsuc 3 /ℚ 1) k) (pos 1 /ℚ n)
    ∙ ap (λ t. power (negsuc 3 /ℚ 1) k *ℚ t)
    (mul_fractions (negsuc 3) (pos 1) 1 n (omega arith) some_n
    ∙ same_fraction (negsuc 3 *ℤ pos 1) (pos 1 *ℤ negsuc 1) (1 * n) (f * r) (omega arith) some_fr (signs f r n twice)
    ∙ sym (mul_fractions (pos 1) (negsuc 1) f r some_f some_r))
    ∙ regroup-back (power (negsuc 3 /ℚ 1) k) (pos 1 /ℚ f) (negsuc 1 /ℚ r)

-- u_k, where it is obtained of the one before it
pub u-exact : (k : ℕ) (w : ℚ) → 0 < k → obtained_product (sine (k - 1)) (negsuc 1 /ℚ (k * (2 * k + 1))) ≡ Some w → w ≡ sine k
u-exact zero w h e = absurd (omega arith)
u-exact (suc k) w h e =
    product_exact (sine (suc k - 1)) (negsuc 1 /ℚ (suc k * (2 * suc k + 1))) w e
    ∙ ap (λ n. sine n *ℚ (negsuc 1 /ℚ (suc k * (2 * suc k + 1)))) less
    ∙ sym (u-next k)
  where
    less : suc k - 1 ≡ k
    less = omega arith

-- the product for u_k, as the array has its factor
pub u-read : (k : ℕ) (us : List ℚ) (x r : ℚ) → 0 < k → k ≤ 73 → Holds sine k us → x ≡ get_or us (k - 1) x → r ≡ negsuc 1 /ℚ (k * (2 * k + 1)) → obtained_product (sine (k - 1)) (negsuc 1 /ℚ (k * (2 * k + 1))) ≡ obtained_product x r
u-read k us x r h most holds is ratio = ap₂ obtained_product (sym (holds.at (k - 1) (omega arith)) ∙ held-read us (k - 1) x (omega (arith, holds.places)) is) (sym ratio)

-- ---- what is named

pub number_fine : (k : ℕ) (x y : ℚ) → obtained_product (sine (k - 1)) (negsuc 1 /ℚ (k * (2 * k + 1))) ≡ Some x → next_number sine (numbers_down sine (k - 1)) ≡ Some y → number_refusal k ≡ None
unfolding number_refusal unless_obtained or_else
number_fine k x y u c = rw (u, c) refl

pub u_refused : (k : ℕ) → obtained_product (sine (k - 1)) (negsuc 1 /ℚ (k * (2 * k + 1))) ≡ None → number_refusal k ≡ Some k
unfolding number_refusal unless_obtained or_else
u_refused k u = rw u refl

pub c_refused : (k : ℕ) (x : ℚ) → obtained_product (sine (k - 1)) (negsuc 1 /ℚ (k * (2 * k + 1))) ≡ Some x → next_number sine (numbers_down sine (k - 1)) ≡ None → number_refusal k ≡ Some k
unfolding number_refusal unless_obtained or_else
c_refused k x u c = rw (u, c) refl

-- 2/3 times 1/8 is obtained
corner_obtained : unless_obtained 1 (obtained_product (wp_number 1) (pos 1 /ℚ 8)) ≡ None
unfolding curve_computes steps_compute
corner_obtained = refl

-- where all numbers are obtained, only the entries can be refused
pub refusal_of_entries : (dim most : ℕ) → first_answer 1 most number_refusal ≡ None → tensors_refusal wp_number dim most ≡ wp_refusal dim most
unfolding tensors_refusal wp_refusal or_else
refusal_of_entries dim most none = ap (or_else entries) corner_obtained ∙ none_last entries ∙ ap (λ o. or_else o entries) (sym none)
  where
    entries : Option ℕ
    entries = entry_refusal wp_number dim most

    none_last : (o : Option ℕ) → or_else o None ≡ o
    none_last (Some k) = refl
    none_last None = refl

-- the refusal of a curve's tensors names what that of wp's does
pub names_made : (err : CurveErr) (o : Option ℕ) → curves.Names err o → Names (made_of err) o
unfolding Names curves.Names made_of
names_made (Over k) o h = h
names_made NoMemory o h = tt
