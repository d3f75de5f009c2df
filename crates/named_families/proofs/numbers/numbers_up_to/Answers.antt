use Rattle.std.proofs.Common.{◌≡◌, ◌+◌, ◌-◌, ◌*◌, negsuc, sym, ap, ◌∙◌, arith, rules}
use Rattle.std.specs.Prelude.{Some, None, set}
use Rattle.airy_math.specs.Obtained.{obtained_product}
use Rattle.airy_math.specs.Rational.{◌/ℚ◌}
use Rattle.airy_math.specs.RationalLaws.{1ℚ}
use Rattle.airy_math.specs.Curves.{numbers_down}
use Rattle.airy_math.specs.Families.{sine, wp_number}
use Rattle.airy_curve.specs.Numbers.{downwards, held, Holds}
use Rattle.airy_curve.specs.Steps.{next_number}
use Rattle.airy_curve.proofs.StepLemmas.{before-held, fine_next, first_is, first_none, holds-next, holds-start, next-agree, number-exact, number_first}
use Rattle.named_families.specs.Steps.{number_refusal}
use Rattle.airy_math.proofs.NumberLaw.{sine_zero}
use Rattle.named_families.proofs.NumberLaw.{u-exact, u-read, number_fine, u_refused, c_refused}
use Rattle.named_families.proofs.numbers.numbers_up_to.Goals as goal

pub loop-k-init : goal.loop-k-init
unfolding 1ℚ
loop-k-init c = (
  holds-start sine c.whole-u.result (c.whole-u.ensures ∙ sym sine_zero),
  holds-start wp_number c.whole-c.result (c.whole-c.ensures ∙ sym (number_first sine)),
  λ m p q. absurd (omega arith),
)

pub returns-in_default-clause-over : goal.returns-in_default-clause-over
returns-in_default-clause-over c =
    let none : obtained_product c.index-u-k.result c.ratio.result ≡ None = search rules in
    let u : obtained_product (sine (c.loop-k.k - 1)) (negsuc 1 /ℚ (c.loop-k.k * (2 * c.loop-k.k + 1))) ≡ None = u-read c.loop-k.k c.loop-k.u c.index-u-k.result c.ratio.result (omega arith) (omega arith) c.loop-k.invariant.0 c.index-u-k.is c.ratio.ensures ∙ none in
    first_is number_refusal 1 c.args.most c.loop-k.k c.loop-k.k (omega arith) (omega arith) c.loop-k.invariant.2 (u_refused c.loop-k.k u)

pub returns-in_default-next_number-clause-over : goal.returns-in_default-next_number-clause-over
returns-in_default-next_number-clause-over c =
    let k = c.loop-k.k in
    let some : obtained_product c.index-u-k.result c.ratio.result ≡ Some c.in-Some.factor = search rules in
    let u : obtained_product (sine (k - 1)) (negsuc 1 /ℚ (k * (2 * k + 1))) ≡ Some c.in-Some.factor = u-read k c.loop-k.u c.index-u-k.result c.ratio.result (omega arith) (omega arith) c.loop-k.invariant.0 c.index-u-k.is c.ratio.ensures ∙ some in
    let us : Holds sine (k + 1) (set c.loop-k.u k c.in-Some.factor) = holds-next sine k c.loop-k.u c.in-Some.factor (omega arith) c.loop-k.invariant.0 (u-exact k c.in-Some.factor (omega arith) u) in
    let none : next_number (held (set c.loop-k.u k c.in-Some.factor)) (downwards (held c.loop-k.c) k) ≡ None = search rules in
    let n : next_number sine (numbers_down sine (k - 1)) ≡ None =
    ap (next_number sine) (sym (before-held sine k c.loop-k.c (omega arith) c.loop-k.invariant.1))
    ∙ sym (next-agree (held (set c.loop-k.u k c.in-Some.factor)) sine (held c.loop-k.c) k (λ m p. us.at m (omega arith))) ∙ none in
    first_is number_refusal 1 c.args.most k k (omega arith) (omega arith) c.loop-k.invariant.2 (c_refused k c.in-Some.factor u n)

pub loop-k-preserved : goal.loop-k-preserved
loop-k-preserved c =
    let k = c.loop-k.k in
    let some : obtained_product c.index-u-k.result c.ratio.result ≡ Some c.in-Some.factor = search rules in
    let u : obtained_product (sine (k - 1)) (negsuc 1 /ℚ (k * (2 * k + 1))) ≡ Some c.in-Some.factor = u-read k c.loop-k.u c.index-u-k.result c.ratio.result (omega arith) (omega arith) c.loop-k.invariant.0 c.index-u-k.is c.ratio.ensures ∙ some in
    let us : Holds sine (k + 1) (set c.loop-k.u k c.in-Some.factor) = holds-next sine k c.loop-k.u c.in-Some.factor (omega arith) c.loop-k.invariant.0 (u-exact k c.in-Some.factor (omega arith) u) in
    let number : next_number (held (set c.loop-k.u k c.in-Some.factor)) (downwards (held c.loop-k.c) k) ≡ Some c.in-Some-next_number.number = search rules in
    let n : next_number sine (numbers_down sine (k - 1)) ≡ Some c.in-Some-next_number.number =
    ap (next_number sine) (sym (before-held sine k c.loop-k.c (omega arith) c.loop-k.invariant.1))
    ∙ sym (next-agree (held (set c.loop-k.u k c.in-Some.factor)) sine (held c.loop-k.c) k (λ m p. us.at m (omega arith))) ∙ number in (
      us,
      holds-next wp_number k c.loop-k.c c.in-Some-next_number.number (omega arith) c.loop-k.invariant.1 (number-exact sine k c.in-Some-next_number.number (omega arith) n),
      fine_next number_refusal 1 k c.loop-k.invariant.2 (number_fine k c.in-Some.factor c.in-Some-next_number.number u n),
    )

pub returns-clause-obtained : goal.returns-clause-obtained
returns-clause-obtained c = first_none number_refusal 1 c.args.most (λ m p q. c.loop-k.invariant.2 m p (omega arith))
