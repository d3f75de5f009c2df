use Rattle.std.proofs.Common.{◌≡◌, ◌-◌, sym, ap, ◌∙◌, arith, rules}
use Rattle.std.specs.Prelude.{Some, None}
use Rattle.airy_math.specs.RationalLaws.{1ℚ}
use Rattle.airy_math.specs.Curves.{number_of, numbers_down}
use Rattle.airy_curve.specs.Numbers.{held}
use Rattle.airy_curve.specs.Steps.{next_number, number_refusal}
use Rattle.airy_curve.proofs.StepLemmas.{before-held, first_is, first_none, fine_next, holds-next, holds-start, number-exact, number_first, number_fine, number_refused}
use Rattle.airy_curve.proofs.numbers.numbers_up_to.Goals as goal

pub loop-k-init : goal.loop-k-init
unfolding 1ℚ
loop-k-init c = (holds-start (number_of (held c.args.u.now)) c.whole-c.result (c.whole-c.ensures ∙ sym (number_first (held c.args.u.now))), λ m p q. absurd (omega arith))

pub returns-in_default-clause-over : goal.returns-in_default-clause-over
returns-in_default-clause-over c =
    let u = held c.args.u.now in
    let n : next_number u (numbers_down u (c.loop-k.k - 1)) ≡ None = ap (next_number u) (sym (before-held u c.loop-k.k c.loop-k.c (omega arith) c.loop-k.invariant.0)) ∙ search rules in
    first_is (number_refusal u) 1 c.args.most c.loop-k.k c.loop-k.k (omega arith) (omega arith) c.loop-k.invariant.1 (number_refused u c.loop-k.k n)

pub loop-k-preserved : goal.loop-k-preserved
loop-k-preserved c =
    let u = held c.args.u.now in
    let n : next_number u (numbers_down u (c.loop-k.k - 1)) ≡ Some c.in-Some.number = ap (next_number u) (sym (before-held u c.loop-k.k c.loop-k.c (omega arith) c.loop-k.invariant.0)) ∙ search rules in (
      holds-next (number_of u) c.loop-k.k c.loop-k.c c.in-Some.number (omega arith) c.loop-k.invariant.0 (number-exact u c.loop-k.k c.in-Some.number (omega arith) n),
      fine_next (number_refusal u) 1 c.loop-k.k c.loop-k.invariant.1 (number_fine u c.loop-k.k c.in-Some.number n),
    )

pub returns-clause-obtained : goal.returns-clause-obtained
returns-clause-obtained c = first_none (number_refusal (held c.args.u.now)) 1 c.args.most (λ m p q. c.loop-k.invariant.1 m p (omega arith))
