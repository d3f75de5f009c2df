use Rattle.std.proofs.Common.{sym, ◌∙◌}
use Rattle.airy_math.proofs.SameNumbers.{eq-same}
use Rattle.constraint_check.proofs.StepLemmas.{fails_missing, agrees_alone, fails_alone}
use Rattle.constraint_check.proofs.pivots.check_pivot.Goals as goal

pub returns-in-None-clause-fails : goal.returns-in-None-clause-fails
returns-in-None-clause-fails g c = fails_missing c.args.value c.args.pivot _ (sym c.pivot_sum.ensures.sum ∙ c.in-None.is)

pub returns-in-Some-clause-fails : goal.returns-in-Some-clause-fails
returns-in-Some-clause-fails g c = agrees_alone c.args.value c.args.pivot _ c.in-Some.sum (sym c.pivot_sum.ensures.sum ∙ c.in-Some.is) (sym (eq-same c.in-Some.sum c.args.value) ∙ sym c.eq.ensures ∙ c.if-eq.true)

pub returns-in-Some-2-clause-fails : goal.returns-in-Some-2-clause-fails
returns-in-Some-2-clause-fails g c = fails_alone c.args.value c.args.pivot _ c.in-Some.sum (sym c.pivot_sum.ensures.sum ∙ c.in-Some.is) (sym (eq-same c.in-Some.sum c.args.value) ∙ sym c.eq.ensures ∙ c.if-eq.false)
