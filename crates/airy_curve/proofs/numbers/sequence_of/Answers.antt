use Rattle.std.proofs.Common.{◌+◌, subst, arith, rules}
use Rattle.airy_math.specs.RationalLaws.{0ℚ, 1ℚ}
use Rattle.airy_curve.specs.Numbers.{Begins}
use Rattle.airy_curve.proofs.StepLemmas.{begins-start, begins-next, begins-all}
use Rattle.airy_curve.proofs.numbers.sequence_of.Goals as goal

pub loop-l-init : goal.loop-l-init
unfolding 0ℚ 1ℚ
loop-l-init c =
    subst (Begins c.args.list.now 0) (search rules) (begins-start c.args.list.now c.whole-sequence.result c.whole.result c.whole-sequence.ensures c.whole.ensures)

pub loop-l-preserved : goal.loop-l-preserved
loop-l-preserved c =
    subst (Begins c.args.list.now (c.loop-l.l + 1)) (search rules) (begins-next c.args.list.now c.loop-l.l c.loop-l.sequence c.index-list-l.result (omega arith) (omega arith) c.index-list-l.is c.loop-l.invariant)

pub returns : goal.returns
returns c = begins-all c.args.list.now c.loop-l.sequence c.loop-l.l (omega arith) c.loop-l.invariant
