use Rattle.std.proofs.Common.{arith}
use Rattle.amp_plan.specs.Limits.{Tells}
use Rattle.amp_plan.proofs.LimitLemmas.{limit-memory}
use Rattle.amp_plan.proofs.ranking.planned_index.Goals as goal

pub returns-in-Err-clause-cause : goal.returns-in-Err-clause-cause
unfolding Tells
returns-in-Err-clause-cause c = limit-memory (record { tensors = c.args.tensors.now; bound = c.args.bound }) (omega (arith, c.requires.above)) c.requires.most
