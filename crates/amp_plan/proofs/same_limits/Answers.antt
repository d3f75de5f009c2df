use Rattle.amp_plan.proofs.SameLimits.{same_limits}
use Rattle.amp_plan.proofs.same_limits.Goals as goal

pub returns : goal.returns
returns c = same_limits c.planned_once.ensures c.below_dim.ensures
