use Rattle.airy_math.proofs.PlanOrderLaw.{ascends, levels}
use Rattle.airy_math.proofs.plan_ascends.Goals as goal

pub returns-clause-strictly : goal.returns-clause-strictly
returns-clause-strictly c = ascends

pub returns-clause-by_levels : goal.returns-clause-by_levels
returns-clause-by_levels c = levels
