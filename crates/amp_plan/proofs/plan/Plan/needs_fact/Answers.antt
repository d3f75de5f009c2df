use Rattle.amp_plan.proofs.Words.{tensors_of, planned}
use Rattle.airy_math.specs.Ranks.{key_at}
use Rattle.amp_plan.proofs.NeedsFacts.{needs_fact}
use Rattle.amp_plan.proofs.plan.Plan.needs_fact.Goals as goal

pub returns : goal.returns
returns c =
    let T = tensors_of c.args.self.now in
    let X = c.args.self.now.bound in
    let lists = c.planned_once.ensures T X in
    needs_fact T X lists (c.plan_ascends.ensures.strictly T X) (λ r h. c.needs_first.ensures T X (key_at (planned T X) r) (lists.only r h))
