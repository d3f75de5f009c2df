use Rattle.std.proofs.Common.{rules}
use Rattle.amp_plan.specs.Shares.{can_reach}
use Rattle.amp_plan.proofs.share.Share.can_reach.Goals as goal

pub returns-then-self-chosen : goal.returns-then-self-chosen
unfolding can_reach
returns-then-self-chosen c = search rules
