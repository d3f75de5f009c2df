use Rattle.airy_math.proofs.RankLaw.{ranks_in_order}
use Rattle.airy_math.proofs.ranks.Goals as goal

pub returns : goal.returns
returns c = ranks_in_order
