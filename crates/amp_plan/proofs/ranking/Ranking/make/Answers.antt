use Rattle.std.proofs.Common.{refl}
use Rattle.amp_plan.proofs.Words.{each, count_from, planned}
use Rattle.amp_plan.proofs.ranking.Ranking.make.Goals as goal

pub planned_index-requires-clause-known : goal.planned_index-requires-clause-known
unfolding planned each count_from
planned_index-requires-clause-known c = refl
