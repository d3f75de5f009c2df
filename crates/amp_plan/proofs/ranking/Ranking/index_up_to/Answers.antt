use Rattle.std.proofs.Common.{◌∙◌}
use Rattle.amp_plan.specs.Plans.{tensors_of, keys_of}
use Rattle.amp_plan.proofs.ranking.Ranking.index_up_to.Goals as goal

pub planned_index-requires-clause-known : goal.planned_index-requires-clause-known
unfolding keys_of tensors_of
planned_index-requires-clause-known c = c.keys.ensures ∙ c.self.invariant.keys
