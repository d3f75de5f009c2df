use Rattle.amp_plan.proofs.Words.{tensors_of, keys_of, needs_at}
use Rattle.amp_plan.proofs.GrowLemmas.{keeps_ranks, named-still}
use Rattle.amp_plan.proofs.ranking.Ranking.grown_fact.Goals as goal

pub returns-clause-kept : goal.returns-clause-kept
returns-clause-kept c = keeps_ranks c.planned_once.ensures c.plan_ascends.ensures.by_levels c.needs_first.ensures c.ranks.ensures c.args.self.now c.args.bound c.requires

pub returns-clause-named : goal.returns-clause-named
unfolding needs_at keys_of
returns-clause-named c = λ r h. named-still c.planned_once.ensures c.plan_ascends.ensures.by_levels c.needs_first.ensures c.ranks.ensures (tensors_of c.args.self.now) c.args.self.now.bound c.args.bound r c.requires h
