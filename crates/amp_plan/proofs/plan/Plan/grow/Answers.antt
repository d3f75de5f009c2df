use Rattle.amp_plan.proofs.GrowLemmas.{known_from}
use Rattle.amp_plan.proofs.plan.Plan.grow.Goals as goal

pub of-requires : goal.of-requires
of-requires c =
    known_from c.self.inside.ranking c.with_index-ranking.result.0 c.args.bound c.self.inside.graph.needs c.self.inside.graph.dependents c.self.inside.graph.edges c.self.invariant c.grown_fact.ensures.named c.with_index-ranking.ensures.ranking
