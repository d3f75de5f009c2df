use Rattle.amp_plan.proofs.GraphLemmas.{IsGathered}
use Rattle.amp_plan.proofs.graph.Collected.of.Given as goal

abbrev pub invariant-loop-rank : goal.invariant-loop-rank
invariant-loop-rank l = IsGathered l.ranking l.rank l.rows l.marker l.edges
