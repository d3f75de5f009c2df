use Rattle.std.proofs.Common.{arith, sym, subst, ◌<◌, [], length, get_or}
use Rattle.amp_plan.proofs.Words.{keys_of, Tells, IsRow, AreTurned}
use Rattle.amp_plan.proofs.LimitLemmas.{limit-memory}
use Rattle.amp_plan.proofs.GraphLemmas.{dependents-rows, graph_from}
use Rattle.amp_plan.proofs.graph.Graph.of.Goals as goal

pub returns-in_default-clause-cause : goal.returns-in_default-clause-cause
unfolding Tells
returns-in_default-clause-cause c = limit-memory c.args.ranking.now c.is_small.ensures.some c.is_small.ensures.most

pub turn-requires-clause-rows : goal.turn-requires-clause-rows
turn-requires-clause-rows c = λ r h.
    let small : r < length (keys_of c.args.ranking.now) = omega (arith, c.in-Ok.ensures.dependents.len) in
    subst (λ n. IsRow n (get_or c.in-Ok.dependents.rows r [])) (sym c.len.ensures) (dependents-rows c.args.ranking.now c.in-Ok.dependents.rows c.in-Ok.dependents.edges r c.in-Ok.ensures.dependents small)

pub returns-clause-graph : goal.returns-clause-graph
returns-clause-graph c =
    graph_from c.args.ranking.now c.in-Ok.dependents.rows c.in-Ok-turn.needs c.in-Ok.dependents.edges c.in-Ok.ensures.dependents (subst (λ n. AreTurned n c.in-Ok.dependents.rows c.in-Ok-turn.needs) c.len.ensures c.in-Ok-turn.ensures)
