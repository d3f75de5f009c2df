use Rattle.std.proofs.Common.{arith, sym, subst, ◌<◌, [], length, get_or}
use Rattle.amp_plan.proofs.Words.{keys_of, Tells, IsRow, AreTurned}
use Rattle.amp_plan.proofs.LimitLemmas.{limit-memory}
use Rattle.amp_plan.proofs.GraphLemmas.{collected-rows, dependents_from}
use Rattle.amp_plan.proofs.graph.Dependents.of.Goals as goal

pub returns-in_default-clause-cause : goal.returns-in_default-clause-cause
unfolding Tells
returns-in_default-clause-cause c = limit-memory c.args.ranking.now c.is_small.ensures.some c.is_small.ensures.most

pub turn-requires-clause-rows : goal.turn-requires-clause-rows
turn-requires-clause-rows c = λ r h.
    let small : r < length (keys_of c.args.ranking.now) = omega (arith, c.in-Ok.ensures.collected.len) in
    subst (λ n. IsRow n (get_or c.in-Ok.collected.rows r [])) (sym c.len.ensures) (collected-rows c.args.ranking.now c.in-Ok.collected.rows c.in-Ok.collected.edges r c.in-Ok.ensures.collected small)

pub returns-clause-dependents : goal.returns-clause-dependents
returns-clause-dependents c =
    dependents_from c.args.ranking.now c.in-Ok.collected.rows c.in-Ok-turn.rows c.in-Ok.collected.edges c.in-Ok.ensures.collected (subst (λ n. AreTurned n c.in-Ok.collected.rows c.in-Ok-turn.rows) c.len.ensures c.in-Ok-turn.ensures)
