use Rattle.std.proofs.Common.{arith, sym, ap, subst, ◌∙◌, ◌<◌, ◌+◌, length}
use Rattle.amp_plan.specs.Plans.{key_at}
use Rattle.amp_plan.specs.Limits.{PassesNeeds, Tells}
use Rattle.amp_plan.proofs.LimitLemmas.{limit-memory}
use Rattle.amp_plan.proofs.GraphLemmas.{IsGathered, gathered-none, gathered-more, gathered-past, gathered-all}
use Rattle.amp_plan.proofs.graph.Collected.of.Goals as goal

pub returns-in_default-clause-cause : goal.returns-in_default-clause-cause
unfolding Tells
returns-in_default-clause-cause c = limit-memory c.args.ranking.now c.is_small.ensures.some c.is_small.ensures.most

pub returns-in_default-add_needs-clause-cause : goal.returns-in_default-add_needs-clause-cause
unfolding Tells
returns-in_default-add_needs-clause-cause c = limit-memory c.args.ranking.now c.is_small.ensures.some c.is_small.ensures.most

pub loop-rank-init : goal.loop-rank-init
loop-rank-init c = gathered-none c.args.ranking.now c.none-rows.result c.in-Ok.marker c.none-rows.ensures (ap (λ m. m.size) c.in-Ok.ensures ∙ c.len.ensures) (ap (λ m. m.stamp) c.in-Ok.ensures)

pub returns-then-edges-gt-MOST_NEEDS-clause-cause : goal.returns-then-edges-gt-MOST_NEEDS-clause-cause
unfolding Tells key_at
returns-then-edges-gt-MOST_NEEDS-clause-cause c =
    gathered-past c.args.ranking.now c.loop-rank.rank c.loop-rank.rows c.add_needs.new.rows c.loop-rank.marker c.loop-rank.edges c.is_small.ensures.some c.is_small.ensures.most c.is_small.ensures.few c.loop-rank.invariant
    (subst (λ n. c.loop-rank.rank < n) c.len-rank-end.ensures c.loop-rank-test.true) c.in-Ok-add_needs.ensures.named (omega (arith, c.if-edges-gt-MOST_NEEDS.true, ap length c.at.ensures))
    ∙ ap PassesNeeds (sym c.key.ensures)

pub loop-rank-preserved : goal.loop-rank-preserved
loop-rank-preserved c =
    subst (λ n. IsGathered c.args.ranking.now (c.loop-rank.rank + 1) c.add_needs.new.rows c.add_needs.new.marker (c.loop-rank.edges + n)) (sym (ap length c.at.ensures))
    (gathered-more c.args.ranking.now c.loop-rank.rank c.loop-rank.rows c.add_needs.new.rows c.loop-rank.marker c.add_needs.new.marker c.loop-rank.edges c.loop-rank.invariant
    (subst (λ n. c.loop-rank.rank < n) c.len-rank-end.ensures c.loop-rank-test.true) c.in-Ok-add_needs.ensures.named c.add_needs.ensures.size c.add_needs.ensures.stamp (omega (arith, c.if-edges-gt-MOST_NEEDS.false, ap length c.at.ensures)))

pub returns-clause-collected : goal.returns-clause-collected
returns-clause-collected c =
    gathered-all c.args.ranking.now c.loop-rank.rank c.loop-rank.rows c.loop-rank.marker c.loop-rank.edges c.is_small.ensures.some c.is_small.ensures.most c.is_small.ensures.few c.loop-rank.invariant
    (omega (arith, c.loop-rank-test.false, c.loop-rank.auto.rank-end, c.len-rank-end.ensures))
