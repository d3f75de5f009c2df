use Rattle.std.proofs.Common.{◌∙◌}
use Rattle.sparse_tensor.specs.Entries.{looked_up}
use Rattle.airy_relations.specs.Walks.{over_i}
use Rattle.airy_relations.proofs.VerdictLemmas.{list_step, list_found}
use Rattle.airy_relations.proofs.checks.check_all.Goals as goal

pub returns-then-not-is_closed : goal.returns-then-not-is_closed
returns-then-not-is_closed c = list_found (over_i (looked_up c.args.t.now) c.args.places) _ _ _ _ c.loop-rel-test.true c.check_i-found.ensures (λ q. let e = c.is_closed.ensures.1 q in cc) ∙ c.loop-rel.invariant

pub loop-rel-preserved : goal.loop-rel-preserved
loop-rel-preserved c = list_step (over_i (looked_up c.args.t.now) c.args.places) _ _ _ _ c.loop-rel-test.true c.check_i-found.ensures (c.is_closed.ensures.0 c.if-not-is_closed.false) ∙ c.loop-rel.invariant
