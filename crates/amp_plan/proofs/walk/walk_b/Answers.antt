use Rattle.std.proofs.lemmas.List.{drop_more, drop_all}
use Rattle.std.proofs.Common.{◌∙◌}
use Rattle.amp_plan.proofs.Words.{b_part}
use Rattle.amp_plan.proofs.WalkLemmas.{taken-none, taken-more, taken-all, allowed-next}
use Rattle.amp_plan.proofs.walk.walk_b.Goals as goal

pub loop-run-init : goal.loop-run-init
loop-run-init g c = taken-none (c.as_slice-runs.ensures.value ∙ c.requires.rest.runs)

pub walk_run-requires-clause-allowed : goal.walk_run-requires-clause-allowed
unfolding b_part
walk_run-requires-clause-allowed g c = allowed-next (drop_more _ _ (0, 0) c.loop-run-test.true) c.requires.allowed c.loop-run.invariant

pub loop-run-preserved : goal.loop-run-preserved
loop-run-preserved g c = taken-more (drop_more _ _ (0, 0) c.loop-run-test.true) c.loop-run.invariant c.walk_run.ensures

pub returns : goal.returns
unfolding b_part
returns g c = taken-all (drop_all _ _ c.loop-run-test.false) c.loop-run.invariant
