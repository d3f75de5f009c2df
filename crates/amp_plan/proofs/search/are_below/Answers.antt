use Rattle.std.proofs.Common.{arith, sym, ◌∙◌}
use Rattle.amp_plan.proofs.SearchLemmas.{below-more, below-less, below-end}
use Rattle.amp_plan.proofs.search.are_below.Goals as goal

pub returns-then-index-dim : goal.returns-then-index-dim
returns-then-index-dim c = sym (below-less c.args.dim c.args.indices.now c.loop-index.index-index c.loop-index-test.true c.if-index-dim.true) ∙ c.loop-index.invariant

pub loop-index-preserved : goal.loop-index-preserved
loop-index-preserved c = sym (below-more c.args.dim c.args.indices.now c.loop-index.index-index c.loop-index-test.true c.if-index-dim.false) ∙ c.loop-index.invariant

pub returns : goal.returns
returns c = sym (below-end c.args.dim c.args.indices.now c.loop-index.index-index (omega (arith, c.loop-index-test.false))) ∙ c.loop-index.invariant
