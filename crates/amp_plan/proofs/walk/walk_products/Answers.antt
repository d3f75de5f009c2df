use Rattle.std.proofs.Common.{arith, rules, ◌+◌}
use Rattle.amp_plan.specs.Walk.{product_part}
use Rattle.amp_plan.proofs.WalkLemmas.{taken-none, taken-more, taken-all, allowed-next}
use Rattle.index_lists.proofs.SplitLemmas.{count-none, count-next, count-over}
use Rattle.amp_plan.proofs.walk.walk_products.Goals as goal

pub loop-k-init : goal.loop-k-init
loop-k-init g c = taken-none (count-none c.args.genus)

pub walk_genus-requires : goal.walk_genus-requires
unfolding product_part
walk_genus-requires g c =
    let allowed = allowed-next (count-next c.loop-k.k c.args.genus c.loop-k-test.true) c.requires.allowed c.loop-k.invariant in
    (search rules, (c.requires.rest, (c.requires.listed, (c.requires.room, (c.requires.a, (c.requires.b, (search rules, allowed)))))))

pub loop-k-preserved : goal.loop-k-preserved
loop-k-preserved g c = taken-more (count-next c.loop-k.k c.args.genus c.loop-k-test.true) c.loop-k.invariant c.walk_genus.ensures

pub returns-2 : goal.returns-2
unfolding product_part
returns-2 g c = taken-all (count-over (c.loop-k.k + 1) c.args.genus (omega arith)) (taken-more (count-next c.loop-k.k c.args.genus c.loop-k-test.true) c.loop-k.invariant c.walk_genus.ensures)
