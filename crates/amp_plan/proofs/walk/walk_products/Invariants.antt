use Rattle.std.proofs.Common.{◌-◌, suc}
use Rattle.airy_math.specs.Sums.{below, count_from}
use Rattle.amp_plan.specs.Walk.{genus_part}
use Rattle.amp_plan.proofs.WalkLemmas.{HasTaken}
use Rattle.amp_plan.proofs.walk.walk_products.Given as goal

abbrev pub invariant-loop-k : goal.invariant-loop-k
invariant-loop-k g l =
    HasTaken g.V.TermVisitor.allows g.V.TermVisitor.state g.V.TermVisitor.step (genus_part l.ranking l.genus l.list.rest.list.items l.pair.a l.pair.b l.pair.weight) (below (suc l.genus)) (count_from l.k (suc l.genus - l.k)) l.initial.visitor l.visitor
