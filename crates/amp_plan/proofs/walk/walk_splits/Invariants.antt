use Rattle.amp_plan.proofs.Words.{splits, split_part}
use Rattle.amp_plan.proofs.WalkLemmas.{HasTaken}
use Rattle.amp_plan.proofs.walk.walk_splits.Given as goal

abbrev pub invariant-loop-split : goal.invariant-loop-split
invariant-loop-split g l =
    HasTaken g.V.TermVisitor.allows g.V.TermVisitor.state g.V.TermVisitor.step (split_part l.ranking l.genus l.pair.a l.pair.b l.pair.weight l.k) (splits l.rest) l.split-iterator l.initial.visitor l.visitor
