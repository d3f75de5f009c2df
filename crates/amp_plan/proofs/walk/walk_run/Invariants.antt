use Rattle.std.proofs.Common.{drop}
use Rattle.amp_plan.proofs.Words.{once_part, row_b, tensors_of}
use Rattle.amp_plan.proofs.WalkLemmas.{HasTaken}
use Rattle.amp_plan.proofs.walk.walk_run.Given as goal

abbrev pub invariant-loop-entry : goal.invariant-loop-entry
invariant-loop-entry g l = HasTaken g.V.TermVisitor.allows g.V.TermVisitor.state g.V.TermVisitor.step (once_part l.ranking l.genus l.left l.run.1) (row_b (tensors_of l.ranking) l.pivot l.run.0) (drop l.entry-index l.row) l.initial.visitor l.visitor
