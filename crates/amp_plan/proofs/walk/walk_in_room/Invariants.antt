use Rattle.std.proofs.Common.{drop}
use Rattle.amp_plan.proofs.Words.{entry_part, row_c, tensors_of}
use Rattle.amp_plan.proofs.WalkLemmas.{HasTaken}
use Rattle.amp_plan.proofs.walk.walk_in_room.Given as goal

abbrev pub invariant-loop-entry : goal.invariant-loop-entry
invariant-loop-entry g l = HasTaken g.V.TermVisitor.allows g.V.TermVisitor.state g.V.TermVisitor.step (entry_part l.ranking l.genus l.list.rest.list.items) (row_c (tensors_of l.ranking) l.pivot) (drop l.entry-index l.row) l.initial.visitor l.visitor
