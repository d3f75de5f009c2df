use Rattle.airy_math.specs.Splits.{runs}
use Rattle.std.proofs.Common.{drop}
use Rattle.amp_plan.proofs.Words.{run_part}
use Rattle.amp_plan.proofs.WalkLemmas.{HasTaken}
use Rattle.amp_plan.proofs.walk.walk_b.Given as goal

abbrev pub invariant-loop-run : goal.invariant-loop-run
invariant-loop-run g l = HasTaken g.V.TermVisitor.allows g.V.TermVisitor.state g.V.TermVisitor.step (run_part l.ranking l.pivot l.genus l.rest.list.items) (runs l.rest.list.items) (drop l.run-index l.runs) l.initial.visitor l.visitor
