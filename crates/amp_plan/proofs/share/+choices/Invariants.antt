use Rattle.std.proofs.Common.{◌-◌, ◌≤◌, ◌+◌, ◌*◌, length, suc, ◌∷◌}
use Rattle.amp_plan.proofs.Words.{Split, count_from, choice_part, more_of, IsChosen}
use Rattle.airy_math.specs.Sums.{below}
use Rattle.amp_plan.proofs.WalkLemmas.{HasTaken}
use Rattle.amp_plan.proofs.StageLemmas.{IsAt}
use Rattle.amp_plan.proofs.share.+choices.Given as goal

abbrev pub decreases-walk_choices : goal.decreases-walk_choices
decreases-walk_choices g l = 2 * length l.others.now + 2

-- the test comes before the walk of the same runs
abbrev pub decreases-walk_reachable : goal.decreases-walk_reachable
decreases-walk_reachable g l = 2 * length l.left.now + 1

abbrev pub invariant-walk_choices-loop-taken : goal.invariant-walk_choices-loop-taken
invariant-walk_choices-loop-taken g l = record {
  within : l.taken ≤ l.run.1;
  at : (s : Split) → IsChosen l.ranking l.share (l.run ∷ l.others) l.chosen s → IsAt l.share l.run l.others s l.next l.taken;
  taken : (s : Split) → IsChosen l.ranking l.share (l.run ∷ l.others) l.chosen s
      → HasTaken g.V.TermVisitor.allows g.V.TermVisitor.state g.V.TermVisitor.step (λ t. choice_part l.ranking l.share (more_of s l.run t) l.others) (below (suc l.run.1)) (count_from l.taken (suc l.run.1 - l.taken)) l.initial.visitor l.visitor;
}

abbrev pub decreases-walk_choices-loop-taken : goal.decreases-walk_choices-loop-taken
decreases-walk_choices-loop-taken g l = l.run.1 - l.taken
