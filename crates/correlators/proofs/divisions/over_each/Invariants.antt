use Rattle.std.proofs.Common.{◌≡◌, drop}
use Rattle.correlators.proofs.Words.{over_indices}
use Rattle.correlators.proofs.divisions.over_each.Given as goal

abbrev pub invariant-loop-d : goal.invariant-loop-d
invariant-loop-d l = over_indices l.step (drop l.d-index l.idx) l.quotient ≡ over_indices l.step l.idx l.initial.quotient
