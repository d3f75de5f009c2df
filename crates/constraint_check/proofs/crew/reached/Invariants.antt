use Rattle.std.proofs.Common.{◌≡◌, length}
use Rattle.amp_plan.specs.Plans.{keys_of}
use Rattle.constraint_check.specs.Ends.{verdict_from}
use Rattle.constraint_check.specs.Pivots.{cut_at}
use Rattle.constraint_check.proofs.crew.reached.Given as goal

abbrev pub invariant-loop-k : goal.invariant-loop-k
invariant-loop-k g l = verdict_from l.plan 0 ≡ verdict_from l.plan (cut_at (length (keys_of l.plan)) l.pieces l.k)
