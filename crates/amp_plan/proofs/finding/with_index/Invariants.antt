use Rattle.std.proofs.Common.{◌≡◌, take}
use Rattle.amp_plan.proofs.finding.with_index.Given as goal

abbrev pub invariant-loop-y : goal.invariant-loop-y
invariant-loop-y l = l.all.items ≡ take l.y-index l.list
