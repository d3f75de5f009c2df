use Rattle.std.proofs.Common.{◌≡◌, drop}
use Rattle.amp_plan.specs.Places.{are_below}
use Rattle.amp_plan.proofs.search.are_below.Given as goal

abbrev pub invariant-loop-index : goal.invariant-loop-index
invariant-loop-index l = are_below l.dim (drop l.index-index l.indices) ≡ are_below l.dim l.indices
