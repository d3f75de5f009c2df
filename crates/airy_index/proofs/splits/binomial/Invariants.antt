use Rattle.std.proofs.Common.{◌≡◌}
use Rattle.airy_math.specs.Sums.{binomial}
use Rattle.airy_index.proofs.splits.binomial.Given as goal

abbrev pub invariant-loop-i : goal.invariant-loop-i
invariant-loop-i l = l.ways ≡ binomial l.n l.i
