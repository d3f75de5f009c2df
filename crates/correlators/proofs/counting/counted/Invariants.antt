use Rattle.std.proofs.Common.{◌≡◌}
use Rattle.correlators.proofs.Words.{binomial}
use Rattle.correlators.proofs.counting.counted.Given as goal

abbrev pub invariant-loop-i : goal.invariant-loop-i
invariant-loop-i l = l.lists ≡ binomial l.all l.i
