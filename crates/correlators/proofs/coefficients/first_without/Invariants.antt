use Rattle.std.proofs.Common.{◌≡◌}
use Rattle.correlators.proofs.Words.{keys_of_pair, first_lacking}
use Rattle.correlators.specs.Volumes.{value_of}
use Rattle.correlators.proofs.PairLemmas.{lacking_from}
use Rattle.correlators.proofs.coefficients.first_without.Given as goal

abbrev pub invariant-loop-rank : goal.invariant-loop-rank
invariant-loop-rank l = lacking_from l.plan l.g l.n (value_of l.plan l.table) l.rank ≡ first_lacking (value_of l.plan l.table) (keys_of_pair l.plan l.g l.n)
