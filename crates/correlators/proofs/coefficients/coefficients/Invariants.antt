use Rattle.std.proofs.Common.{◌≡◌}
use Rattle.correlators.proofs.Words.{keys_of_pair, coefficient_of, first_lacking, AreCoefficients}
use Rattle.correlators.proofs.PairLemmas.{lacking_from}
use Rattle.correlators.proofs.coefficients.coefficients.Given as goal

abbrev pub invariant-loop-rank : goal.invariant-loop-rank
invariant-loop-rank l = record {
  are : AreCoefficients l.plan l.table l.g l.n l.rank l.numbers.items;
  lacking : lacking_from l.plan l.g l.n (coefficient_of l.plan l.table) l.rank ≡ first_lacking (coefficient_of l.plan l.table) (keys_of_pair l.plan l.g l.n);
}
