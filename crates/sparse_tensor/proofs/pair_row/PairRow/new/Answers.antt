use Rattle.std.proofs.Common.{rules}
use Rattle.sparse_tensor.specs.Rows.{IsAscendingByPair}
use Rattle.sparse_tensor.proofs.pair_row.PairRow.new.Goals as goal

pub invariant_of-result : goal.invariant_of-result
unfolding IsAscendingByPair
invariant_of-result c = search rules
