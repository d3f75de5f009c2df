use Rattle.std.proofs.Common.{rules}
use Rattle.sparse_tensor.specs.Grades.{IsAscendingByIndex}
use Rattle.sparse_tensor.proofs.row.Row.new.Goals as goal

pub invariant_of-result : goal.invariant_of-result
unfolding IsAscendingByIndex
invariant_of-result c = search rules
