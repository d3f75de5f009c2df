use Rattle.std.proofs.Common.{◌≡◌, [], replicate}
use Rattle.sparse_tensor.proofs.pairs.Pairs.empty.Given as goal

abbrev pub invariant-loop-row : goal.invariant-loop-row
invariant-loop-row l = l.rows.items ≡ replicate l._row []
