use Rattle.std.proofs.Common.{◌≡◌, ◌*◌}
use Rattle.bulk_tensors.specs.Draws.{state}
use Rattle.bulk_tensors.proofs.DiagonalLemmas.{IsSet}
use Rattle.bulk_tensors.proofs.bulk.set_diagonal.Given as goal

abbrev pub invariant-loop-i : goal.invariant-loop-i
invariant-loop-i l = (IsSet l.i l.initial.draws.state l.dim l.full) × (l.draws.state ≡ state l.initial.draws.state (4 * l.i))
