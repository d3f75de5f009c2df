use Rattle.std.proofs.Common.{◌≡◌, ◌+◌, ◌*◌, None}
use Rattle.airy_math.specs.Tensors.{SameEntries}
use Rattle.bulk_tensors.specs.Bulk.{after, first_refused}
use Rattle.bulk_tensors.specs.Draws.{state}
use Rattle.bulk_tensors.specs.Full.{listed}
use Rattle.bulk_tensors.proofs.bulk.bulk_tensors.Given as goal

abbrev pub invariant-loop-r : goal.invariant-loop-r
invariant-loop-r l =
    (SameEntries (listed l.full) (after l.seed l.dim l.r))
    × (first_refused l.seed l.dim l.r ≡ None)
    × (l.draws.state ≡ state l.seed (4 * l.dim + l.r))
