use Rattle.bulk_tensors.specs.Filled.{AreFilled}
use Rattle.bulk_tensors.proofs.full_tensors.FullTensors.tensors.Given as goal

abbrev pub invariant-loop-place : goal.invariant-loop-place
invariant-loop-place l = AreFilled l.place l.place l.place 0 l.self l.tensors

abbrev pub invariant-loop-i : goal.invariant-loop-i
invariant-loop-i l = AreFilled 512 512 512 l.i l.self l.tensors
