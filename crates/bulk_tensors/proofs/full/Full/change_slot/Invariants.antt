use Rattle.bulk_tensors.specs.Full.{entry}
use Rattle.bulk_tensors.specs.Change.{obtained_gained, at_slot}
use Rattle.bulk_tensors.proofs.FullLemmas.{Walked}
use Rattle.bulk_tensors.proofs.full.Full.change_slot.Given as goal

abbrev pub invariant-loop-place : goal.invariant-loop-place
invariant-loop-place l = Walked l.dim l.place (at_slot l.slot (obtained_gained l.gain) (entry l.self)) (entry l.into)
