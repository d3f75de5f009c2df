use Rattle.std.proofs.Common.{◌≡◌, length, IfSome}
use Rattle.airymore.proofs.Words.{looked_up, first_over, from_any, places, IsPlace}
use Rattle.airymore.proofs.brackets.find_over.Given as goal

abbrev pub invariant-loop-at : goal.invariant-loop-at
invariant-loop-at l = record {
  place : IfSome l.at (IsPlace l.tensors.dim);
  rest : first_over (looked_up l.tensors) (from_any l.tensors.dim l.at) ≡ first_over (looked_up l.tensors) (places l.tensors.dim);
}

abbrev pub decreases-loop-at : goal.decreases-loop-at
decreases-loop-at l = length (from_any l.tensors.dim l.at)
