use Rattle.std.proofs.Common.{◌≡◌, ℕ, List, ◌++◌, length, IfSome, None}
use Rattle.airymore.proofs.Words.{looked_up, Appends, first_over, numbers_text, from_any, places, IsPlace}
use Rattle.airymore.proofs.brackets.write_numbers.Given as goal

abbrev pub invariant-loop-at : goal.invariant-loop-at
invariant-loop-at g l = record {
  place : IfSome l.at (IsPlace l.tensors.dim);
  obtained : first_over (looked_up l.tensors) (from_any l.tensors.dim l.at) ≡ None;
  written : (done : List ℕ) × Appends (g.W.Sink.state l.initial.out).taken (g.W.Sink.state l.out).taken done
      × (done ++ numbers_text (looked_up l.tensors) (from_any l.tensors.dim l.at) ≡ numbers_text (looked_up l.tensors) (places l.tensors.dim));
  kept : (g.W.Sink.state l.out).faults ≡ (g.W.Sink.state l.initial.out).faults;
}

abbrev pub decreases-loop-at : goal.decreases-loop-at
decreases-loop-at g l = length (from_any l.tensors.dim l.at)
