use Rattle.std.proofs.Common.{◌≡◌, ℕ, List, ◌++◌, length}
use Rattle.std.specs.Io.KnownBytes.{Appends}
use Rattle.correlators.specs.Volumes.{parts_of}
use Rattle.airyrun.specs.Numbers.{parts_text}
use Rattle.airyrun.proofs.volumes.write_terms.Given as goal

abbrev pub invariant-loop-term : goal.invariant-loop-term
invariant-loop-term g l = record {
  written : (done : List ℕ) × Appends (g.W.Sink.state l.initial.out).taken (g.W.Sink.state l.out).taken done × (done ++ parts_text (parts_of l.left) ≡ parts_text (parts_of l.terms));
  kept : (g.W.Sink.state l.out).faults ≡ (g.W.Sink.state l.initial.out).faults;
}

abbrev pub decreases-loop-term : goal.decreases-loop-term
decreases-loop-term g l = length l.left
