use Rattle.std.proofs.Common.{◌≡◌, List, take, length}
use Rattle.std.specs.Io.KnownBytes.{Appends}
use Rattle.ask_seats.specs.Replies.{Reply, lines_text}
use Rattle.airy_wait.specs.Turns.{AreTold}
use Rattle.airy_wait.proofs.replies.write_replies.Given as goal

abbrev pub invariant-loop-k : goal.invariant-loop-k
invariant-loop-k g l = record {
  written : (all : List Reply) → AreTold all l.callers → length all ≡ l.count
      → Appends (g.W.Sink.state l.initial.out).taken (g.W.Sink.state l.out).taken (lines_text (take l.k all));
  kept : (g.W.Sink.state l.out).faults ≡ (g.W.Sink.state l.initial.out).faults;
}
