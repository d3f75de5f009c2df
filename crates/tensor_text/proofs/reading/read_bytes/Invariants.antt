use Rattle.std.proofs.Common.{◌≡◌, ◌≤◌, ◌+◌, ◌-◌, length, vec_len}
use Rattle.std.specs.Io.KnownBytes.{Consumes}
use Rattle.tensor_text.proofs.reading.read_bytes.Given as goal

abbrev pub invariant-loop-room : goal.invariant-loop-room
invariant-loop-room g l = record {
  consumed : Consumes (g.S.Source.state l.fn.src).left (g.S.Source.state l.src).left l.text.items;
  most : vec_len l.text ≤ l.fn.most + 1;
  kept : (g.S.Source.state l.src).faults ≡ (g.S.Source.state l.fn.src).faults;
  room : length l.room ≡ 4096;
}

abbrev pub decreases-loop-room : goal.decreases-loop-room
decreases-loop-room g l = (l.fn.most + 1) - vec_len l.text
