use Rattle.std.proofs.Common.{◌≡◌, ◌+◌, ◌≤◌, length}
use Rattle.tensor_text.specs.Lines.{lines}
use Rattle.tensor_text.specs.Grammar.{counted}
use Rattle.tensor_text.proofs.lines.next_line.Given as goal

abbrev pub invariant-loop-line : goal.invariant-loop-line
invariant-loop-line l = record {
  next : counted l.number (lines l.rest) ≡ counted l.first (lines l.text);
  shorter : length l.rest ≤ length l.text;
  within : l.number + length l.rest ≤ l.first + length l.text;
}

abbrev pub decreases-loop-line : goal.decreases-loop-line
decreases-loop-line l = length l.rest
