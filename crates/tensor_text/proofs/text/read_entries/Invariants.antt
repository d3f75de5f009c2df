use Rattle.std.proofs.Common.{◌≡◌, ◌<◌, ◌+◌, ◌^◌, length}
use Rattle.tensor_text.specs.Lines.{lines}
use Rattle.tensor_text.specs.Grammar.{counted, entries_from}
use Rattle.tensor_text.proofs.text.read_entries.Given as goal

abbrev pub invariant-loop-number : goal.invariant-loop-number
invariant-loop-number l = record {
  given : entries_from l.tensors (counted l.at (lines l.rest)) ≡ entries_from l.fn.tensors (counted l.first (lines l.text));
  small : l.at + length l.rest < 2 ^ 32;
}

abbrev pub decreases-loop-number : goal.decreases-loop-number
decreases-loop-number l = length l.rest
