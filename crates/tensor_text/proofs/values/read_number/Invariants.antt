use Rattle.std.proofs.Common.{◌≡◌, ◌<◌, length, drop}
use Rattle.tensor_text.specs.Values.{below, number_on, number_of}
use Rattle.tensor_text.proofs.values.read_number.Given as goal

abbrev pub invariant-loop-c : goal.invariant-loop-c
invariant-loop-c l = record {
  read : below l.limit (number_on l.number (drop l.c-index l.word)) ≡ below l.limit (number_of l.word);
  fits : 0 < l.c-index → l.number < l.limit;
  some : 0 < length l.word;
}
