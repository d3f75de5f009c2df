use Rattle.std.proofs.Common.{◌≡◌, ◌<◌, ◌^◌, drop, ◌+◌, ◌*◌, ◌-◌, ◌≤◌, length}
use Rattle.std.specs.Prelude.{fold}
use Rattle.command_words.specs.Words.{all_digits, number_of}
use Rattle.command_words.proofs.numbers.read_number.Given as goal

abbrev pub invariant-loop-c : goal.invariant-loop-c
invariant-loop-c l = record {
  digits : all_digits (drop l.c-index l.word) ≡ all_digits l.word;
  number : fold (λ n c. 10 * n + (c - 48)) l.number (drop l.c-index l.word) ≡ number_of l.word;
  small : l.number < 10 ^ l.c-index;
  short : length l.word ≤ 9;
}
