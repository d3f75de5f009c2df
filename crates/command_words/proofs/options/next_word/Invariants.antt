use Rattle.std.proofs.Common.{◌≡◌, ◌+◌, ◌<◌, ◌≤◌, ◌^◌, length, map}
use Rattle.std.specs.Prelude.{string_bytes}
use Rattle.command_words.specs.Options.{parted}
use Rattle.command_words.specs.Asked.{mode_of, parted_of, IsMode}
use Rattle.command_words.proofs.options.next_word.Given as goal

abbrev pub invariant-loop-word : goal.invariant-loop-word
invariant-loop-word l = record {
  same : parted (mode_of l.mode) (l.before + 1) (map string_bytes l.words) ≡ parted_of l.left;
  crew : IsMode l.mode;
  less : length l.words ≤ length l.left.words.now;
  short : l.before + length l.words < 2 ^ 64;
}

abbrev pub decreases-loop-word : goal.decreases-loop-word
decreases-loop-word l = length l.words
