use Rattle.std.proofs.Common.{◌≡◌, ◌-◌, ◌<◌, ◌≤◌, length}
use Rattle.command_words.specs.Scripts.{byte_of_word}
use Rattle.command_words.specs.Options.{items, with_item}
use Rattle.command_words.specs.Asked.{parted_of, IsLeft}
use Rattle.command_words.proofs.ScriptLemmas.{with_read}
use Rattle.command_words.proofs.places.last_indices.Given as goal

abbrev pub invariant-loop-before : goal.invariant-loop-before
invariant-loop-before l = record {
  read : with_read l.idx.items (items byte_of_word (26 - length l.idx.items) (parted_of l.rest)) ≡ with_item l.first (items byte_of_word 25 (parted_of l.left));
  some : 0 < length l.idx.items;
  room : length l.idx.items ≤ 26;
  words : IsLeft l.rest;
}

abbrev pub decreases-loop-before : goal.decreases-loop-before
decreases-loop-before l = length l.rest.words.now
