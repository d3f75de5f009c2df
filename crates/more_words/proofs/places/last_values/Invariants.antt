use Rattle.std.proofs.Common.{◌≡◌, ◌-◌, ◌≤◌, length}
use Rattle.more_words.specs.MoreWords.{values}
use Rattle.more_words.specs.Asked.{numbered_of, IsLeft}
use Rattle.command_words.proofs.ScriptLemmas.{with_read}
use Rattle.more_words.proofs.places.last_values.Given as goal

abbrev pub invariant-loop-word : goal.invariant-loop-word
invariant-loop-word l = record {
  read : with_read l.numbers (values (24 - length l.numbers) (numbered_of l.rest)) ≡ values 24 (numbered_of l.left);
  most : length l.numbers ≤ 24;
  words : IsLeft l.rest;
}

abbrev pub decreases-loop-word : goal.decreases-loop-word
decreases-loop-word l = length l.rest.words.now
