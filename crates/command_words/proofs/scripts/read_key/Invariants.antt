use Rattle.std.proofs.Common.{◌≡◌, length}
use denote.Shadow.{shadow}
use denote.Text.{Utf8}
use Rattle.command_words.specs.Scripts.{bytes_of_words, parts}
use Rattle.command_words.proofs.ScriptLemmas.{with_all}
use Rattle.command_words.proofs.scripts.read_key.Given as goal

abbrev pub invariant-loop-index : goal.invariant-loop-index
invariant-loop-index l = record {
  read : with_all l.idx.items (bytes_of_words (parts 44 l.rest)) ≡ bytes_of_words (parts 44 l.word);
  text : shadow (Utf8 l.rest);
}

abbrev pub decreases-loop-index : goal.decreases-loop-index
decreases-loop-index l = length l.rest
