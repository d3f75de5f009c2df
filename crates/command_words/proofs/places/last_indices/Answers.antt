use Rattle.std.proofs.Common.{◌≡◌, ◌+◌, ◌<◌, Some, length, rules}
use Rattle.command_words.specs.Scripts.{byte_of_word}
use Rattle.command_words.specs.Asked.{parted_of}
use Rattle.command_words.proofs.ScriptLemmas.{read_more}
use Rattle.command_words.proofs.places.last_indices.Goals as goal

pub loop-before-preserved : goal.loop-before-preserved
loop-before-preserved c =
    let room : length c.loop-before.idx.items < 26 = search rules in
    let byte : byte_of_word c.in-Word.word.now ≡ Some c.in_ok-index-in-Word.index = search rules in
    let more = read_more byte_of_word 26 c.loop-before.idx.items c.in_ok-index-in-Word.index c.in-Word.word.now (c.in-Word.before + 1) (parted_of c.in-Word.left) room byte in
    record { read = search rules; some = search rules; room = search rules; words = search rules }
