use Rattle.std.proofs.Common.{Some, None, rules}
use Rattle.std.proofs.lemmas.Str.Pattern.{split_parts}
use Rattle.command_words.proofs.ScriptLemmas.{split-lacks, split-at}
use Rattle.command_words.proofs.scripts.cut.Goals as goal

pub returns-in-Some : goal.returns-in-Some
returns-in-Some c =
    let parts = split_parts c.args.at c.args.word.now (Some (c.in-Some.before, c.in-Some.after)) c.in-Some.ensures.cases c.requires in
    record { parts = rw parts.0 (split-at _ _ _ parts.1); shorter = search rules }

pub returns-in-None : goal.returns-in-None
returns-in-None c = record { parts = split-lacks _ _ (split_parts c.args.at c.args.word.now None c.in-None.ensures.cases c.requires); shorter = tt }
