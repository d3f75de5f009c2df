use Rattle.std.proofs.Common.{◌≡◌, true, false, sym, ◌∙◌, rules}
use Rattle.command_words.specs.Bounds.{is_bound, reach}
use Rattle.command_words.specs.Options.{lines_of}
use Rattle.command_words.specs.Asked.{parted_of}
use Rattle.command_words.proofs.ScriptLemmas.{reached, reach_unfit}
use Rattle.command_words.proofs.bounds.greatest_bound.Goals as goal

pub returns-in_default : goal.returns-in_default
unfolding reach
returns-in_default c =
    let here : reach c.loop-rest.bound (lines_of (parted_of c.loop-rest.rest)) ≡ c.loop-rest.bound = search rules in
    let is : is_bound c.loop-rest.bound ≡ true = search rules in
    reached c.args.first c.loop-rest.bound (lines_of (parted_of c.args.script)) c.requires.script (sym here ∙ c.loop-rest.invariant.reached) is

pub returns : goal.returns
returns c =
    let not : is_bound c.loop-rest.bound ≡ false = search rules in
    (sym (reach_unfit c.loop-rest.bound (lines_of (parted_of c.loop-rest.rest)) not) ∙ c.loop-rest.invariant.reached, not)
