use Rattle.std.proofs.Common.{refl}
use Rattle.airymore.proofs.Words.{TellsClosing}
use Rattle.airymore.proofs.BracketLemmas.{closed_ends, fails_ends}
use Rattle.airymore.proofs.brackets.print_closing.Goals as goal

pub returns-in-Closed : goal.returns-in-Closed
unfolding TellsClosing
returns-in-Closed g c =
    closed_ends c.args.tensors.now _ _ _ c.in-Closed.ensures.operators (c.in-Closed.ensures.constants refl) c.bracket_law.ensures c.soundness_fact.ensures c.in-Closed.ensures.found c.print_obtained.ensures

pub returns-in_default : goal.returns-in_default
returns-in_default g c =
    fails_ends c.args.tensors.now _ _ _ c.closing.result c.closing.ensures.found c.in_default.not-Closed c.closing.ensures.operators c.say_verdict.ensures
