use Rattle.std.proofs.Common.{rules}
use Rattle.command_words.specs.Asked.{parted_of}
use Rattle.command_words.proofs.ScriptLemmas.{script_of}
use Rattle.command_words.proofs.words.read_session.Goals as goal

pub returns-clause-fit : goal.returns-clause-fit
returns-clause-fit c = (search rules, search rules, script_of c.in_ok-bound.bound (parted_of c.in_ok-bound.script) c.in_ok-workers.ensures.0)
