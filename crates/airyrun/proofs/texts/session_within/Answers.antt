use Rattle.command_words.specs.Options.{lines_of}
use Rattle.command_words.specs.Asked.{parted_of}
use Rattle.airyrun.specs.Run.{LeadsToClosedSession}
use Rattle.run_reports.proofs.TextLemmas.{read_ends, refusal_ends}
use Rattle.airyrun.proofs.texts.session_within.Goals as goal

pub returns-in-Ok : goal.returns-in-Ok
returns-in-Ok g c =
    read_ends (LeadsToClosedSession c.args.bound c.args.workers (lines_of (parted_of c.args.script))) _ _ _ _ _ c.in-Ok.tensors c.in-Ok.ensures.read c.in-Ok.ensures.cause c.talk_closed.ensures

pub returns-in-Err : goal.returns-in-Err
returns-in-Err g c =
    refusal_ends (LeadsToClosedSession c.args.bound c.args.workers (lines_of (parted_of c.args.script))) _ _ _ _ _ c.in-Err.refusal c.in-Err.ensures.read c.in-Err.ensures.cause c.refuse_text.ensures
