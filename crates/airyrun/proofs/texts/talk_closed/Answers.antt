use Rattle.std.proofs.Common.{◌∙◌, ap, subst, refl}
use Rattle.run_reports.proofs.Names.{Close, looked_up, verdict, text_structure, reach, parted_of}
use Rattle.command_words.specs.Options.{lines_of}
use Rattle.run_reports.proofs.TextLemmas.{are_closed, text_sound}
use Rattle.session_law.proofs.SessionLemmas.{text-planned}
use Rattle.airyrun.proofs.TalkLemmas.{stored-leads, closed-leads, fails-leads}
use Rattle.airyrun.proofs.texts.talk_closed.Goals as goal
use Rattle.run_reports.proofs.StructureLemmas.{text_made}

pub returns-in-Closed : goal.returns-in-Closed
returns-in-Closed g c =
    let t = c.args.tensors in let X = c.args.bound in let lines = lines_of (parted_of c.args.script) in let Y = reach X lines in
    closed-leads t X c.args.workers lines _ _ _ c.own_tensors.ensures
    (stored-leads (text_structure t) X c.args.workers lines _ _ _ t
    (record { shown = c.job_session.ensures; once = c.planned_once.ensures; below = c.below_dim.ensures; tables = c.same_tables.ensures })
    (text-planned t Y) (text_sound t c.soundness_fact.ensures) c.requires.bound c.requires.rises c.requires.within (text_made t Y) c.talk_script.ensures)
    (c.in-Closed.ensures.found ∙ ap (verdict (looked_up t)) c.dim-dim.ensures)
    (are_closed c.widened_relations.ensures t c.soundness_fact.ensures.graded (subst (Close (looked_up t)) c.dim-dim.ensures (c.in-Closed.ensures.closed refl)))

pub returns-in_default : goal.returns-in_default
returns-in_default g c =
    fails-leads c.args.tensors c.args.bound c.args.workers (lines_of (parted_of c.args.script)) _ _ _ c.own_tensors.ensures c.check.result
    (c.check.ensures.found ∙ ap (verdict (looked_up c.args.tensors)) c.dim-dim.ensures) c.in_default.not-Closed c.say_verdict.ensures
