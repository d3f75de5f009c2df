use Rattle.std.proofs.Common.{◌∙◌, ap, subst, refl}
use Rattle.run_reports.proofs.Names.{Close, looked_up, verdict, text_structure}
use Rattle.run_reports.proofs.TextLemmas.{are_closed, text_sound}
use Rattle.session_law.proofs.SessionLemmas.{SessionLaws, text-planned}
use Rattle.airy_wait.specs.Asked.{keys_asked}
use Rattle.airy_wait.specs.Waiting.{closed_waiting}
use Rattle.airy_wait.proofs.WaitLemmas.{closed-leads, closed-report, fails-leads, stored-leads}
use Rattle.airy_wait.proofs.jobs.wait_closed.Goals as goal
use Rattle.run_reports.proofs.StructureLemmas.{text_made}

pub returns-in-Closed : goal.returns-in-Closed
returns-in-Closed g c =
    let t = c.args.tensors in let X = c.args.bound in let keys = keys_asked c.args.job in
    let laws : SessionLaws = record { shown = c.job_session.ensures; once = c.planned_once.ensures; below = c.below_dim.ensures; tables = c.same_tables.ensures } in
    let found = c.in-Closed.ensures.found ∙ ap (verdict (looked_up t)) c.dim-dim.ensures in
    closed-leads t X keys _ _ _ c.own_tensors.ensures
    (stored-leads (text_structure t) X keys _ _ _ t (closed_waiting X keys t) laws (text_sound t c.soundness_fact.ensures) c.requires.some c.requires.within
    (text_made t X) (text-planned t X) (closed-report t X keys found) c.wait_stored.ensures)
    (are_closed c.widened_relations.ensures t c.soundness_fact.ensures.graded (subst (Close (looked_up t)) c.dim-dim.ensures (c.in-Closed.ensures.closed refl)))

pub returns-in_default : goal.returns-in_default
returns-in_default g c =
    fails-leads c.args.tensors c.args.bound (keys_asked c.args.job) _ _ _ c.own_tensors.ensures c.check.result
    (c.check.ensures.found ∙ ap (verdict (looked_up c.args.tensors)) c.dim-dim.ensures) c.in_default.not-Closed c.say_verdict.ensures
