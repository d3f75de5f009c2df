use Rattle.std.proofs.Common.{◌∙◌, refl, ap, subst}
use Rattle.run_reports.proofs.Names.{Close, looked_up, verdict}
use Rattle.run_reports.proofs.TextLemmas.{are_closed}
use Rattle.airyrun.proofs.TextLemmas.{closed_ends, fails_ends}
use Rattle.airyrun.proofs.texts.print_closed.Goals as goal

pub returns-in-Closed : goal.returns-in-Closed
returns-in-Closed g c =
    closed_ends c.args.tensors c.args.bound _ _ _
    (record { text = record { jobs = record { unique = c.job_uniqueness.ensures; checked = c.job_checked.ensures; planned = c.planned_once.ensures }; own = c.own_tensors.ensures }; orders = c.no_orders.ensures }) c.soundness_fact.ensures c.requires.bound
    (c.in-Closed.ensures.found ∙ ap (verdict (looked_up c.args.tensors)) c.dim.ensures)
    (are_closed c.widened_relations.ensures c.args.tensors c.soundness_fact.ensures.graded (subst (Close (looked_up c.args.tensors)) c.dim.ensures (c.in-Closed.ensures.closed refl)))
    c.print_stored.ensures

pub returns-in_default : goal.returns-in_default
returns-in_default g c =
    fails_ends c.args.tensors c.args.bound _ _ _ c.own_tensors.ensures c.check.result
    (c.check.ensures.found ∙ ap (verdict (looked_up c.args.tensors)) c.dim.ensures) c.in_default.not-Closed c.say_verdict.ensures
