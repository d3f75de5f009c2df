use Rattle.std.proofs.Common.{◌∙◌, refl, ap, subst}
use Rattle.airymore.proofs.Words.{Close, looked_up, verdict, are_closed}
use Rattle.airymore.proofs.DocumentLemmas.{closed_document, fails_document}
use Rattle.airymore.proofs.documents.write_closed.Goals as goal

pub returns-in-Closed : goal.returns-in-Closed
returns-in-Closed g c =
    closed_document c.args.tensors c.args.bound _ _ _
    (record { jobs = record { unique = c.job_uniqueness.ensures; checked = c.job_checked.ensures; planned = c.planned_once.ensures }; own = c.own_tensors.ensures; orders = c.no_orders.ensures }) c.soundness_fact.ensures c.requires.bound
    (c.in-Closed.ensures.found ∙ ap (verdict (looked_up c.args.tensors)) c.dim.ensures)
    (are_closed c.widened_relations.ensures c.args.tensors c.soundness_fact.ensures.graded (subst (Close (looked_up c.args.tensors)) c.dim.ensures (c.in-Closed.ensures.closed refl)))
    c.write_text.ensures

pub returns-in_default : goal.returns-in_default
returns-in_default g c =
    fails_document c.args.tensors c.args.bound _ _ _ c.own_tensors.ensures c.check.result
    (c.check.ensures.found ∙ ap (verdict (looked_up c.args.tensors)) c.dim.ensures) c.in_default.not-Closed c.say_verdict.ensures
