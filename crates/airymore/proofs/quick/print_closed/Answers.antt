use Rattle.std.proofs.Common.{◌∙◌, refl, ap, subst}
use Rattle.airymore.proofs.Words.{Close, looked_up, verdict, are_closed}
use Rattle.airymore.proofs.QuickLemmas.{quick_ends, quick_fails}
use Rattle.airymore.proofs.quick.print_closed.Goals as goal

pub print_planned-requires-clause-close : goal.print_planned-requires-clause-close
print_planned-requires-clause-close g c κs within = subst (Close (looked_up c.args.tensors)) c.dim.ensures (c.in-Closed.ensures.closed refl)

pub returns-in-Closed : goal.returns-in-Closed
returns-in-Closed g c =
    quick_ends c.args.tensors c.args.bound _ _ _
    (record { unique = c.job_uniqueness.ensures; solution = c.job_solution.ensures; planned = c.planned_once.ensures; pivots = c.every_pivot.ensures; own = c.own_tensors.ensures })
    c.soundness_fact.ensures c.requires.bound (c.in-Closed.ensures.found ∙ ap (verdict (looked_up c.args.tensors)) c.dim.ensures)
    (are_closed c.widened_relations.ensures c.args.tensors c.soundness_fact.ensures.graded (subst (Close (looked_up c.args.tensors)) c.dim.ensures (c.in-Closed.ensures.closed refl)))
    c.print_planned.ensures

pub returns-in_default : goal.returns-in_default
returns-in_default g c =
    quick_fails c.args.tensors c.args.bound _ _ _ c.own_tensors.ensures c.check.result
    (c.check.ensures.found ∙ ap (verdict (looked_up c.args.tensors)) c.dim.ensures) c.in_default.not-Closed c.say_verdict.ensures
