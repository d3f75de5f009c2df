use Rattle.run_reports.proofs.ReportLemmas.{ends_by}
use Rattle.airy_wait.specs.Asked.{keys_asked}
use Rattle.airy_wait.proofs.WaitLemmas.{of_cause, of_plan}
use Rattle.airy_wait.proofs.jobs.wait_stored.Goals as goal

pub returns-in-Ok : goal.returns-in-Ok
returns-in-Ok g c =
    rw (of_plan c.args.tensors c.args.bound (keys_asked c.args.job) c.in-Ok.plan c.in-Ok.ensures.plan c.in-Ok.ensures.within) c.wait_planned.ensures

pub returns-in-Err : goal.returns-in-Err
returns-in-Err g c =
    ends_by _ _ _ _ _ (of_cause c.args.tensors c.args.bound (keys_asked c.args.job) c.in-Err.refused.cause c.in-Err.ensures.cause) c.refuse_plan.ensures
