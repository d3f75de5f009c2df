use Rattle.run_reports.proofs.ReportLemmas.{ends_by}
use Rattle.run_reports.proofs.FormLemmas.{formed_of_plan, formed_of_cause}
use Rattle.run_reports.proofs.tables.print_formed.Goals as goal

pub returns-in-Ok : goal.returns-in-Ok
returns-in-Ok g c = rw (formed_of_plan (g.F.Form.bytes c.args.form.now) c.args.tensors c.args.bound c.in-Ok.plan c.in-Ok.ensures.plan c.in-Ok.ensures.within) c.fill_and_print.ensures

pub returns-in-Err : goal.returns-in-Err
returns-in-Err g c = ends_by _ _ _ _ _ (formed_of_cause (g.F.Form.bytes c.args.form.now) c.args.tensors c.args.bound c.in-Err.refused.cause c.in-Err.ensures.cause) c.refuse_plan.ensures
