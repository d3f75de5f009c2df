use Rattle.std.proofs.Common.{◌∙◌, ap, length, List, Option, arith, inl, refl}
use Rattle.run_reports.proofs.Names.{Outcome, Overflow, Orders, checked_report, NotValue, Solution}
use Rattle.amp_plan.specs.Plans.{key_at}
use Rattle.constraint_check.specs.Ends.{Tells}
use Rattle.run_reports.proofs.ReportLemmas.{cells_at, full-length}
use Rattle.run_reports.proofs.FormLemmas.{cells_refused, cells_whole, values_there}
use Rattle.run_reports.proofs.tables.check_and_print.Goals as goal

pub returns-in-NotValue : goal.returns-in-NotValue
unfolding checked_report key_at Tells
returns-in-NotValue g c =
    let told = c.in-NotValue.ensures.verdict in
    inl (rw (cells_refused (g.F.Form.bytes c.args.form.now) c.args.plan.now _ (cells_at c.args.plan.now c.args.table.now (NotValue told.0) c.requires.full told.1) (λ e. omega (arith, e)), ← told.3) c.refuse_key.ensures)

pub returns-in-Over : goal.returns-in-Over
unfolding checked_report Tells
returns-in-Over g c =
    let end = c.in-Over in
    inl (rw (cells_refused (g.F.Form.bytes c.args.form.now) c.args.plan.now _ (cells_at c.args.plan.now c.args.table.now (Overflow end.key end.pivot) c.requires.full end.ensures.verdict) (λ e. omega (arith, e))) c.refuse_pivot.ensures)

pub returns-in-Orders : goal.returns-in-Orders
unfolding checked_report Tells
returns-in-Orders g c =
    let end = c.in-Orders in
    inl (rw (cells_refused (g.F.Form.bytes c.args.form.now) c.args.plan.now _ (cells_at c.args.plan.now c.args.table.now (Orders end.key end.first end.v1 end.second end.v2) c.requires.full end.ensures.verdict) (λ e. omega (arith, e)))
    c.refuse_orders.ensures)

pub returns-in-Solution : goal.returns-in-Solution
unfolding checked_report Tells
returns-in-Solution g c =
    rw (cells_whole (g.F.Form.bytes c.args.form.now) c.args.plan.now _ (cells_at c.args.plan.now c.args.table.now Solution c.requires.full c.in-Solution.ensures.verdict) refl) c.print.ensures

pub print-requires-clause-values : goal.print-requires-clause-values
unfolding Tells
print-requires-clause-values g c = values_there c.args.plan.now c.args.table.now c.requires.full c.in-Solution.ensures.verdict

pub check_crew-requires-clause-len : goal.check_crew-requires-clause-len
check_crew-requires-clause-len g c κs within = ap (λ (t : List (Option Outcome)). length t) c.requires.full ∙ full-length c.args.plan.now
