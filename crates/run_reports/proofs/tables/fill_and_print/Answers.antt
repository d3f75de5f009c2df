use Rattle.std.proofs.Common.{◌∙◌, ap, subst, sym}
use Rattle.run_reports.proofs.Names.{Planning, tensors_of, full_table, EndsOrWants, formed_cells}
use Rattle.run_reports.proofs.tables.fill_and_print.Goals as goal

pub check_and_print-requires-clause-full : goal.check_and_print-requires-clause-full
check_and_print-requires-clause-full g c κs within =
    c.in-Ok.ensures.table ∙ ap (λ (p : Planning). full_table (tensors_of p) p.bound) (sym c.in-Ok.ensures.plan)

pub returns-in-Ok : goal.returns-in-Ok
returns-in-Ok g c =
    subst (λ (p : Planning). EndsOrWants (formed_cells (g.F.Form.bytes c.args.form.now) p) (g.W.Sink.state c.args.out.now) (g.W.Sink.state c.check_and_print.new.out) c.check_and_print.result)
    c.in-Ok.ensures.plan c.check_and_print.ensures
