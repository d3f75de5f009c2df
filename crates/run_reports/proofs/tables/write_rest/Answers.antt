use Rattle.std.proofs.Common.{◌++◌, codes}
use Rattle.run_reports.proofs.Names.{count_text, plan_last, err_from_is_err_and}
use Rattle.run_reports.proofs.FormLemmas.{writes_then, writes_cut}
use Rattle.run_reports.proofs.tables.write_rest.Goals as goal

pub returns-in_err-write_count : goal.returns-in_err-write_count
returns-in_err-write_count g c =
    let p = err_from_is_err_and c.from_residual.result c.from_residual.ensures.1 in
    rw (p.1, p.2, ← c.edges.ensures) (writes_cut (count_text (codes "needs ") c.edges.result) (plan_last c.args.plan.now c.args.table.now ++ codes "solution\n") _ _ _ c.in_err-write_count.ensures)

pub returns : goal.returns
returns g c =
    rw (← c.edges.ensures) (writes_then (count_text (codes "needs ") c.edges.result) (plan_last c.args.plan.now c.args.table.now ++ codes "solution\n") _ _ _ _ c.write_end.result c.in_ok-write_count.ensures c.write_end.ensures)
