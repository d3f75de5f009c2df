use Rattle.std.proofs.Common.{◌∙◌, ap, length, List, Option, codes}
use Rattle.run_reports.proofs.Names.{Outcome, count_text, plan_rest, err_from_is_err_and}
use Rattle.run_reports.proofs.ReportLemmas.{full-length}
use Rattle.run_reports.proofs.FormLemmas.{summary_is, writes_then, writes_cut}
use Rattle.run_reports.proofs.tables.write_summary.Goals as goal

pub returns-in_err-write_count : goal.returns-in_err-write_count
returns-in_err-write_count g c =
    let p = err_from_is_err_and c.from_residual.result c.from_residual.ensures.1 in
    rw (p.1, p.2, summary_is c.args.plan.now c.args.table.now c.requires, ← c.len.ensures)
    (writes_cut (count_text (codes "cells ") c.len.result) (plan_rest c.args.plan.now c.args.table.now) _ _ _ c.in_err-write_count.ensures)

pub returns : goal.returns
returns g c =
    rw (summary_is c.args.plan.now c.args.table.now c.requires, ← c.len.ensures)
    (writes_then (count_text (codes "cells ") c.len.result) (plan_rest c.args.plan.now c.args.table.now) _ _ _ _ c.write_rest.result c.in_ok-write_count.ensures c.write_rest.ensures)

pub write_rest-requires : goal.write_rest-requires
write_rest-requires g c = ap (λ (t : List (Option Outcome)). length t) c.requires ∙ full-length c.args.plan.now
