use Rattle.run_reports.proofs.Names.{err_from_is_err_and}
use Rattle.run_reports.proofs.FormLemmas.{writes_then, writes_cut}
use Rattle.run_reports.proofs.tables.write_end.Goals as goal

pub returns-in_err-write_last : goal.returns-in_err-write_last
returns-in_err-write_last g c =
    let p = err_from_is_err_and c.from_residual.result c.from_residual.ensures.1 in
    rw (p.1, p.2) (writes_cut _ _ _ _ _ c.in_err-write_last.ensures)

pub returns : goal.returns
returns g c = writes_then _ _ _ _ _ _ c.write_all.result c.in_ok-write_last.ensures c.write_all.ensures
