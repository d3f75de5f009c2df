use Rattle.std.proofs.Common.{◌∙◌, ap, inl, length, List, Option}
use Rattle.run_reports.proofs.Names.{Outcome}
use Rattle.run_reports.proofs.ReportLemmas.{full-length}
use Rattle.run_reports.proofs.tables.RowsForm.print.Goals as goal

pub print_table-requires : goal.print_table-requires
print_table-requires g c = ap (λ (t : List (Option Outcome)). length t) c.requires.full ∙ full-length c.args.plan.now

pub returns : goal.returns
returns g c = inl (rw (← c.requires.full) c.print_table.ensures)
