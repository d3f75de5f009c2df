use Rattle.run_reports.proofs.FormLemmas.{rows_again}
use Rattle.run_reports.proofs.tables.print_stored.Goals as goal

pub returns : goal.returns
returns g c = rw (← rows_again c.args.tensors c.args.bound) c.print_formed.ensures
