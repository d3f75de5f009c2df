use Rattle.run_reports.proofs.StepLaw.{table_steps}
use Rattle.airyrun.proofs.laws.table_steps.Goals as goal

pub returns : goal.returns
returns c = table_steps
