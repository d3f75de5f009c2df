use Rattle.airyrun.proofs.StatusLaw.{one_status, one_report}
use Rattle.airyrun.proofs.laws.meant_is_one.Goals as goal

pub returns-clause-status : goal.returns-clause-status
returns-clause-status c = one_status

pub returns-clause-report : goal.returns-clause-report
returns-clause-report c = one_report
