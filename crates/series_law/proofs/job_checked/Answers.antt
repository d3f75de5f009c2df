use Rattle.series_law.proofs.JobCheckLaw.{job_checked}
use Rattle.series_law.proofs.job_checked.Goals as goal

pub returns : goal.returns
returns c = job_checked
