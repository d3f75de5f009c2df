use Rattle.run_reports.proofs.CauseLemmas.{causes}
use Rattle.run_reports.proofs.JobLemmas.{one_complete}
use Rattle.airy_wait.proofs.StatusLaw.{judged_wait}
use Rattle.airy_wait.proofs.top.run_waiting.Goals as goal

pub returns : goal.returns
returns g c = record { answers = c.dispatch.ensures; causes = causes c.dispatch.ensures (judged_wait _ _); complete = one_complete c.dispatch.ensures (judged_wait _ _) }
