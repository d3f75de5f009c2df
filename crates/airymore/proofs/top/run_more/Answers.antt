use Rattle.airymore.proofs.Words.{causes, one_complete}
use Rattle.airymore.proofs.StatusLaw.{judged_more}
use Rattle.airymore.proofs.top.run_more.Goals as goal

pub returns : goal.returns
returns g c = record { answers = c.dispatch.ensures; causes = causes c.dispatch.ensures (judged_more _ _); complete = one_complete c.dispatch.ensures (judged_more _ _) }
