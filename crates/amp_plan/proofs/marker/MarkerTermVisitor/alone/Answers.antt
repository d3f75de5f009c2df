use Rattle.std.proofs.Common.{refl}
use Rattle.amp_plan.proofs.Words.{ranks_of, marked, marked_term, with_all_new}
use Rattle.amp_plan.proofs.marker.MarkerTermVisitor.alone.Goals as goal

pub returns-clause-step : goal.returns-clause-step
unfolding marked marked_term with_all_new ranks_of
returns-clause-step c = refl
