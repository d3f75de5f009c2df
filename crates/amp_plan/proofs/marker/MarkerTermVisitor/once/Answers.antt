use Rattle.std.proofs.Common.{◌∷◌, []}
use Rattle.amp_plan.proofs.Words.{ranks_of, marked_term}
use Rattle.amp_plan.proofs.MarkLemmas.{same_size}
use Rattle.amp_plan.proofs.marker.MarkerTermVisitor.once.Goals as goal

pub returns-clause-step : goal.returns-clause-step
unfolding marked_term ranks_of
returns-clause-step c = c.mark.ensures

pub returns-clause-stays : goal.returns-clause-stays
returns-clause-stays c = same_size c.args.self.now c.mark.new.self (c.args.rank ∷ []) c.mark.ensures
