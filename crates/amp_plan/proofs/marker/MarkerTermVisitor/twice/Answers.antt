use Rattle.std.proofs.Common.{ap, ◌∙◌, ◌∷◌, []}
use Rattle.amp_plan.proofs.Words.{ranks_of, marked, marked_term}
use Rattle.amp_plan.proofs.MarkLemmas.{same_size, marked-append}
use Rattle.amp_plan.proofs.marker.MarkerTermVisitor.twice.Goals as goal

pub mark-requires-2 : goal.mark-requires-2
mark-requires-2 c = (same_size c.args.self.now c.mark.new.self (c.args.left ∷ []) c.mark.ensures c.args.right).1 c.requires.right

pub returns-clause-step : goal.returns-clause-step
unfolding marked_term ranks_of
returns-clause-step c = c.mark-2.ensures ∙ ap (λ m. marked m (c.args.right ∷ [])) c.mark.ensures ∙ marked-append c.args.self.now (c.args.left ∷ []) (c.args.right ∷ [])

pub returns-clause-stays : goal.returns-clause-stays
returns-clause-stays c = same_size c.args.self.now c.mark-2.new.self (c.args.left ∷ c.args.right ∷ []) (c.mark-2.ensures ∙ ap (λ m. marked m (c.args.right ∷ [])) c.mark.ensures ∙ marked-append c.args.self.now (c.args.left ∷ []) (c.args.right ∷ []))
