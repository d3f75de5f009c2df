use Rattle.std.proofs.Common.{sym, subst, ◌∙◌, ◌≡◌, get_or, None, IfSome}
use Rattle.amp_terms.specs.Tables.{shown_in, value_at}
use Rattle.amp_terms.proofs.TableLemmas.{shown-value, shown-whether}
use Rattle.amp_terms.proofs.shown.TableOutcomesSeen.factor.Goals as goal

pub returns-clause-factor : goal.returns-clause-factor
unfolding shown_in value_at
returns-clause-factor c = subst (λ v. IfSome c.factor.result (λ x. x ≡ v)) (sym (shown-value (get_or c.args.self.now.table.now c.args.rank None))) c.factor.ensures.factor

pub returns-clause-whether : goal.returns-clause-whether
unfolding shown_in
returns-clause-whether c = c.factor.ensures.whether ∙ sym (shown-whether (get_or c.args.self.now.table.now c.args.rank None))
