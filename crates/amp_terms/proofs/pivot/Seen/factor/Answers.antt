use Rattle.std.proofs.Common.{sym, ap, ◌∙◌}
use Rattle.amp_terms.specs.Tables.{value_of}
use Rattle.amp_terms.proofs.pivot.Seen.factor.Goals as goal

pub returns-in-Value-clause-factor : goal.returns-in-Value-clause-factor
unfolding value_of
returns-in-Value-clause-factor g c = c.of.ensures ∙ ap value_of (sym c.in-Value.is ∙ c.at.ensures.outcome)
