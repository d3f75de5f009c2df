use Rattle.amp_terms.proofs.NamedLemmas.{named_in_plan}
use Rattle.amp_terms.proofs.filling.names_ranks.Goals as goal

pub returns : goal.returns
returns c = named_in_plan c.args.plan.now c.args.key.now c.args.pivot c.needs_first.ensures c.planned_fact.ensures c.requires.planned c.requires.pivot
