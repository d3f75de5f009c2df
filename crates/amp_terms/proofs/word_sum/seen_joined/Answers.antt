use Rattle.amp_terms.proofs.SummingLemmas.{joined_term}
use Rattle.amp_terms.proofs.word_sum.seen_joined.Goals as goal

pub returns-clause-term : goal.returns-clause-term
returns-clause-term g c = joined_term (g.S.Seen.shown c.args.seen.now) c.args.weight.now c.args.rank c.in_ok-x.x c.word_joined.result c.in_ok-x.ensures.word c.word_joined.ensures
