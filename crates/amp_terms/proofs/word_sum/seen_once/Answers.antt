use Rattle.airy_math.specs.Rational.{whole}
use Rattle.amp_terms.proofs.SummingLemmas.{once_term}
use Rattle.amp_terms.proofs.word_sum.seen_once.Goals as goal

pub returns-clause-term : goal.returns-clause-term
returns-clause-term g c = once_term (g.S.Seen.shown c.args.seen.now) (whole c.args.times) c.args.v c.args.rank c.in_ok-x.x c.word_once.result c.in_ok-x.ensures.word c.word_once.ensures
