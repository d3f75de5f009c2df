use Rattle.std.proofs.Common.{ap, sym, ◌∙◌}
use Rattle.airy_math.specs.Rational.{whole}
use Rattle.amp_terms.proofs.SummingLemmas.{twice_term}
use Rattle.amp_terms.proofs.word_sum.seen_twice.Goals as goal

pub returns-clause-term : goal.returns-clause-term
returns-clause-term g c =
    let right = sym (ap (λ s. s c.args.right) c.word.ensures.same) ∙ c.in_ok-y.ensures.word in
    twice_term (g.S.Seen.shown c.args.seen.now) c.args.weight.now (whole c.args.ways) c.args.left c.args.right c.in_ok-x.x c.in_ok-y.y c.word_twice.result c.in_ok-x.ensures.word right c.word_twice.ensures
