use Rattle.std.proofs.Common.{refl}
use Rattle.amp_terms.proofs.SummingLemmas.{with_found}
use Rattle.amp_terms.proofs.word_sum.WordSumTermVisitor.twice.Goals as goal

pub returns-in-Some-clause-step : goal.returns-in-Some-clause-step
returns-in-Some-clause-step g c = let s = c.seen_twice.ensures in with_found _ _ _ c.in-Some.term c.in-Some.ensures.term refl s.base s.same refl c.add.ensures
