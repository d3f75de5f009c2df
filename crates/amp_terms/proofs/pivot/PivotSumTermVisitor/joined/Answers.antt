use Rattle.std.proofs.Common.{ap, ap₂, ◌∙◌}
use Rattle.airy_math.specs.Obtained.{both_obtained, obtained_sum, ◌⊛◌}
use Rattle.amp_terms.specs.Pivots.{with_term, all_noted, number_at}
use Rattle.amp_plan.specs.Ranked.{ranks_of, obtained_at}
use Rattle.amp_terms.proofs.SummingLemmas.{same_summing}
use Rattle.amp_terms.proofs.pivot.PivotSumTermVisitor.joined.Goals as goal

pub returns-clause-step : goal.returns-clause-step
unfolding with_term all_noted ranks_of obtained_at number_at
returns-clause-step g c =
    let n = c.factor-factor.ensures in
    same_summing _ _ n.same_reference n.base n.same n.noted (c.add.ensures ∙ ap₂ (both_obtained obtained_sum) n.sum (c.long_joined.ensures ∙ ap (λ v. c.args.weight.now ⊛ v) n.factor))
