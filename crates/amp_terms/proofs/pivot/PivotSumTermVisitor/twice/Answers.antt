use Rattle.std.proofs.Common.{ap, ap₂, ◌∙◌, Some}
use Rattle.airy_math.specs.Rational.{whole}
use Rattle.airy_math.specs.Obtained.{both_obtained, obtained_sum, ◌⊛◌}
use Rattle.amp_terms.specs.Outcomes.{value_or_zero}
use Rattle.amp_terms.specs.Pivots.{with_term, all_noted, noted, number_at}
use Rattle.amp_plan.specs.Ranked.{ranks_of, obtained_at}
use Rattle.amp_terms.proofs.SummingLemmas.{same_summing}
use Rattle.amp_terms.proofs.pivot.PivotSumTermVisitor.twice.Goals as goal

pub returns-clause-step : goal.returns-clause-step
unfolding with_term all_noted ranks_of obtained_at number_at
returns-clause-step g c =
    let f = c.factor-first.ensures in
    let s = c.factor-second.ensures in
    let right = s.factor ∙ ap (λ o. Some (value_or_zero (o c.args.right))) f.same in
    same_summing _ _ (s.same_reference ∙ f.same_reference) (s.base ∙ f.base) (s.same ∙ f.same)
    (s.noted ∙ ap₂ (λ b o. noted b c.args.right (o c.args.right)) f.noted f.same)
    (c.add.ensures ∙ ap₂ (both_obtained obtained_sum) (s.sum ∙ f.sum) (c.long_twice.ensures ∙ ap₂ (λ x y. c.args.weight.now ⊛ Some (whole c.args.ways) ⊛ x ⊛ y) f.factor right))
