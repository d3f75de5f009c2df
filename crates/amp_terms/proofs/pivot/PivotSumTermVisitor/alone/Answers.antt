use Rattle.std.proofs.Common.{refl, ap, ◌∙◌}
use Rattle.airy_math.specs.Obtained.{both_obtained, obtained_sum}
use Rattle.amp_terms.specs.Pivots.{with_term, all_noted}
use Rattle.amp_plan.specs.Ranked.{ranks_of, obtained_at}
use Rattle.amp_terms.proofs.SummingLemmas.{same_summing}
use Rattle.amp_terms.proofs.pivot.PivotSumTermVisitor.alone.Goals as goal

pub returns-clause-step : goal.returns-clause-step
unfolding with_term all_noted ranks_of obtained_at
returns-clause-step g c = same_summing _ _ refl refl refl refl (c.add.ensures ∙ ap (both_obtained obtained_sum c.args.self.now.sum) c.of.ensures)
