use Rattle.std.proofs.Common.{ap, ◌∙◌}
use Rattle.amp_plan.specs.Plans.{tensors_of, keys_of, rank_at}
use Rattle.airy_math.specs.Ranks.{place_of}
use Rattle.amp_terms.specs.Tables.{value_of}
use Rattle.series_law.proofs.PivotsLaw.{outcome_shown, value_none}
use Rattle.constraint_check.specs.Pivots.{numbers_shown}
use Rattle.constraint_check.proofs.StepLemmas.{allowed_within}
use Rattle.constraint_check.proofs.pivots.pivot_sum.Goals as goal

pub pivot_value-requires-clause-seen : goal.pivot_value-requires-clause-seen
pivot_value-requires-clause-seen g c = allowed_within _ _ _ c.requires.shows.within c.names_ranks.ensures

pub returns-clause-sum : goal.returns-clause-sum
unfolding numbers_shown rank_at place_of keys_of
returns-clause-sum g c =
    c.value.ensures ∙ ap value_of (c.pivot_value.ensures.outcome ∙ outcome_shown _ _ c.requires.shows.values (tensors_of c.args.plan.now) (keys_of c.args.plan.now) c.args.key.now c.args.pivot c.names_ranks.ensures)
    ∙ value_none _
