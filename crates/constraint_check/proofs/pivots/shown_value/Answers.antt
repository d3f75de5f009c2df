use Rattle.std.proofs.Common.{sym, ap, subst, ◌∙◌}
use Rattle.std.specs.Prelude.{IsSome}
use Rattle.amp_plan.specs.Plans.{tensors_of, keys_of, key_at, rank_at}
use Rattle.amp_terms.specs.Outcomes.{value_or_zero}
use Rattle.amp_terms.specs.Pivots.{number_at}
use Rattle.amp_terms.specs.Tables.{value_of}
use Rattle.constraint_check.specs.Pivots.{numbers_shown}
use Rattle.constraint_check.proofs.StepLemmas.{has_some, some_is}
use Rattle.constraint_check.proofs.pivots.shown_value.Goals as goal

pub unwrap-requires : goal.unwrap-requires
unwrap-requires g c = subst IsSome (sym (c.value.ensures ∙ ap value_of c.at.ensures.outcome)) (has_some _ (c.requires.shows.values c.args.rank c.requires.rank))

pub returns-clause-value : goal.returns-clause-value
unfolding numbers_shown number_at rank_at key_at keys_of
returns-clause-value g c =
    some_is _ c.unwrap.result (sym (c.value.ensures ∙ ap value_of c.at.ensures.outcome) ∙ c.unwrap.ensures)
    ∙ ap (λ r. value_or_zero (g.S.Seen.shown c.args.seen.now r)) (sym ((c.planned_once.ensures (tensors_of c.args.plan.now) c.args.plan.now.bound).once c.args.rank c.requires.rank))
