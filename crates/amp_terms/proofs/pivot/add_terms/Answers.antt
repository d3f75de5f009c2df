use Rattle.std.proofs.Common.{ap, ◌∙◌}
use Rattle.amp_terms.specs.Outcomes.{outcome_from}
use Rattle.airy_math.specs.Keys.{remove}
use Rattle.airy_math.specs.Terms.{terms}
use Rattle.amp_plan.specs.Plans.{tensors_of, rank_at}
use Rattle.amp_plan.specs.Ranked.{all_ranked}
use Rattle.amp_terms.proofs.SummingLemmas.{after-reader, after-base, after-shown, summed}
use Rattle.amp_terms.proofs.pivot.add_terms.Goals as goal

pub returns-clause-same_reference : goal.returns-clause-same_reference
returns-clause-same_reference g c = ap (λ s. s.reader) c.walk_terms.ensures.after ∙ after-reader _ (all_ranked (rank_at c.args.plan.now) (terms (tensors_of c.args.plan.now) c.args.pivot c.args.key.now.g (remove c.args.pivot c.args.key.now.idx)))

pub returns-clause-same : goal.returns-clause-same
returns-clause-same g c = ap (λ s. s.shown) c.walk_terms.ensures.after ∙ after-shown _ (all_ranked (rank_at c.args.plan.now) (terms (tensors_of c.args.plan.now) c.args.pivot c.args.key.now.g (remove c.args.pivot c.args.key.now.idx)))

pub returns-clause-base : goal.returns-clause-base
returns-clause-base g c = ap (λ s. s.base) c.walk_terms.ensures.after ∙ after-base _ (all_ranked (rank_at c.args.plan.now) (terms (tensors_of c.args.plan.now) c.args.pivot c.args.key.now.g (remove c.args.pivot c.args.key.now.idx)))

pub returns-clause-outcome : goal.returns-clause-outcome
returns-clause-outcome g c =
    ap (λ s. outcome_from s.blocked s.sum) c.walk_terms.ensures.after
    ∙ summed c.args.plan.now c.args.key.now c.args.pivot _ c.requires.unblocked c.requires.zero
