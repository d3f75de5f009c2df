use Rattle.std.proofs.Common.{arith, ap, subst, ◌<◌, length, slice_index}
use Rattle.amp_plan.proofs.Words.{times, remove, terms, tensors_of, rank_at, all_ranked}
use Rattle.amp_plan.proofs.TestLemmas.{index_stands, terms_allowed}
use Rattle.amp_plan.proofs.tests.walked.Goals as goal

pub walk_terms-requires-clause-pivot : goal.walk_terms-requires-clause-pivot
walk_terms-requires-clause-pivot c =
    let h : c.args.at < length c.idx.result.now = omega (arith, ap length c.idx.ensures, c.requires.at) in
    subst (λ l. 0 < times (slice_index c.idx.result.now c.args.at) l) c.idx.ensures (index_stands c.idx.result.now c.args.at h)

pub walk_terms-requires-clause-allowed : goal.walk_terms-requires-clause-allowed
walk_terms-requires-clause-allowed c = terms_allowed (λ r. Unit) (λ r. tt) (all_ranked (rank_at c.args.plan.now) (terms (tensors_of c.args.plan.now) (slice_index c.idx.result.now c.args.at) c.args.key.now.g (remove (slice_index c.idx.result.now c.args.at) c.args.key.now.idx)))
