use Rattle.std.proofs.Common.{arith, sym, subst, ap, ◌<◌, ◌≡◌, ◌∙◌, length}
use Rattle.std.specs.Prelude.{slice_index}
use Rattle.airy_math.specs.Keys.{times}
use Rattle.airy_math.specs.Planned.{IsPlanned}
use Rattle.amp_plan.specs.Plans.{tensors_of, keys_of}
use Rattle.amp_terms.proofs.NamedLemmas.{rank_planned}
use Rattle.amp_terms.proofs.tests.value_at.Goals as goal
use Rattle.amp_plan.proofs.TestLemmas.{index_stands}

pub names_ranks-requires-clause-planned : goal.names_ranks-requires-clause-planned
names_ranks-requires-clause-planned c =
    let h : c.args.rank < length (keys_of c.args.plan.now) = omega (arith, c.len.ensures, c.if-rank-len.false) in
    subst (IsPlanned (tensors_of c.args.plan.now) c.args.plan.now.bound) (sym c.key-key.ensures) (rank_planned c.args.plan.now c.args.rank c.planned_fact.ensures h)

pub names_ranks-requires-clause-pivot : goal.names_ranks-requires-clause-pivot
names_ranks-requires-clause-pivot c =
    let h : c.args.place < length c.idx-2.result.now = omega (arith, ap length (c.idx-2.ensures ∙ sym c.idx.ensures), c.if-place-idx.false) in
    subst (λ l. 0 < times (slice_index c.idx-2.result.now c.args.place) l) c.idx-2.ensures (index_stands c.idx-2.result.now c.args.place h)

pub pivot_value-requires-clause-planned : goal.pivot_value-requires-clause-planned
pivot_value-requires-clause-planned c =
    let h : c.args.rank < length (keys_of c.args.plan.now) = omega (arith, c.len.ensures, c.if-rank-len.false) in
    subst (IsPlanned (tensors_of c.args.plan.now) c.args.plan.now.bound) (sym c.key-key.ensures) (rank_planned c.args.plan.now c.args.rank c.planned_fact.ensures h)

pub pivot_value-requires-clause-pivot : goal.pivot_value-requires-clause-pivot
pivot_value-requires-clause-pivot c =
    let h : c.args.place < length c.idx-2.result.now = omega (arith, ap length (c.idx-2.ensures ∙ sym c.idx.ensures), c.if-place-idx.false) in
    subst (λ l. 0 < times (slice_index c.idx-2.result.now c.args.place) l) c.idx-2.ensures (index_stands c.idx-2.result.now c.args.place h)
