use Rattle.std.proofs.Common.{sym, ap, subst, ◌∙◌, ◌<◌, ℕ, length}
use Rattle.std.specs.Prelude.{slice_index}
use Rattle.airy_math.specs.Keys.{head_or, times, Key, remove}
use Rattle.airy_math.specs.Planned.{IsPlanned}
use Rattle.airy_math.specs.Terms.{terms}
use Rattle.amp_plan.specs.Plans.{tensors_of, keys_of}
use Rattle.amp_plan.specs.Ranked.{AreAllowed}
use Rattle.amp_terms.specs.Outcomes.{ranks_named}
use Rattle.amp_terms.specs.Pivots.{pivot_outcome}
use Rattle.amp_terms.specs.Tables.{shown_in, IsFilled}
use Rattle.amp_terms.proofs.NamedLemmas.{named_below, least_stands, rank_planned}
use Rattle.amp_terms.proofs.filling.outcome_at.Goals as goal
use Rattle.index_lists.proofs.ListWalkLemmas.{head-index}

pub pivot_value-requires-clause-planned : goal.pivot_value-requires-clause-planned
pivot_value-requires-clause-planned c =
    subst (IsPlanned (tensors_of c.args.plan.now) c.args.plan.now.bound) (sym c.key-key.ensures) (rank_planned c.args.plan.now c.args.rank c.planned_fact.ensures c.requires.rank)

pub pivot_value-requires-clause-pivot : goal.pivot_value-requires-clause-pivot
pivot_value-requires-clause-pivot c =
    let p = c.args.plan.now in
    let key = c.key-key.result in
    let h = subst (IsPlanned (tensors_of p) p.bound) (sym c.key-key.ensures) (rank_planned p c.args.rank c.planned_fact.ensures c.requires.rank) in
    let first = head-index key.idx ∙ ap (λ l. slice_index l 0) (sym c.idx.ensures) in
    subst (λ i. 0 < times i key.idx) first (least_stands (tensors_of p) p.bound key h)

pub pivot_value-requires-clause-seen : goal.pivot_value-requires-clause-seen
unfolding IsFilled
pivot_value-requires-clause-seen c =
    let p = c.args.plan.now in
    let key = c.key-key.result in
    let P = λ (q : ℕ). q < length c.args.table.now in
    let first = head-index key.idx ∙ ap (λ l. slice_index l 0) (sym c.idx.ensures) in
    let named = named_below P p c.args.rank c.needs_fact.ensures c.requires.rank (λ q low. (c.requires.lower q low).0) in
    let here = subst (λ (k : Key). AreAllowed P (ranks_named (keys_of p) (terms (tensors_of p) (head_or 0 k.idx) k.g (remove (head_or 0 k.idx) k.idx)))) (sym c.key-key.ensures) named in
    subst (λ i. AreAllowed P (ranks_named (keys_of p) (terms (tensors_of p) i key.g (remove i key.idx)))) first here

pub returns : goal.returns
returns c =
    let p = c.args.plan.now in
    let key = c.key-key.result in
    let first = head-index key.idx ∙ ap (λ l. slice_index l 0) (sym c.idx.ensures) in
    c.pivot_value.ensures.outcome
    ∙ ap (pivot_outcome (tensors_of p) (keys_of p) (shown_in c.args.table.now) key) (sym first)
    ∙ ap (λ (k : Key). pivot_outcome (tensors_of p) (keys_of p) (shown_in c.args.table.now) k (head_or 0 k.idx)) c.key-key.ensures
