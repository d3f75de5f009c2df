use Rattle.std.proofs.Common.{◌≡◌, ℕ, ◌<◌, ◌≤◌, ◌+◌, arith, ap, ◌∙◌, length}
use Rattle.airy_math.specs.Planned.{planned}
use Rattle.airy_math.specs.NeedsFirst.{NeedsLaw}
use Rattle.airy_math.specs.Ranks.{RanksLaw, ListsPlanned, place_of}
use Rattle.airy_math.specs.Terms.{terms, needs, StandsIn}
use Rattle.amp_plan.specs.Ranked.{AreAllowed}
use Rattle.amp_terms.specs.Outcomes.{ranks_named}
use Rattle.amp_terms.specs.Pivots.{listed}
use Rattle.amp_terms.proofs.NamedLemmas.{rank_planned, allowed_places}
use Rattle.amp_terms.proofs.OutcomeLemmas.{outcome_known, shown-below}
use Rattle.cell_words.proofs.Names.{Key, head_or, remove, euler_of, AreNeeds, Planning, tensors_of, keys_of, key_at, cells, all_outcomes, outcome_at, cells_to}
use Rattle.cell_words.proofs.PlanFacts.{least}
use Rattle.cell_words.proofs.levels.level_outcome.Goals as goal

-- what a rank of the next level names stands in the levels before
before : (p : Planning) (k r : ℕ) → NeedsLaw → RanksLaw → ListsPlanned (tensors_of p) p.bound → r < cells p → k ≤ p.bound → euler_of (key_at p r) ≤ k + 1 → (m : Key) → StandsIn m (needs (tensors_of p) (key_at p r)) → place_of m (planned (tensors_of p) p.bound) < cells_to p k
unfolding cells_to keys_of
before p k r first ordered lists low within level m named =
    let one = (first (tensors_of p) p.bound (key_at p r) (rank_planned p r lists low)).needs m named in
    ((ordered (tensors_of p) k).ends p.bound within m one.planned).1 (let less = one.smaller in omega arith)

-- all ranks that it names have P, where those of the levels before have
all_named : (P : ℕ → Type 0) (p : Planning) (k r : ℕ) → NeedsLaw → RanksLaw → ListsPlanned (tensors_of p) p.bound → AreNeeds (tensors_of p) p.bound → r < cells p → k ≤ p.bound → euler_of (key_at p r) ≤ k + 1
    → ((q : ℕ) → q < r → q < cells_to p k → P q) → (let key = key_at p r in AreAllowed P (ranks_named (keys_of p) (terms (tensors_of p) (head_or 0 key.idx) key.g (remove (head_or 0 key.idx) key.idx))))
unfolding keys_of key_at needs
all_named P p k r first ordered lists are low within level h =
    let key = key_at p r in
    allowed_places P (planned (tensors_of p) p.bound) (terms (tensors_of p) (head_or 0 key.idx) key.g (remove (head_or 0 key.idx) key.idx))
    (λ m s. h (place_of m (planned (tensors_of p) p.bound)) (are.lower r (place_of m (planned (tensors_of p) p.bound)) low (are.all r m low s)) (before p k r first ordered lists low within level m s))

pub pivot_value-requires : goal.pivot_value-requires
pivot_value-requires c =
    let p = c.args.plan.now in let r : ℕ = c.args.rank in
    let P : ℕ → Type 0 = λ q. q < length c.args.done.now in
    let named = all_named P p c.args.published r c.needs_first.ensures c.ranks.ensures c.planned_fact.ensures c.needs_fact.ensures c.requires.rank c.requires.level.0 c.requires.level.1 (λ q _ low. omega (arith, low, c.requires.enough)) in
    let k = least P p r c.key-key.result _ c.planned_fact.ensures c.requires.rank c.key-key.ensures c.idx.ensures named in
    record { planned = k.planned; pivot = k.pivot_in; seen = k.seen }

pub returns : goal.returns
unfolding all_outcomes
returns c =
    let p = c.args.plan.now in let r : ℕ = c.args.rank in let n : ℕ = length c.args.done.now in
    let shown = listed c.args.done.now in
    let P : ℕ → Type 0 = λ q. (q < r) × (shown q ≡ outcome_at p q) in
    let named = all_named P p c.args.published r c.needs_first.ensures c.ranks.ensures c.planned_fact.ensures c.needs_fact.ensures c.requires.rank c.requires.level.0 c.requires.level.1
    (λ q less low. (less, ap (λ l. listed l q) c.requires.done ∙ shown-below p n q (omega (arith, low, c.requires.enough)))) in
    c.pivot_value.ensures.outcome ∙ (least P p r c.key-key.result _ c.planned_fact.ensures c.requires.rank c.key-key.ensures c.idx.ensures named).value shown ∙ outcome_known p r shown c.requires.rank named
