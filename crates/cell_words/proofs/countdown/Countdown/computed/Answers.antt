use Rattle.std.proofs.Common.{ltb, lt-ltb, ◌≡◌, ◌∙◌, ◌<◌, ℕ, false, [], refl}
use Rattle.amp_terms.proofs.OutcomeLemmas.{outcome_known}
use Rattle.cell_words.proofs.Names.{Over, Planning, act_of, Known, cells, outcome_at, lower_outcomes, HasToken, view_of, when}
use Rattle.cell_words.proofs.SeatLemmas.{needs_known}
use Rattle.cell_words.proofs.PlanFacts.{named_needs, least}
use Rattle.cell_words.proofs.countdown.Countdown.computed.Goals as goal

pub pivot_value-requires : goal.pivot_value-requires
pivot_value-requires c =
    let b = c.args.self.now in let s = c.args.seat.now in let p = b.base.plan in let r : ℕ = c.args.rank in let act = c.requires.act in
    let P : ℕ → Type 0 = λ k. HasToken b s.place × Known (view_of s) k × (k < r) × (r < cells p) in
    let named = named_needs P p r c.needs_fact.ensures act.low (λ q e l. (act.token, needs_known b s (act_of r 0 false 0 []) act refl q e, l, act.low)) in
    let k = least P p r c.key-key.result _ c.planned_fact.ensures act.low c.key-key.ensures c.idx.ensures named in
    record { planned = k.planned; pivot = k.pivot_in; seen = k.seen }

shown_lower : (p : Planning) (r q : ℕ) → q < r → lower_outcomes p r q ≡ outcome_at p q
unfolding lower_outcomes
shown_lower p r q l = when (ltb q r) (outcome_at p q) Over (lt-ltb q r l)

pub returns-clause-outcome : goal.returns-clause-outcome
returns-clause-outcome c =
    let p = c.args.self.now.base.plan in let r : ℕ = c.args.rank in let low = c.requires.act.low in
    let shown = lower_outcomes p r in
    let P : ℕ → Type 0 = λ q. (q < r) × (shown q ≡ outcome_at p q) in
    let named = named_needs P p r c.needs_fact.ensures low (λ q e l. (l, shown_lower p r q l)) in
    c.pivot_value.ensures.outcome ∙ (least P p r c.key-key.result _ c.planned_fact.ensures low c.key-key.ensures c.idx.ensures named).value shown ∙ outcome_known p r shown low named
