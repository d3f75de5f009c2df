use Rattle.std.proofs.Common.{◌≡◌, ℕ, ◌<◌, arith, refl, sym, ap, ◌∙◌, subst}
use Rattle.run_reports.proofs.Names.{Key, ListsPlanned, Planning, tensors_of, place_in, cells, outcome_at}
use Rattle.airy_index.specs.Fields.{IsKey}
use Rattle.amp_plan.specs.declared.place.Place.TheVariants as place
use Rattle.amp_plan.proofs.PlaceLemmas.{rank_within}
use Rattle.amp_terms.proofs.BlockedLemmas.{blocked-below}
use Rattle.ask_seats.specs.Counts.{Knows}
use Rattle.ask_seats.specs.Sessions.{told_at, is_rank}
use Rattle.ask_seats.specs.Asks.{reply_at}
use Rattle.airy_wait.specs.Waits.{told_reply}
use Rattle.airy_wait.proofs.ToldLemmas.{told_at_place, told_outcome, knows_rank, knows_none}
use Rattle.airy_wait.proofs.waits.ask_wait.Goals as goal
use Rattle.ask_seats.proofs.PlaceLemmas.{no_idle, within}

pub look_wait-requires-clause-rank : goal.look_wait-requires-clause-rank
look_wait-requires-clause-rank g c = within _ c.plan-plan.result.now c.args.key.now c.in-At.rank c.plan-plan.ensures c.planned_fact.ensures c.validity_fact.ensures (sym c.rank_of.ensures ∙ c.in-At.is)

pub tell-requires : goal.tell-requires
tell-requires g c = λ q blocked.
    let p = c.plan-plan.result.now in
    let low = rank_within p c.args.key.now c.in-At.rank c.planned_fact.ensures c.validity_fact.ensures (sym c.rank_of.ensures ∙ c.in-At.is) in
    let lower = blocked-below p c.in-At.rank q c.needs_fact.ensures low (ap (λ s. outcome_at s c.in-At.rank) c.plan-plan.ensures ∙ sym c.look_wait.ensures.outcome ∙ blocked) in
    omega (arith, low, lower)

pub returns-in-At-clause-idle : goal.returns-in-At-clause-idle
returns-in-At-clause-idle g c = λ f. absurd (no_idle _ c.in-At.rank (ap (λ s. place_in s c.args.key.now) (sym c.plan-plan.ensures) ∙ sym c.rank_of.ensures ∙ c.in-At.is) f)

pub returns-in-At-clause-tells : goal.returns-in-At-clause-tells
returns-in-At-clause-tells g c =
    let p = c.args.board.now.base.plan in let key = c.args.key.now in
    c.tell.ensures ∙ ap (λ (s : Planning). reply_at s key c.look_wait.result) c.plan-plan.ensures ∙ ap (reply_at p key) c.look_wait.ensures.outcome
    ∙ told_outcome p key c.in-At.rank (ap (λ s. place_in s key) (sym c.plan-plan.ensures) ∙ sym c.rank_of.ensures ∙ c.in-At.is)

pub returns-in-At-clause-knows : goal.returns-in-At-clause-knows
returns-in-At-clause-knows g c =
    knows_rank c.args.board.now.base.plan c.args.key.now c.in-At.rank (Knows c.look_wait.new.seat)
    (ap (λ s. place_in s c.args.key.now) (sym c.plan-plan.ensures) ∙ sym c.rank_of.ensures ∙ c.in-At.is) c.look_wait.ensures.knows

pub returns-in-Zero-clause-tells : goal.returns-in-Zero-clause-tells
unfolding told_at told_reply
returns-in-Zero-clause-tells g c = told_at_place c.args.board.now.base.plan c.args.key.now place.Zero (ap (λ s. place_in s c.args.key.now) (sym c.plan-plan.ensures) ∙ sym c.rank_of.ensures ∙ c.in-Zero.is)

pub returns-in-Zero-clause-knows : goal.returns-in-Zero-clause-knows
unfolding is_rank
returns-in-Zero-clause-knows g c = knows_none c.args.board.now.base.plan c.args.key.now place.Zero (Knows c.args.seat.now) (ap (λ s. place_in s c.args.key.now) (sym c.plan-plan.ensures) ∙ sym c.rank_of.ensures ∙ c.in-Zero.is) refl

pub returns-in-Beyond-clause-tells : goal.returns-in-Beyond-clause-tells
unfolding told_at told_reply
returns-in-Beyond-clause-tells g c = told_at_place c.args.board.now.base.plan c.args.key.now place.Beyond (ap (λ s. place_in s c.args.key.now) (sym c.plan-plan.ensures) ∙ sym c.rank_of.ensures ∙ c.in-Beyond.is)

pub returns-in-Beyond-clause-knows : goal.returns-in-Beyond-clause-knows
unfolding is_rank
returns-in-Beyond-clause-knows g c = knows_none c.args.board.now.base.plan c.args.key.now place.Beyond (Knows c.args.seat.now) (ap (λ s. place_in s c.args.key.now) (sym c.plan-plan.ensures) ∙ sym c.rank_of.ensures ∙ c.in-Beyond.is) refl

pub returns-in-BadIndex-clause-tells : goal.returns-in-BadIndex-clause-tells
unfolding told_at told_reply
returns-in-BadIndex-clause-tells g c = told_at_place c.args.board.now.base.plan c.args.key.now place.BadIndex (ap (λ s. place_in s c.args.key.now) (sym c.plan-plan.ensures) ∙ sym c.rank_of.ensures ∙ c.in-BadIndex.is)

pub returns-in-BadIndex-clause-knows : goal.returns-in-BadIndex-clause-knows
unfolding is_rank
returns-in-BadIndex-clause-knows g c = knows_none c.args.board.now.base.plan c.args.key.now place.BadIndex (Knows c.args.seat.now) (ap (λ s. place_in s c.args.key.now) (sym c.plan-plan.ensures) ∙ sym c.rank_of.ensures ∙ c.in-BadIndex.is) refl
