use Rattle.amp_plan.specs.Needs.{AreNeeds}
use Rattle.amp_plan.proofs.PlaceLemmas.{rank_within}
use Rattle.amp_terms.proofs.BlockedLemmas.{blocked-below}
use Rattle.ask_seats.proofs.Names.{◌≡◌, ℕ, ◌<◌, true, false, arith, refl, sym, ap, ◌∙◌, subst, Planning, tensors_of, ListsPlanned, Key, IsKey, place_in, Place, cells, outcome_at, reply_of, is_rank, outcome_reply}
use Rattle.ask_seats.specs.Asks.{AnswersAt, Looks, finds, misses}
use Rattle.amp_plan.specs.declared.place.Place.TheVariants as place
use Rattle.ask_seats.proofs.asker.Asker.ask.Goals as goal
use Rattle.ask_seats.proofs.PlaceLemmas.{no_idle, within}

pub look-requires-clause-rank : goal.look-requires-clause-rank
look-requires-clause-rank g c = within _ c.plan-plan.result.now c.args.key.now c.in-At.rank c.plan-plan.ensures c.planned_fact.ensures c.validity_fact.ensures (sym c.rank_of.ensures ∙ c.in-At.is)

pub tell-requires : goal.tell-requires
tell-requires g c = λ q blocked.
    let p = c.plan-plan.result.now in
    let low = rank_within p c.args.key.now c.in-At.rank c.planned_fact.ensures c.validity_fact.ensures (sym c.rank_of.ensures ∙ c.in-At.is) in
    let lower = blocked-below p c.in-At.rank q c.needs_fact.ensures low (ap (λ s. outcome_at s c.in-At.rank) c.plan-plan.ensures ∙ sym c.in-Filled.ensures.answer.outcome ∙ blocked) in
    omega (arith, low, lower)

pub returns-in-Filled-clause-idle : goal.returns-in-Filled-clause-idle
returns-in-Filled-clause-idle g c = λ f. absurd (no_idle _ c.in-At.rank (ap (λ s. place_in s c.args.key.now) (sym c.plan-plan.ensures) ∙ sym c.rank_of.ensures ∙ c.in-At.is) f)

pub returns-in-Filled-clause-answer : goal.returns-in-Filled-clause-answer
returns-in-Filled-clause-answer g c =
    let at = ap (λ s. place_in s c.args.key.now) (sym c.plan-plan.ensures) ∙ sym c.rank_of.ensures ∙ c.in-At.is in
    subst (AnswersAt (g.B.Cells.plan_of c.args.self.now.board.now) c.args.key.now (g.B.Cells.Knows c.args.self.now.seat) (g.B.Cells.Knows c.look.new.seat) (g.B.Cells.ShowsUnfilled c.look.new.seat) (g.B.Cells.latest c.look.new.seat) c.tell.result) (sym at)
    (finds c.in-Filled.outcome c.in-Filled.ensures.answer (c.tell.ensures ∙ ap (λ (s : Planning). outcome_reply (tensors_of s) s.tensors.letter s.bound c.args.key.now c.in-Filled.outcome) c.plan-plan.ensures))

pub returns-in-Empty-clause-idle : goal.returns-in-Empty-clause-idle
returns-in-Empty-clause-idle g c = λ f. absurd (no_idle _ c.in-At.rank (ap (λ s. place_in s c.args.key.now) (sym c.plan-plan.ensures) ∙ sym c.rank_of.ensures ∙ c.in-At.is) f)

pub returns-in-Empty-clause-answer : goal.returns-in-Empty-clause-answer
returns-in-Empty-clause-answer g c =
    let at = ap (λ s. place_in s c.args.key.now) (sym c.plan-plan.ensures) ∙ sym c.rank_of.ensures ∙ c.in-At.is in
    subst (AnswersAt (g.B.Cells.plan_of c.args.self.now.board.now) c.args.key.now (g.B.Cells.Knows c.args.self.now.seat) (g.B.Cells.Knows c.look.new.seat) (g.B.Cells.ShowsUnfilled c.look.new.seat) (g.B.Cells.latest c.look.new.seat) _) (sym at)
    (misses c.in-Empty.word c.in-Empty.ensures.answer refl)
