use Rattle.std.proofs.Common.{◌≡◌, ℕ, [], length, true, false, Some, sym, ap, ◌∙◌, subst}
use Rattle.cell_words.proofs.Names.{has, dependents_at, act_of, freed_by, Known, act_in, by_sight, IsAtAct, IsHolding, view_in, view_of, View}
use Rattle.cell_words.proofs.ActLemmas.{at_active, holds_only}
use Rattle.cell_words.proofs.StepLemmas.{has_push}
use Rattle.cell_words.proofs.SeatLemmas.{plan_of, known_seen}
use Rattle.cell_words.proofs.countdown.Countdown.fill.Goals as goal

pub returns-clause-filled : goal.returns-clause-filled
returns-clause-filled g c =
    let b = c.args.self.now in let s = c.fill_at.new.seat in let r : ℕ = c.args.rank in
    let a = act_of r 4 true (length (dependents_at b.base.plan r)) (freed_by (view_of s) r) in
    subst (λ (v : View). act_in v r ≡ Some (act_of r 4 true (length (dependents_at b.base.plan r)) (freed_by v r))) (ap view_in (sym c.receipt.ensures.place)) (at_active b.base.plan s.number s.done.items a (view_of s).portions c.fill_at.ensures.act.at).1

pub returns-clause-knows : goal.returns-clause-knows
returns-clause-knows g c =
    let r : ℕ = c.args.rank in
    by_sight r (ap (λ o. has r (view_in o).seen) c.receipt.ensures.place ∙ ap (has r) c.fill_at.ensures.seen ∙ has_push r (view_of c.args.seat.now).seen)

pub returns-clause-keeps : goal.returns-clause-keeps
returns-clause-keeps g c =
    let b = c.args.self.now in let s = c.args.seat.now in let t = c.fill_at.new.seat in let r : ℕ = c.args.rank in
    let h : IsAtAct b s (act_of r 0 false 0 []) = subst (IsHolding b s) c.requires.held c.requires.seat.0 in
    let plan : (view_of t).plan ≡ (view_of s).plan = plan_of b t.place c.fill_at.ensures.act.token ∙ sym (plan_of b s.place h.token) in
    λ k known. subst (λ o. Known (view_in o) k) (sym c.receipt.ensures.place) (known_seen (view_of s) (view_of t) r plan c.fill_at.ensures.seen (holds_only b.base.plan s.number s.done.items (act_of r 0 false 0 []) (view_of s) h.at) k known)

pub returns-clause-told : goal.returns-clause-told
returns-clause-told g c = rw c.receipt.ensures.place c.fill_at.ensures.told
