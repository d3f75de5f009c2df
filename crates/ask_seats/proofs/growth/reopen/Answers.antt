use Rattle.cell_words.specs.Countdown.{by_sight}
use Rattle.ask_seats.proofs.Names.{◌≡◌, ℕ, ◌<◌, ◌≤◌, ◌+◌, true, arith, sym, ap, ◌∙◌, subst, has, limit, tensors_of, CanResume, bound_after}
use Rattle.ask_seats.proofs.FrontLemmas.{leads-begun}
use Rattle.ask_seats.proofs.ReplyLemmas.{grows-up}
use Rattle.ask_seats.proofs.growth.reopen.Goals as goal

pub resume-requires-clause-can : goal.resume-requires-clause-can
resume-requires-clause-can c =
    let p = c.args.closed.plan in let l = limit (tensors_of p) c.args.bound in
    subst (λ q. CanResume q c.args.closed.table) (sym c.in_ok-plan.ensures.plan)
    (c.grown_tables.ensures p (bound_after l p.bound c.args.bound) c.args.closed.table (grows-up l p.bound c.args.bound (omega (arith, c.requires.above))).0 c.requires.can)

pub returns-clause-knows : goal.returns-clause-knows
returns-clause-knows c = λ j d l r h.
    by_sight r (ap (has r) ((c.in-Ok.ensures.seats j d (omega (arith, l, c.in-Ok.ensures.len, c.in-Ok.seats.ok.0))).seen ∙ sym c.in-Ok.ensures.carried) ∙ h)

pub returns-clause-leads : goal.returns-clause-leads
returns-clause-leads c = let e = c.in-Ok.ensures in leads-begun _ _ (c.args.workers + 1) _ (omega arith) e.carried e.seats
