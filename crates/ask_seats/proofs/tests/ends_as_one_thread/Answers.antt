use Rattle.std.proofs.Common.{rules, ◌≡◌, subst, ℕ, zero, suc, Bool, true, false, List, [], ◌∷◌, take}
use Rattle.ask_seats.proofs.Names.{FinishesOnce, Rises, Line, Ask, Finish, Grow}
use Rattle.ask_seats.proofs.tests.ends_as_one_thread.Goals as goal

once-front : (b : Bool) (n : ℕ) (lines : List Line) → FinishesOnce b lines → FinishesOnce b (take n lines)
unfolding FinishesOnce
once-front b zero lines h = tt
once-front b (suc n) [] h = tt
once-front b (suc n) (Ask key ∷ lines) h = once-front b n lines h
once-front false (suc n) (Finish ∷ lines) h = once-front true n lines h
once-front true (suc n) (Finish ∷ lines) h = absurd h
once-front b (suc n) (Grow X ∷ lines) h = once-front false n lines h

rises-front : (X n : ℕ) (lines : List Line) → Rises X lines → Rises X (take n lines)
unfolding Rises
rises-front X zero lines h = tt
rises-front X (suc n) [] h = tt
rises-front X (suc n) (Ask key ∷ lines) h = rises-front X n lines h
rises-front X (suc n) (Finish ∷ lines) h = rises-front X n lines h
rises-front X (suc n) (Grow Y ∷ lines) h = (h.0, h.1, rises-front Y n lines h.2)

pub session-requires-clause-finish : goal.session-requires-clause-finish
session-requires-clause-finish g c κs within = once-front false c.args.end c.args.lines.now c.requires.finish

pub session-requires-clause-rises : goal.session-requires-clause-rises
session-requires-clause-rises g c κs within =
    let one : 1 ≡ c.in_ok-plan.plan.bound = search rules in
    rises-front c.in_ok-plan.plan.bound c.args.end c.args.lines.now (subst (λ X. Rises X c.args.lines.now) one c.requires.rises)
