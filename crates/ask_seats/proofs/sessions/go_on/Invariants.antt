use Rattle.ask_seats.proofs.Names.{◌≡◌, ◌-◌, ℕ, List, Option, take, length, Planning, KeepsCarried, GoesOn, IsLeft, Paused}
use Rattle.ask_seats.proofs.sessions.go_on.Given as goal

abbrev pub invariant-loop-at : goal.invariant-loop-at
invariant-loop-at g l =
    IsLeft l.rest.closed l.crew (take l.at l.lines) × GoesOn l.rest.closed.plan.bound l.lines l.at
    × ((g.W.Sink.state l.out).faults ≡ (g.W.Sink.state l.initial.out).faults)
    × ((q : Planning) (old : Option (List ℕ))
    → Paused q l.initial.rest.closed.plan l.crew l.initial.rest.finished l.initial.rest.closed.table (take l.initial.at l.lines) old (g.W.Sink.state l.initial.out).taken
    → Paused q l.rest.closed.plan l.crew l.rest.finished l.rest.closed.table (take l.at l.lines) old (g.W.Sink.state l.out).taken)
    × ((q : Planning) (old : Option (List ℕ))
    → Paused q l.initial.rest.closed.plan l.crew l.initial.rest.finished l.initial.rest.closed.table (take l.initial.at l.lines) old (g.W.Sink.state l.initial.out).taken
    → KeepsCarried q (take l.initial.at l.lines) l.initial.rest.closed → KeepsCarried q (take l.at l.lines) l.rest.closed)

abbrev pub decreases-loop-at : goal.decreases-loop-at
decreases-loop-at g l = length l.lines - l.at
