use Rattle.ask_seats.proofs.Names.{◌≡◌, ◌≤◌, ℕ, take, Stage, Stands, Wrote}
use Rattle.ask_seats.proofs.replies.answer_all.Given as goal

abbrev pub invariant-loop-line : goal.invariant-loop-line
invariant-loop-line g l =
    (l.asker.board ≡ l.initial.asker.board) × g.B.Cells.IsSeat l.asker.board.now l.asker.seat × ((r : ℕ) → g.B.Cells.Knows l.initial.asker.seat r → g.B.Cells.Knows l.asker.seat r)
    × ((g.W.Sink.state l.out).faults ≡ (g.W.Sink.state l.initial.out).faults)
    × ((stage : Stage) → Stands (g.B.Cells.plan_of l.initial.asker.board.now) l.pace.workers (g.B.Cells.Knows l.initial.asker.seat) stage → stage.finished ≡ l.pace.finished
    → Wrote (g.B.Cells.plan_of l.initial.asker.board.now) l.pace.workers l.pace.finished (g.B.Cells.Knows l.asker.seat) stage (take l.line-index l.lines) (g.W.Sink.state l.initial.out).taken (g.W.Sink.state l.out).taken)
    × (g.B.Cells.standing l.asker.seat ≡ g.B.Cells.standing l.initial.asker.seat)
