use Rattle.ask_seats.proofs.Names.{take, AreAsks}
use Rattle.ask_seats.proofs.lines.finish_at.Given as goal

abbrev pub invariant-loop-at : goal.invariant-loop-at
invariant-loop-at l = AreAsks (take l.at l.lines)
