use Rattle.std.proofs.Common.{take}
use Rattle.ask_seats.proofs.SessionLemmas.{NoGrow}
use Rattle.ask_seats.proofs.lines.part_end.Given as goal

abbrev pub invariant-loop-at : goal.invariant-loop-at
invariant-loop-at l = NoGrow (take l.at l.lines)
