use Rattle.cell_words.specs.Seats.{IsSeatOf}
use Rattle.airy_wait.proofs.tests.asks_all.Given as goal

abbrev pub invariant-loop-at : goal.invariant-loop-at
invariant-loop-at g l = IsSeatOf l.board l.seat
