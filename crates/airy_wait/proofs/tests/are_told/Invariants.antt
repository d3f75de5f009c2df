use Rattle.cell_words.specs.Seats.{IsSeatOf}
use Rattle.airy_wait.proofs.tests.are_told.Given as goal

abbrev pub invariant-loop-g : goal.invariant-loop-g
invariant-loop-g g l = IsSeatOf l.board l.seat
