use Rattle.fill_crew.specs.Crews.{AreSwept}
use Rattle.fill_crew.proofs.sweeps.sweep.Given as goal

abbrev pub invariant-loop-rank : goal.invariant-loop-rank
invariant-loop-rank l = AreSwept l.board l.rank l.initial.seats l.seats
