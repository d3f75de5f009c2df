use Rattle.fill_crew.proofs.tests.sees.Given as goal

abbrev pub invariant-loop : goal.invariant-loop
invariant-loop g l = g.B.Cells.IsSeat l.board l.seat
