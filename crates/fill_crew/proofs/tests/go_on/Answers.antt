use Rattle.fill_crew.proofs.tests.go_on.Goals as goal

pub fill_board-requires-clause-seats : goal.fill_board-requires-clause-seats
fill_board-requires-clause-seats g c κs within = c.in-Ok.ensures.all
