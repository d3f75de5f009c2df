use Rattle.fill_crew.proofs.sweeps.fill_all.Goals as goal

pub fill_board-requires-clause-seats : goal.fill_board-requires-clause-seats
fill_board-requires-clause-seats g c κs within = c.in_ok-board.ensures.all
