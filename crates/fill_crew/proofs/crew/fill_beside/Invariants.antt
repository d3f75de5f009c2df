use Rattle.cell_words.proofs.Names.{cells}
use Rattle.fill_crew.proofs.crew.fill_beside.Given as goal

abbrev pub ghosts-crew_beside : goal.ghosts-crew_beside
ghosts-crew_beside g a = record { limit = cells a.board.now.base.plan }
