use Rattle.std.proofs.Common.{◌≤◌}
use Rattle.cell_words.proofs.Names.{cells_to}
use Rattle.cell_words.proofs.levels.level_end.Given as goal

abbrev pub invariant-loop-rank : goal.invariant-loop-rank
invariant-loop-rank l = l.rank ≤ cells_to l.plan l.level
