use Rattle.std.proofs.Common.{◌≡◌}
use Rattle.cell_words.proofs.Names.{IsFiller}
use Rattle.fill_crew.proofs.levels.fill_levels.Given as goal

abbrev pub invariant-loop : goal.invariant-loop
invariant-loop g l = IsFiller l.board l.filler × (l.filler.published ≡ l.counter)
