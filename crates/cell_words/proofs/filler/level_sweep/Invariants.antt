use Rattle.std.proofs.Common.{◌≡◌}
use Rattle.cell_words.proofs.Names.{IsFiller}
use Rattle.cell_words.proofs.filler.level_sweep.Given as goal

abbrev pub invariant-loop : goal.invariant-loop
invariant-loop l = IsFiller l.board l.filler × (l.filler.published ≡ l.counter)
