use Rattle.std.proofs.Common.{◌≡◌, ◌≤◌, vec_len}
use Rattle.cell_words.proofs.Names.{cells_to, IsFilling}
use Rattle.cell_words.proofs.filler.level_alone.Given as goal

abbrev pub invariant-loop-rank : goal.invariant-loop-rank
invariant-loop-rank l =
    IsFilling l.board (vec_len l.filler.outcomes) l.filler × (vec_len l.filler.outcomes ≡ l.rank) × (l.filler.published ≡ l.initial.filler.published) × (cells_to l.board.plan l.initial.filler.published ≤ l.rank) × (l.rank ≤ l.end)
