use Rattle.std.proofs.Common.{◌≡◌, ◌+◌, vec_len}
use Rattle.cell_words.proofs.Names.{cells_to, IsFilling}
use Rattle.cell_words.proofs.frontier.Frontier.publish.Given as goal

abbrev pub invariant-loop-outcome : goal.invariant-loop-outcome
invariant-loop-outcome l =
    IsFilling l.self (vec_len l.filler.outcomes) l.filler × (vec_len l.filler.outcomes ≡ cells_to l.self.plan l.initial.filler.published + l.outcome-index) × (l.filler.published ≡ l.initial.filler.published)
