use Rattle.std.proofs.Common.{◌≡◌}
use Rattle.cell_words.proofs.Names.{keep, below, carried_in}
use Rattle.cell_words.specs.Starts.{can_start}
use Rattle.cell_words.proofs.resume.start_ranks.Given as goal

abbrev pub invariant-loop-rank : goal.invariant-loop-rank
invariant-loop-rank l = l.ranks.items ≡ keep (can_start l.plan (carried_in l.table)) (below l.rank)
