use Rattle.std.proofs.Common.{◌≡◌, ◌≤◌, vec_capacity}
use Rattle.cell_words.proofs.Names.{keep, below, carries}
use Rattle.cell_words.proofs.resume.carried_ranks.Given as goal

abbrev pub invariant-loop-rank : goal.invariant-loop-rank
invariant-loop-rank l = record {
  ranks : l.ranks.items ≡ keep (carries l.table) (below l.rank);
  room : l.fn.room ≤ vec_capacity l.ranks;
}
