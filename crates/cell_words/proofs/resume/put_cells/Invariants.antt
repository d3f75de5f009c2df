use Rattle.std.proofs.Common.{◌≡◌, ℕ, ◌*◌, ◌≤◌, length, slice_index}
use Rattle.cell_words.proofs.Names.{AreResumed}
use Rattle.cell_words.proofs.resume.put_cells.Given as goal

abbrev pub invariant-loop-rank : goal.invariant-loop-rank
invariant-loop-rank l = record {
  len : length l.words.items ≡ length l.fn.words.items;
  words : AreResumed l.plan l.table l.rank l.words.items;
  zero : (i : ℕ) → 5 * l.rank ≤ i → slice_index l.words.items i ≡ 0;
}
