use Rattle.std.proofs.Common.{◌≡◌, length}
use Rattle.cell_words.proofs.make.empty_lists.Given as goal

abbrev pub invariant-loop : goal.invariant-loop
invariant-loop l = length l.all.items ≡ l.counter
