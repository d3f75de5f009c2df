use Rattle.std.proofs.Common.{◌≡◌}
use Rattle.key_index.proofs.index.fill.Given as goal

abbrev pub invariant-loop-key : goal.invariant-loop-key
invariant-loop-key l = l.rank ≡ l.key-index
