use Rattle.std.proofs.Common.{◌≡◌, ◌<◌, ℕ, Some}
use Rattle.airy_math.specs.Ranks.{key_at}
use Rattle.key_index.specs.Codes.{code_of}
use Rattle.key_index.specs.Found.{found}
use Rattle.key_index.proofs.index.finds_all.Given as goal

abbrev pub invariant-loop-key : goal.invariant-loop-key
invariant-loop-key l = record {
  rank : l.rank ≡ l.key-index;
  found : (r : ℕ) → r < l.key-index → found l.slots.slots.items l.slots.width (code_of (key_at l.keys r)) ≡ Some r;
}
