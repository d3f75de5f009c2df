use Rattle.std.proofs.Common.{◌≡◌, ◌≤◌, ◌++◌, ◌-◌, length}
use Rattle.index_lists.proofs.Words.{each, count_from, looked_up, keys_at, level_keys}
use Rattle.index_lists.proofs.listing.add_level.Given as goal

abbrev pub invariant-loop-genus : goal.invariant-loop-genus
invariant-loop-genus l = record {
  few : length l.keys.items ≤ 200000;
  listed : l.keys.items ++ each (count_from l.genus (l.genus-end - l.genus)) (keys_at (looked_up l.tensors) l.level) ≡ l.initial.keys.items ++ level_keys (looked_up l.tensors) l.level;
}
