use Rattle.std.proofs.Common.{◌≡◌, ◌≤◌, ◌++◌, drop, length}
use Rattle.airy_math.specs.Keys.{remove}
use Rattle.index_lists.proofs.ListWalkLemmas.{without_from}
use Rattle.index_lists.proofs.rest.without.Given as goal

abbrev pub invariant-loop-y : goal.invariant-loop-y
invariant-loop-y l = record {
  parts : l.left.items ++ without_from l.found l.x (drop l.y-index l.list) ≡ remove l.x l.list;
  short : length l.left.items ≤ l.y-index;
}
