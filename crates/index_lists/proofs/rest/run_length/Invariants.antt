use Rattle.std.proofs.Common.{◌≡◌, ◌+◌, drop}
use Rattle.index_lists.proofs.ListWalkLemmas.{lead}
use Rattle.index_lists.proofs.rest.run_length.Given as goal

abbrev pub invariant-loop-x : goal.invariant-loop-x
invariant-loop-x l = record {
  count : l.length + lead l.first (drop l.x-index l.list) ≡ lead l.first l.list;
  index : l.length ≡ l.x-index;
}
