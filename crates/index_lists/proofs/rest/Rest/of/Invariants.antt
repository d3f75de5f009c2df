use Rattle.std.proofs.Common.{◌≡◌, take}
use Rattle.airy_math.specs.Splits.{runs}
use Rattle.index_lists.proofs.RestLemmas.{IsRead}
use Rattle.index_lists.proofs.rest.Rest.of.Given as goal

abbrev pub invariant-loop-x : goal.invariant-loop-x
invariant-loop-x l = record {
  list : l.rest.list.items ≡ take l.x-index l.list;
  runs : l.rest.runs.items ≡ runs l.list;
  read : IsRead l.per_n l.rest.list.items l.rest.whole l.rest.gain l.rest.loss;
}
