use Rattle.std.proofs.Common.{take}
use Rattle.index_lists.specs.Measures.{IsMeasured}
use Rattle.index_lists.proofs.MeasureLemmas.{AreBytes}
use Rattle.index_lists.proofs.measure.Measure.of_list.Given as goal

abbrev pub invariant-loop-x : goal.invariant-loop-x
invariant-loop-x l = record {
  bytes : AreBytes (take l.x-index l.list);
  whole : IsMeasured l.per_n (take l.x-index l.list) l.whole;
}
