use Rattle.std.proofs.Common.{◌≡◌, ◌≤◌, ◌-◌, ◌++◌, length, drop}
use Rattle.airy_math.specs.Splits.{runs}
use Rattle.index_lists.proofs.rest.runs_of.Given as goal

abbrev pub invariant-loop-from : goal.invariant-loop-from
invariant-loop-from l = record {
  within : l.from ≤ length l.list;
  few : length l.found.items ≤ l.from;
  runs : l.found.items ++ runs (drop l.from l.list) ≡ runs l.list;
}

abbrev pub decreases-loop-from : goal.decreases-loop-from
decreases-loop-from l = length l.list - l.from
