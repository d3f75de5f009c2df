use Rattle.std.proofs.Common.{◌≡◌, ◌≤◌, ◌++◌, ◌-◌, length}
use Rattle.amp_plan.proofs.Words.{each, count_from, planned, looked_up, level_keys}
use Rattle.amp_plan.proofs.ranking.planned_keys.Given as goal

abbrev pub invariant-loop-level : goal.invariant-loop-level
invariant-loop-level l = record {
  few : length l.keys.items ≤ 200000;
  listed : l.keys.items ++ each (count_from l.level (l.level-end - l.level)) (level_keys (looked_up l.tensors)) ≡ planned (looked_up l.tensors) l.bound;
}
