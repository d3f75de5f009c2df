use Rattle.std.proofs.Common.{◌-◌, ◌≡◌, ◌≤◌, ◌++◌}
use Rattle.index_lists.proofs.Words.{all_without, last_of}
use Rattle.index_lists.proofs.split_list.list_without.Given as goal

abbrev pub invariant-loop-done : goal.invariant-loop-done
invariant-loop-done g l = (l.done ≤ l.count) × (l.listed ≡ all_without l.fewer (last_of l.done l.initial.listed) ++ l.initial.listed)

abbrev pub decreases-loop-done : goal.decreases-loop-done
decreases-loop-done g l = l.count - l.done
