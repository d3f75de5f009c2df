use Rattle.std.proofs.Common.{◌-◌}
use Rattle.index_lists.proofs.SplitListLemmas.{IsRunListed}
use Rattle.index_lists.proofs.split_list.list_run.Given as goal

abbrev pub invariant-loop-left_out : goal.invariant-loop-left_out
invariant-loop-left_out g l = IsRunListed l.per_n l.run l.left_out l.fewer l.initial.listed l.listed

abbrev pub decreases-loop-left_out : goal.decreases-loop-left_out
decreases-loop-left_out g l = l.run.1 - l.left_out
