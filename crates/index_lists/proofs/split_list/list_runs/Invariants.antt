use Rattle.index_lists.proofs.SplitListLemmas.{AreRunsListed}
use Rattle.index_lists.proofs.split_list.list_runs.Given as goal

abbrev pub invariant-loop-left : goal.invariant-loop-left
invariant-loop-left g l = AreRunsListed l.per_n l.runs l.left l.initial.listed l.listed

abbrev pub decreases-loop-left : goal.decreases-loop-left
decreases-loop-left g l = l.left
