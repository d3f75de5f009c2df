use Rattle.airy_index.proofs.RunLemmas.{ReadsRuns}
use Rattle.airy_index.proofs.runs.runs_of.Given as goal

abbrev pub invariant-loop-x : goal.invariant-loop-x
invariant-loop-x l = ReadsRuns l.found.items l.run l.others l.x-index l.fn.idx
