use Rattle.std.proofs.Common.{drop}
use Rattle.airy_index.proofs.ChosenLemmas.{IsBuilt}
use Rattle.airy_index.proofs.splits.chosen.Given as goal

abbrev pub invariant-loop-run : goal.invariant-loop-run
invariant-loop-run l = IsBuilt l.split.part.items l.split.rest.items l.split.weight (drop l.run-index l.runs) l.runs
