use Rattle.std.proofs.Common.{length}
use Rattle.airy_index.proofs.runs.+advance.Given as goal

abbrev pub decreases-advance : goal.decreases-advance
decreases-advance l = length l.runs.now
