use Rattle.amp_plan.specs.Plans.{tensors_of, keys_of}
use Rattle.amp_terms.specs.Outcomes.{outcomes_after}
use Rattle.std.proofs.Common.{[]}
use Rattle.amp_terms.proofs.FillingLemmas.{IsUnderway}
use Rattle.amp_terms.proofs.filling.one_thread.Given as goal

abbrev pub invariant-loop-rank : goal.invariant-loop-rank
invariant-loop-rank l = IsUnderway (tensors_of l.plan) (keys_of l.plan) (outcomes_after (tensors_of l.plan) (keys_of l.plan) [] (keys_of l.plan)) l.rank l.table
