use Rattle.airy_index.specs.Choices.{splits_left}
use Rattle.airy_index.proofs.ChoiceLemmas.{fresh_walk}
use Rattle.airy_index.proofs.RunLemmas.{fresh_is_walk}
use Rattle.airy_index.proofs.splits.Splits.of.Goals as goal

pub invariant_of-result : goal.invariant_of-result
invariant_of-result c = fresh_is_walk c.args.idx.now c.runs_of.result.items c.requires.short c.runs_of.ensures.counts c.runs_of.ensures.none

pub returns : goal.returns
unfolding splits_left
returns c = fresh_walk c.args.idx.now c.runs_of.result.items c.runs_of.ensures.counts c.runs_of.ensures.none
