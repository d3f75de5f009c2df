use Rattle.std.proofs.Common.{arith, sym, ap, ◌∙◌, ◌++◌}
use Rattle.amp_plan.proofs.Words.{tensors_of, genus_part}
use Rattle.airy_index.specs.SplitValues.{split_value}
use Rattle.amp_plan.proofs.RankWalkLemmas.{few_in_room}
use Rattle.amp_plan.proofs.SplitWalkLemmas.{sorted_bytes, part_of}
use Rattle.amp_plan.proofs.WalkLemmas.{taken-none, taken-more, taken-all, allowed-next}
use Rattle.amp_plan.proofs.walk.walk_splits.Goals as goal

pub of-split-items-requires-clause-sorted : goal.of-split-items-requires-clause-sorted
of-split-items-requires-clause-sorted g c = sorted_bytes 0 (tensors_of c.args.ranking.now).dim c.args.rest.now c.requires.room.sorted (λ i. omega (arith, c.type_inv.rest i))

pub of-split-items-requires-clause-short : goal.of-split-items-requires-clause-short
of-split-items-requires-clause-short g c = few_in_room c.args.ranking.now c.args.genus c.args.rest.now c.is_small.ensures.most c.requires.room

pub loop-split-init : goal.loop-split-init
loop-split-init g c = taken-none (c.into_iter-split-iterator.ensures.into_iter_gives ∙ c.of-split-items.ensures)

pub walk_split-requires-clause-split : goal.walk_split-requires-clause-split
walk_split-requires-clause-split g c =
    let list = c.args.rest.now in
    let taken = c.loop-split.invariant in
    part_of (tensors_of c.args.ranking.now) c.args.ranking.now.bound c.args.genus c.args.k list taken.before c.next.new.self (split_value c.in-Some.split) c.requires.room
    (few_in_room c.args.ranking.now c.args.genus list c.is_small.ensures.most c.requires.room)
    (sorted_bytes 0 (tensors_of c.args.ranking.now).dim list c.requires.room.sorted (λ i. omega (arith, c.type_inv.rest i)))
    c.requires.k (ap (λ l. taken.before ++ l) (sym c.in-Some.ensures.steps) ∙ taken.parts)

pub walk_split-requires-clause-allowed : goal.walk_split-requires-clause-allowed
unfolding genus_part
walk_split-requires-clause-allowed g c = allowed-next c.in-Some.ensures.steps c.requires.allowed c.loop-split.invariant

pub loop-split-preserved : goal.loop-split-preserved
loop-split-preserved g c = taken-more c.in-Some.ensures.steps c.loop-split.invariant c.walk_split.ensures

pub returns : goal.returns
unfolding genus_part
returns g c = taken-all c.in-None.ensures.steps.0 c.loop-split.invariant
