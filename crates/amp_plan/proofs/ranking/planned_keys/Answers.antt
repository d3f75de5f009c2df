use Rattle.std.proofs.Common.{arith, sym, ◌∙◌, ◌≡◌, ap, ap₂, ◌+◌, ◌-◌, ◌<◌, length, ◌++◌, []}
use Rattle.amp_plan.proofs.Words.{each, count_from, planned, looked_up, tensors_of, keys_of, level_keys, Tells}
use Rattle.index_lists.proofs.ListingLemmas.{append-none}
use Rattle.index_lists.proofs.LevelLemmas.{each-more, each-end, each-too_long}
use Rattle.amp_plan.proofs.GrowLemmas.{planned-split}
use Rattle.amp_plan.proofs.LimitLemmas.{level_there, limit-cells, limit-memory}
use Rattle.amp_plan.proofs.ranking.planned_keys.Goals as goal

pub loop-level-init : goal.loop-level-init
loop-level-init c =
    let T = looked_up c.args.tensors.now in
    let n : c.args.bound + 1 - (c.args.low + 1) ≡ c.args.bound - c.args.low = omega arith in
    let e : c.in-Ok.keys.items ≡ planned T c.args.low = c.in-Ok.ensures ∙ c.requires.known in
    record {
      few = omega (arith, ap length c.in-Ok.ensures, c.requires.few);
      listed = ap₂ (λ l n. l ++ each (count_from (c.args.low + 1) n) (level_keys T)) e n ∙ sym (planned-split T c.args.low c.args.bound (omega (arith, c.requires.above)));
    }

pub returns-in_default-clause-cause : goal.returns-in_default-clause-cause
unfolding Tells
returns-in_default-clause-cause c = limit-memory (record { tensors = c.args.tensors.now; bound = c.args.bound }) (omega (arith, c.requires.above)) c.requires.most

pub returns-in-Err-Full-clause-cause : goal.returns-in-Err-Full-clause-cause
unfolding Tells keys_of tensors_of
returns-in-Err-Full-clause-cause c =
    let T = looked_up c.args.tensors.now in
    let full : 200000 < length c.loop-level.keys.items + length (level_keys T c.loop-level.level) = c.add_level.ensures.full (cc (c.in-Err-Full.is, c.in-Err-Full.field-0-is)) in
    let many : 200000 < length (planned T c.args.bound) = omega (arith, each-too_long (level_keys T) c.loop-level.level (c.args.bound + 1) 200000 c.loop-level.keys.items (planned T c.args.bound) [] (omega arith) full c.loop-level.invariant.listed) in
    limit-cells (record { tensors = c.args.tensors.now; bound = c.args.bound }) c.loop-level.level (omega (arith, c.requires.above)) c.requires.most many
    (level_there T c.loop-level.level (c.args.bound + 1) 200000 c.loop-level.keys.items (planned T c.args.bound) (omega arith) c.loop-level.invariant.listed c.loop-level.invariant.few full)

pub returns-in-Err-NoMemory-clause-cause : goal.returns-in-Err-NoMemory-clause-cause
unfolding Tells
returns-in-Err-NoMemory-clause-cause c = limit-memory (record { tensors = c.args.tensors.now; bound = c.args.bound }) (omega (arith, c.requires.above)) c.requires.most

pub loop-level-preserved : goal.loop-level-preserved
loop-level-preserved c =
    let T = looked_up c.args.tensors.now in
    record {
      few = c.in-Ok-add_level.ensures.few;
      listed = each-more (level_keys T) c.loop-level.level (c.args.bound + 1) c.loop-level.keys.items c.add_level.new.keys.items (planned T c.args.bound) (omega arith) c.in-Ok-add_level.ensures.listed c.loop-level.invariant.listed;
    }

pub returns-clause-ranking : goal.returns-clause-ranking
unfolding keys_of tensors_of
returns-clause-ranking c =
    let T = looked_up c.args.tensors.now in
    let all : c.loop-level.keys.items ≡ planned T c.args.bound = append-none c.loop-level.keys.items (each-end (level_keys T) c.loop-level.level (c.args.bound + 1) (omega arith)) ∙ c.loop-level.invariant.listed in
    record {
      some = omega (arith, c.requires.above);
      most = c.requires.most;
      keys = all;
      few = omega (arith, ap length all, c.loop-level.invariant.few);
    }
