use Rattle.std.proofs.Common.{arith, rules, sym, ap, subst, ◌∙◌, ◌≡◌, ◌≤◌, ◌<◌, ◌++◌, ◌∷◌, [], length, slice_index, pos, ◌-ℤ◌, to_z, of_z, w64, length-take-le, take_all}
use Rattle.index_lists.proofs.Words.{take_more, natural, IsMeasured, per_n}
use Rattle.index_lists.proofs.RestLemmas.{IsRead, read-none, read-next, read-small, item_small}
use Rattle.airy_math.specs.Splits.{runs}
use Rattle.index_lists.proofs.rest.Rest.of.Goals as goal

pub loop-x-init : goal.loop-x-init
loop-x-init c = record {
  list = c.new.ensures;
  runs = c.runs_of.ensures;
  read = subst (λ l. IsRead (to_z w64 (of_z w64 c.per_n-per_n.result)) l (record { places = 0; excess = pos 0; code = 0 }) 0 0) (sym c.new.ensures) (read-none (to_z w64 (of_z w64 c.per_n-per_n.result)));
}

pub plus-rest-requires-clause-this : goal.plus-rest-requires-clause-this
plus-rest-requires-clause-this c =
    let short : length c.loop-x.rest.list.items ≤ 26 = omega (arith, ap length c.loop-x.invariant.list, length-take-le c.loop-x.x-index c.args.list.now (omega (arith, c.loop-x-test.true)), c.requires.few, c.loop-x-test.true) in
    let read = read-small (search rules) short c.loop-x.invariant.read in
    read.light

pub overflow_add-rest : goal.overflow_add-rest
overflow_add-rest c =
    let short : length c.loop-x.rest.list.items ≤ 26 = omega (arith, ap length c.loop-x.invariant.list, length-take-le c.loop-x.x-index c.args.list.now (omega (arith, c.loop-x-test.true)), c.requires.few, c.loop-x-test.true) in
    let read = read-small (search rules) short c.loop-x.invariant.read in
    let per = to_z w64 (of_z w64 c.per_n-per_n.result) in
    let x = slice_index c.args.list.now c.loop-x.x-index in
    let few = item_small per x c.of-item.result.excess (search rules) (search rules) (search rules) in
    let up : c.above_zero.result ≡ natural c.of-item.result.excess = search rules in
    omega (arith, read.gain, up, few.0)

pub overflow_add-rest-in-loop-x : goal.overflow_add-rest-in-loop-x
overflow_add-rest-in-loop-x c =
    let short : length c.loop-x.rest.list.items ≤ 26 = omega (arith, ap length c.loop-x.invariant.list, length-take-le c.loop-x.x-index c.args.list.now (omega (arith, c.loop-x-test.true)), c.requires.few, c.loop-x-test.true) in
    let read = read-small (search rules) short c.loop-x.invariant.read in
    let per = to_z w64 (of_z w64 c.per_n-per_n.result) in
    let x = slice_index c.args.list.now c.loop-x.x-index in
    let few = item_small per x c.of-item.result.excess (search rules) (search rules) (search rules) in
    let down : c.above_zero-in-loop-x.result ≡ natural (pos 0 -ℤ c.of-item.result.excess) = search rules in
    omega (arith, read.loss, down, few.1)

pub loop-x-preserved : goal.loop-x-preserved
loop-x-preserved c =
    let per = to_z w64 (of_z w64 c.per_n-per_n.result) in
    let x = slice_index c.args.list.now c.loop-x.x-index in
    let byte : x < 256 = search rules in
    let item : IsMeasured per (x ∷ []) c.of-item.result = search rules in
    let excess : c.of-item.result.excess ≡ pos x -ℤ per = search rules in
    let up : c.above_zero.result ≡ natural c.of-item.result.excess = search rules in
    let down : c.above_zero-in-loop-x.result ≡ natural (pos 0 -ℤ c.of-item.result.excess) = search rules in
    let list : c.push.new.self.items ≡ c.loop-x.rest.list.items ++ x ∷ [] = search rules in
    record {
      list = list ∙ ap (λ l. l ++ x ∷ []) c.loop-x.invariant.list ∙ sym (take_more c.args.list.now c.loop-x.x-index 0 c.loop-x-test.true);
      runs = c.loop-x.invariant.runs;
      read = read-next per c.loop-x.rest.list.items c.push.new.self.items c.loop-x.rest.whole c.of-item.result c.plus-rest.result c.loop-x.rest.gain c.loop-x.rest.loss c.above_zero.result c.above_zero-in-loop-x.result x c.loop-x.invariant.read byte item excess list c.plus-rest.ensures up down;
    }

pub returns-clause-rest : goal.returns-clause-rest
returns-clause-rest c =
    let same : to_z w64 (of_z w64 c.per_n-per_n.result) ≡ per_n c.args.shape = search rules in
    let whole = c.loop-x.invariant.list ∙ take_all c.loop-x.x-index c.args.list.now (omega (arith, c.loop-x-test.false)) in
    let read = rw same at c.loop-x.invariant.read in
    record {
      bytes = read.bytes;
      runs = c.loop-x.invariant.runs ∙ ap runs (sym whole);
      whole = read.whole;
      light = (read-small (search rules) (omega (arith, ap length whole, c.requires.few)) c.loop-x.invariant.read).light;
      gain = read.gain;
      loss = read.loss;
    }
