use Rattle.std.proofs.Common.{arith, rules, sym, subst, ◌≡◌, ◌≤◌, ◌<◌, ◌+◌, ◌++◌, ◌∷◌, [], length, take, slice_index, to_z, of_z, w64, take_all, length-take-le}
use Rattle.index_lists.proofs.Words.{unsigned_abs, take_more, IsMeasured}
use Rattle.index_lists.proofs.MeasureLemmas.{AreBytes, bytes-push, measured-none, measured-append, measured-light}
use Rattle.index_lists.proofs.measure.Measure.of_list.Goals as goal

pub loop-x-init : goal.loop-x-init
loop-x-init c = record { bytes = tt; whole = measured-none (to_z w64 (of_z w64 c.args.per_n)) }

pub plus-whole-requires-clause-this : goal.plus-whole-requires-clause-this
plus-whole-requires-clause-this c =
    let per = to_z w64 (of_z w64 c.args.per_n) in
    let small : unsigned_abs per ≤ 99 = search rules in
    let short : length (take c.loop-x.x-index c.args.list.now) ≤ 27 = omega (arith, length-take-le c.loop-x.x-index c.args.list.now (omega (arith, c.loop-x-test.true)), c.requires.few, c.loop-x-test.true) in
    measured-light per (take c.loop-x.x-index c.args.list.now) c.loop-x.whole small c.loop-x.invariant.bytes short c.loop-x.invariant.whole

pub loop-x-preserved : goal.loop-x-preserved
loop-x-preserved c =
    let per = to_z w64 (of_z w64 c.args.per_n) in
    let i = c.loop-x.x-index in
    let x = slice_index c.args.list.now i in
    let before = take i c.args.list.now in
    let byte : x < 256 = search rules in
    let item : IsMeasured per (x ∷ []) c.of.result = search rules in
    let more : take (i + 1) c.args.list.now ≡ before ++ x ∷ [] = take_more c.args.list.now i 0 c.loop-x-test.true in
    record {
      bytes = subst AreBytes (sym more) (bytes-push before x c.loop-x.invariant.bytes byte);
      whole = subst (λ l. IsMeasured per l c.plus-whole.result) (sym more) (subst (IsMeasured per (before ++ x ∷ [])) (sym c.plus-whole.ensures) (measured-append per before (x ∷ []) c.loop-x.whole c.of.result c.loop-x.invariant.whole item));
    }

pub returns : goal.returns
returns c =
    let same : to_z w64 (of_z w64 c.args.per_n) ≡ c.args.per_n = search rules in
    subst (λ z. IsMeasured z c.args.list.now c.loop-x.whole) same (subst (λ l. IsMeasured (to_z w64 (of_z w64 c.args.per_n)) l c.loop-x.whole) (take_all c.loop-x.x-index c.args.list.now c.loop-x-test.false) c.loop-x.invariant.whole)
