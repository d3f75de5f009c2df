use Rattle.std.proofs.Common.{arith, rules, sym, ap, subst, ◌≡◌, ◌≤◌, ◌<◌, ◌^◌, ◌∷◌, [], ◌+ℤ◌}
use Rattle.amp_plan.proofs.Words.{unsigned_abs, ints, per_n, IsMeasured}
use Rattle.index_lists.proofs.MeasureLemmas.{measured-light, measured-append}
use Rattle.amp_plan.proofs.share.Share.of.Goals as goal

pub overflow_sub-result : goal.overflow_sub-result
overflow_sub-result c =
    let sum : c.plus-right.result.excess ≡ c.of.result.excess +ℤ c.args.rest.now.whole.excess = ap (λ m. m.excess) c.plus-right.ensures in
    let bound : unsigned_abs c.plus-right.result.excess ≤ 2 ^ 31 = omega (arith, ints, sum, c.requires.rest.light.excess, c.of.ensures.light.excess) in
    search rules

pub returns-clause-right : goal.returns-clause-right
returns-clause-right c =
    let per = per_n c.args.ranking.now.tensors.shape in
    let b : IsMeasured per (c.args.pair.now.b ∷ []) c.of.result = search rules in
    subst (IsMeasured per (c.args.pair.now.b ∷ c.args.rest.now.list.items)) (sym c.plus-right.ensures) (measured-append per (c.args.pair.now.b ∷ []) c.args.rest.now.list.items c.of.result c.args.rest.now.whole b c.requires.rest.whole)

pub returns-clause-share : goal.returns-clause-share
returns-clause-share c =
    let per = per_n c.args.ranking.now.tensors.shape in
    let sum : c.plus-right.result.excess ≡ c.of.result.excess +ℤ c.args.rest.now.whole.excess = ap (λ m. m.excess) c.plus-right.ensures in
    let bound : unsigned_abs c.plus-right.result.excess ≤ 2 ^ 31 = omega (arith, ints, sum, c.requires.rest.light.excess, c.of.ensures.light.excess) in
    let byte : c.args.pair.now.b < 256 = search rules in
    record {
      law = search rules;
      genus = c.requires.k;
      a = c.requires.a;
      b = c.requires.b;
      left = c.of-left.ensures.measured;
      high = search rules;
      low = search rules;
      dim = search rules;
      bound = c.is_small.ensures.most;
      small_law = search rules;
      small_high = search rules;
      light_left = c.of-left.ensures.light;
      light_right = measured-light per (c.args.pair.now.b ∷ c.args.rest.now.list.items) c.plus-right.result (search rules) (byte, c.requires.rest.bytes) (omega (arith, c.requires.few)) (returns-clause-right c);
    }
