use Rattle.std.proofs.Common.{rules, inl, inr, sym, ◌≡◌, ◌/◌, pos, ◌*ℤ◌, ◌+ℤ◌, unsigned_abs, to_z, of_z, int_div}
use Rattle.frac128.proofs.Words.{w128, gcd}
use Rattle.frac128.proofs.SumLemmas.{word_lowest}
use Rattle.frac128.proofs.SignLemmas.{word_size}
use Rattle.frac128.proofs.TwosLemmas.{common_twos}
use Rattle.frac128.proofs.sums.word_sum.Goals as goal
use Rattle.frac128.proofs.sums.word_sum.Goals.{then-b_odd-eq1-via-then-b_odd-eq1, then-b_odd-eq1-via-else-b_odd-eq1+then-d_odd-eq1}

pub returns : goal.returns
returns c =
    let g = c.gcd_u64-common.ensures.value in
    let w : c.sum_of_word_multiples-whole.result ≡ c.args.x *ℤ pos (c.args.d / c.gcd_u64-common.result) +ℤ c.args.y *ℤ pos (c.args.b / c.gcd_u64-common.result) = search rules in
    let k : c.gcd_u128-shared.result ≡ gcd (unsigned_abs c.sum_of_word_multiples-whole.result) c.gcd_u64-common.result = search rules in
    let z : to_z w128 (of_z w128 c.part_of.result) ≡ int_div c.sum_of_word_multiples-whole.result (pos c.gcd_u128-shared.result) = search rules in
    rw z (sym (word_lowest c.args.x c.args.y c.args.b c.args.d c.gcd_u64-common.result c.sum_of_word_multiples-whole.result c.gcd_u128-shared.result (word_size c.args.x c.ranges.x) (word_size c.args.y c.ranges.y) c.requires.words.0 c.requires.words.1 g w k))

pub shifted_word_sum-requires-clause-common : goal.shifted_word_sum-requires-clause-common
shifted_word_sum-requires-clause-common c =
    let b = c.odd_part-b_odd in
    let d = c.odd_part-d_odd in
    common_twos c.args.b c.args.d b.result.0 b.result.1 d.result.0 d.result.1 c.min.result b.ensures.whole d.ensures.whole b.ensures.odd d.ensures.odd
    (elim c.then-b_odd-eq1.branch [
      | then-b_odd-eq1-via-then-b_odd-eq1 w ↦ inl w.if-b_odd-eq1.true
      | then-b_odd-eq1-via-else-b_odd-eq1+then-d_odd-eq1 w ↦ inr w.if-d_odd-eq1.true
    ]) c.min.ensures
