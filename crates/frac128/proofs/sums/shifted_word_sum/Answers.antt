use Rattle.std.proofs.Common.{rules, sym, ◌≡◌, ◌/◌, pos, ◌*ℤ◌, ◌+ℤ◌, unsigned_abs, to_z, of_z, ◌^◌, int_div}
use Rattle.frac128.proofs.Words.{w128, gcd}
use Rattle.frac128.proofs.SumLemmas.{word_lowest}
use Rattle.frac128.proofs.SignLemmas.{word_size}
use Rattle.frac128.proofs.sums.shifted_word_sum.Goals as goal

pub returns : goal.returns
returns c =
    let t = 2 ^ c.args.twos in
    let s = 2 ^ c.shared_twos-shared.result in
    let w : c.sum_of_word_multiples-whole.result ≡ c.args.x *ℤ pos (c.args.d / t) +ℤ c.args.y *ℤ pos (c.args.b / t) = search rules in
    let k : s ≡ gcd (unsigned_abs c.sum_of_word_multiples-whole.result) t = search rules in
    let z : to_z w128 (of_z w128 c.shifted_part.result) ≡ int_div c.sum_of_word_multiples-whole.result (pos s) = search rules in
    rw z (sym (word_lowest c.args.x c.args.y c.args.b c.args.d t c.sum_of_word_multiples-whole.result s (word_size c.args.x c.ranges.x) (word_size c.args.y c.ranges.y) c.requires.words.0 c.requires.words.1 c.requires.common w k))
