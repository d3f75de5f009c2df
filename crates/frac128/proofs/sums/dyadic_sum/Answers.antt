use Rattle.std.proofs.Common.{rules, arith, ◌∙◌, ◌≡◌, pos, unsigned_abs, to_z, of_z, ◌^◌, int_div}
use Rattle.frac128.proofs.Words.{w128, gcd}
use Rattle.frac128.proofs.ProductLemmas.{power-over, power-within}
use Rattle.frac128.proofs.SumLemmas.{powers-none, powers-over, powers-some}
use Rattle.frac128.proofs.sums.dyadic_sum.Goals as goal

pub returns-in_err-whole : goal.returns-in_err-whole
returns-in_err-whole c = c.from_residual.ensures ∙ powers-none c.args.x c.args.y c.args.i c.args.j c.min-both.ensures (search rules)

pub returns-then-twos-gt126 : goal.returns-then-twos-gt126
returns-then-twos-gt126 c =
    let v : 2 ^ c.shared_twos-shared.result ≡ gcd (unsigned_abs c.in_ok-whole.whole) (2 ^ c.min-both.result) = search rules in
    powers-over c.args.x c.args.y c.args.i c.args.j c.min-both.ensures c.in_ok-whole.whole (search rules) v c.shared_twos-shared.ensures.within (power-over _ (omega arith))

pub returns : goal.returns
returns c =
    let v : 2 ^ c.shared_twos-shared.result ≡ gcd (unsigned_abs c.in_ok-whole.whole) (2 ^ c.min-both.result) = search rules in
    let z : to_z w128 (of_z w128 c.shifted_part.result) ≡ int_div c.in_ok-whole.whole (pos (2 ^ c.shared_twos-shared.result)) = search rules in
    rw (z, c.power_of_two-3.ensures) (powers-some c.args.x c.args.y c.args.i c.args.j c.min-both.ensures c.in_ok-whole.whole (search rules) v c.shared_twos-shared.ensures.within (power-within _ (omega arith)))
