use Rattle.std.proofs.Common.{rules, arith, ◌≡◌, ◌≤◌, ◌<◌, ap, ◌∙◌, ◌^◌, min}
use Rattle.std.specs.Int.Count.{count_trailing_zeros}
use Rattle.frac128.proofs.TwosLemmas.{gcd-power}
use Rattle.frac128.proofs.divisors.shared_twos.Goals as goal

pub returns-clause-value : goal.returns-clause-value
returns-clause-value c =
    let le : c.args.m ≤ 128 = omega arith in
    let h : c.args.n < 2 ^ 128 = omega arith in
    let e : c.min.result ≡ min (count_trailing_zeros 128 c.args.n) c.args.m = search rules in
    ap (λ t. 2 ^ t) e ∙ gcd-power 128 c.args.n c.args.m h le
