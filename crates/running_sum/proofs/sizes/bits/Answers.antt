use Rattle.std.proofs.Common.{arith, ◌≡◌, ◌-◌}
use Rattle.std.specs.Int.Count.{count_leading_zeros}
use Rattle.std.proofs.lemmas.Nat.{leading_length}
use Rattle.running_sum.proofs.sizes.bits.Goals as goal

pub returns-clause-below : goal.returns-clause-below
returns-clause-below c =
    let l = leading_length 128 c.args.n (omega arith) in
    let e : 128 - count_leading_zeros 128 c.args.n ≡ l.0 = omega (arith, l.1) in
    rw e l.2
