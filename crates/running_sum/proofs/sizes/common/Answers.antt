use Rattle.std.proofs.Common.{rules, ◌≡◌, pos, unsigned_abs}
use Rattle.std.specs.Int.{w128}
use Rattle.std.proofs.lemmas.Int.{to_z_pos}
use Rattle.airy_math.specs.Rational.{◌/ℚ◌, positive}
use Rattle.running_sum.proofs.UnreducedLemmas.{common_parts}
use Rattle.running_sum.proofs.sizes.common.Goals as goal

pub returns-in-Ok : goal.returns-in-Ok
returns-in-Ok c =
    let v = c.in-Ok.v in
    let e : v ≡ pos c.args.a /ℚ c.args.b = search (rules, to_z_pos w128 c.args.a c.requires.small_a, to_z_pos w128 c.args.b c.requires.small_b) in
    let d : c.unsigned_abs.result ≡ v.den = search rules in
    let n : c.unsigned_abs-in-Ok.result ≡ unsigned_abs v.num = search rules in
    rw (d, n) (record { same = common_parts v c.args.a c.args.b c.requires.b e; some = positive v })
