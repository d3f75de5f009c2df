use Rattle.std.proofs.Common.{rules, refl, ◌≡◌, pos, to_z, of_z}
use Rattle.frac128.proofs.Words.{w128, to_z_pos}
use Rattle.frac128.proofs.fraction.Frac.kept.Goals as goal

pub overflow_cast-result : goal.overflow_cast-result
overflow_cast-result c = record { sfits = c.requires.den_fits }

pub invariant_of-result : goal.invariant_of-result
invariant_of-result c =
    let n : to_z w128 (of_z w128 c.args.num) ≡ c.args.num = search rules in
    let d : to_z w128 c.args.den ≡ pos c.args.den = to_z_pos w128 c.args.den c.requires.den_fits in
    rw (n, d) (refl, c.requires)

pub returns : goal.returns
returns c =
    let n : to_z w128 (of_z w128 c.args.num) ≡ c.args.num = search rules in
    let d : to_z w128 c.args.den ≡ pos c.args.den = to_z_pos w128 c.args.den c.requires.den_fits in
    rw (n, d) refl
