use Rattle.std.proofs.Common.{rules, ◌≡◌, to_z, of_z}
use Rattle.frac128.proofs.Words.{w128}
use Rattle.frac128.proofs.fraction.Frac.of_lowest.Goals as goal

pub kept-requires : goal.kept-requires
kept-requires c =
    let n : to_z w128 (of_z w128 c.args.num) ≡ c.args.num = search rules in
    rw n (record { positive = c.requires.positive; coprime = c.requires.lowest; num_fits = c.requires.num_fits; den_fits = c.requires.den_fits })
