use Rattle.std.proofs.Common.{rules, ◌∙◌, ◌≡◌, pos, unsigned_abs, to_z, of_z, ◌^◌, int_div}
use Rattle.frac128.proofs.Words.{w128, gcd}
use Rattle.frac128.proofs.FractionLemmas.{twos_kept, twos_value}
use Rattle.frac128.proofs.fraction.Frac.over_twos.Goals as goal

pub kept-requires : goal.kept-requires
kept-requires c =
    let e : 2 ^ c.shared_twos-shared.result ≡ gcd (unsigned_abs c.args.num) (2 ^ c.args.twos) = search rules in
    let n : to_z w128 (of_z w128 c.shifted_part.result) ≡ int_div c.args.num (pos (2 ^ c.shared_twos-shared.result)) = search rules in
    rw (n, c.power_of_two.ensures) (twos_kept c.args.num c.args.twos c.shared_twos-shared.result e c.shared_twos-shared.ensures.within c.requires.den_fits c.requires.num_fits)

pub returns : goal.returns
returns c =
    let e : 2 ^ c.shared_twos-shared.result ≡ gcd (unsigned_abs c.args.num) (2 ^ c.args.twos) = search rules in
    let n : to_z w128 (of_z w128 c.shifted_part.result) ≡ int_div c.args.num (pos (2 ^ c.shared_twos-shared.result)) = search rules in
    c.kept.ensures ∙ rw (n, c.power_of_two.ensures) (twos_value c.args.num c.args.twos c.shared_twos-shared.result e c.shared_twos-shared.ensures.within)
