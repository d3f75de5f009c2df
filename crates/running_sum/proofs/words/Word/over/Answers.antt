use Rattle.std.proofs.Common.{rules, ◌≡◌, ◌/◌, to_z, of_z, ap}
use Rattle.std.specs.Int.{w64}
use Rattle.std.specs.Prelude.{◌^◌}
use Rattle.std.specs.Int.Count.{count_trailing_zeros}
use Rattle.airy_math.specs.Rational.{◌/ℚ◌}
use Rattle.running_sum.proofs.NumberLemmas.{zeros_split}
use Rattle.running_sum.proofs.UnreducedLemmas.{odd_above, few_twos}
use Rattle.running_sum.proofs.words.Word.over.Goals as goal

pub invariant_of-result : goal.invariant_of-result
invariant_of-result c =
    let d = c.args.den in
    let t = count_trailing_zeros 64 d in
    let s = zeros_split 64 d c.requires (search rules) in
    record { odd_above = odd_above (d / 2 ^ t) t d s c.requires; twos_fit = few_twos 64 (d / 2 ^ t) t d s c.requires (search rules) }

pub returns : goal.returns
returns c =
    let n : to_z w64 (of_z w64 c.args.num) ≡ c.args.num = search rules in
    rw n (ap (λ d. c.args.num /ℚ d) (zeros_split 64 c.args.den c.requires (search rules)))
