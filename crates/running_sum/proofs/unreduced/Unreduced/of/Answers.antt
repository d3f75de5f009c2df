use Rattle.std.proofs.Common.{rules, arith, ◌≡◌, ◌/◌, to_z, of_z, unsigned_abs}
use Rattle.std.specs.Int.{w128}
use Rattle.std.specs.Prelude.{◌^◌}
use Rattle.std.specs.Int.Count.{count_trailing_zeros}
use Rattle.running_sum.proofs.NumberLemmas.{zeros_split}
use Rattle.running_sum.proofs.UnreducedLemmas.{from_fraction, few_twos}
use Rattle.running_sum.proofs.unreduced.Unreduced.of.Goals as goal

pub invariant_of-result : goal.invariant_of-result
invariant_of-result c =
    let v = c.args.v in
    let n : to_z w128 (of_z w128 c.parts-num.result.0) ≡ v.num = search rules in
    let d : unsigned_abs (to_z w128 (of_z w128 c.parts-num.result.1)) ≡ v.den = search rules in
    let s = zeros_split 128 v.den c.range_fact.ensures.positive (omega arith) in
    rw (n, d) (record { num_fits = c.range_fact.ensures.range.num; den_fits = rw s c.range_fact.ensures.range.den; twos_fit = few_twos 127 _ _ v.den s c.range_fact.ensures.positive c.range_fact.ensures.range.den })

pub returns : goal.returns
returns c =
    let v = c.args.v in
    let n : to_z w128 (of_z w128 c.parts-num.result.0) ≡ v.num = search rules in
    let d : unsigned_abs (to_z w128 (of_z w128 c.parts-num.result.1)) ≡ v.den = search rules in
    let s = zeros_split 128 v.den c.range_fact.ensures.positive (omega arith) in
    rw (n, d) (from_fraction v (v.den / 2 ^ count_trailing_zeros 128 v.den) (count_trailing_zeros 128 v.den) s)
