use Rattle.std.proofs.Common.{rules, arith, ◌≡◌, ◌/◌, ◌<◌, to_z, of_z, unsigned_abs, ap, ap₂, ◌∙◌}
use Rattle.std.specs.Int.{w128, w64}
use Rattle.std.specs.Prelude.{◌^◌}
use Rattle.std.specs.Int.Count.{count_trailing_zeros}
use Rattle.airy_math.specs.Rational.{◌/ℚ◌, parts_lem}
use Rattle.running_sum.proofs.NumberLemmas.{zeros_split}
use Rattle.running_sum.proofs.UnreducedLemmas.{odd_above}
use Rattle.running_sum.proofs.words.Word.of.Goals as goal

pub invariant_of-result : goal.invariant_of-result
invariant_of-result c =
    let v = c.args.v in
    let d : unsigned_abs (to_z w128 (of_z w128 c.parts-num.result.1)) ≡ v.den = search rules in
    let t = count_trailing_zeros 128 v.den in
    let f : count_trailing_zeros 128 (unsigned_abs (to_z w128 (of_z w128 c.parts-num.result.1))) < 64 = search rules in
    rw d (record { odd_above = odd_above (v.den / 2 ^ t) t v.den (zeros_split 128 v.den c.range_fact.ensures.positive (omega arith)) c.range_fact.ensures.positive; twos_fit = rw d at f })

pub returns : goal.returns
returns c =
    let v = c.args.v in
    let n : to_z w64 (of_z w64 c.in_ok-num.num) ≡ v.num = search rules in
    let d : unsigned_abs (to_z w128 (of_z w128 c.parts-num.result.1)) ≡ v.den = search rules in
    rw (n, d) (ap (λ e. v.num /ℚ e) (zeros_split 128 v.den c.range_fact.ensures.positive (omega arith)) ∙ parts_lem v)

pub returns-then-den-eq0 : goal.returns-then-den-eq0
returns-then-den-eq0 c =
    let v = c.args.v in
    let n : to_z w64 (of_z w64 c.in_ok-num.num) ≡ v.num = search rules in
    let d : unsigned_abs (to_z w128 (of_z w128 c.parts-num.result.1)) ≡ v.den = search rules in
    c.over.ensures ∙ ap₂ ◌/ℚ◌ n d ∙ parts_lem v
