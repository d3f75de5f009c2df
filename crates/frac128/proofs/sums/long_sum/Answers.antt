use Rattle.std.proofs.Common.{rules, arith, ◌∙◌, ◌≡◌, ◌*◌, ◌/◌, pos, to_z, of_z, int_div, refl}
use Rattle.frac128.proofs.Words.{w128}
use Rattle.frac128.proofs.SumLemmas.{common-none, common-over, common-some}
use Rattle.frac128.proofs.sums.long_sum.Goals as goal

pub returns-in_err-whole : goal.returns-in_err-whole
returns-in_err-whole c = c.from_residual.ensures ∙ common-none c.args.x c.args.y c.args.b c.args.d c.gcd_u128-common.ensures.value (search rules)

pub returns-in_err-den : goal.returns-in_err-den
returns-in_err-den c = c.from_residual-in_err-den.ensures ∙ common-over c.args.x c.args.y c.args.b c.args.d c.gcd_u128-common.ensures.value c.in_ok-whole.whole {k = c.gcd_u128-shared.result} (search rules) (search rules) refl (omega (arith, c.in_err-den.ensures))

pub returns-then-den-ne0 : goal.returns-then-den-ne0
returns-then-den-ne0 c =
    let m : c.in_ok-den.den ≡ c.args.b / c.gcd_u128-common.result * (c.args.d / c.gcd_u128-shared.result) = search rules in
    common-over c.args.x c.args.y c.args.b c.args.d c.gcd_u128-common.ensures.value c.in_ok-whole.whole (search rules) (search rules) m (omega arith)

pub returns : goal.returns
returns c =
    let m : c.in_ok-den.den ≡ c.args.b / c.gcd_u128-common.result * (c.args.d / c.gcd_u128-shared.result) = search rules in
    let z : to_z w128 (of_z w128 c.part_of.result) ≡ int_div c.in_ok-whole.whole (pos c.gcd_u128-shared.result) = search rules in
    rw z (common-some c.args.x c.args.y c.args.b c.args.d c.gcd_u128-common.ensures.value c.in_ok-whole.whole (search rules) (search rules) m (omega arith))
