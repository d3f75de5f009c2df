use Rattle.std.proofs.Common.{rules, arith, sym, ◌*◌, ◌/◌}
use Rattle.frac128.proofs.ProductLemmas.{none_by_num, none_by_den, some_sized, lowest_sizes-crossed}
use Rattle.frac128.proofs.products.long_product.Goals as goal
use Rattle.frac128.proofs.products.long_product.Goals.{then-num-ne0-via-then-num-ne0, then-num-ne0-via-else-num-ne0+then-den-ne0}

pub returns-in_err-num : goal.returns-in_err-num
returns-in_err-num c =
    let e = lowest_sizes-crossed c.args.x c.args.b c.args.y c.args.d c.gcd_u128-left.result c.gcd_u128-right.result c.requires.some_b c.requires.some_d c.requires.first c.requires.second c.gcd_u128-left.ensures.value c.gcd_u128-right.ensures.value in
    let n = none_by_num (c.args.x / c.gcd_u128-left.result * (c.args.y / c.gcd_u128-right.result)) (c.args.b / c.gcd_u128-right.result * (c.args.d / c.gcd_u128-left.result)) (omega (arith, c.in_err-num.ensures)) in
    rw (e, n) (search rules)

pub returns-in_err-den : goal.returns-in_err-den
returns-in_err-den c =
    let e = lowest_sizes-crossed c.args.x c.args.b c.args.y c.args.d c.gcd_u128-left.result c.gcd_u128-right.result c.requires.some_b c.requires.some_d c.requires.first c.requires.second c.gcd_u128-left.ensures.value c.gcd_u128-right.ensures.value in
    let n = none_by_den (c.args.x / c.gcd_u128-left.result * (c.args.y / c.gcd_u128-right.result)) (c.args.b / c.gcd_u128-right.result * (c.args.d / c.gcd_u128-left.result)) (omega (arith, c.in_err-den.ensures)) in
    rw (e, n) (search rules)

pub returns-then-num-ne0 : goal.returns-then-num-ne0
returns-then-num-ne0 c =
    let e = lowest_sizes-crossed c.args.x c.args.b c.args.y c.args.d c.gcd_u128-left.result c.gcd_u128-right.result c.requires.some_b c.requires.some_d c.requires.first c.requires.second c.gcd_u128-left.ensures.value c.gcd_u128-right.ensures.value in
    let n = c.in_ok-num.ensures in
    let d = c.in_ok-den.ensures in
    rw (e, ← n.1, ← d.1) (sym (elim c.then-num-ne0.branch [
      | then-num-ne0-via-then-num-ne0 w ↦ none_by_num c.in_ok-num.num c.in_ok-den.den (omega arith)
      | then-num-ne0-via-else-num-ne0+then-den-ne0 w ↦ none_by_den c.in_ok-num.num c.in_ok-den.den (omega arith)
    ]))

pub returns : goal.returns
returns c =
    let e = lowest_sizes-crossed c.args.x c.args.b c.args.y c.args.d c.gcd_u128-left.result c.gcd_u128-right.result c.requires.some_b c.requires.some_d c.requires.first c.requires.second c.gcd_u128-left.ensures.value c.gcd_u128-right.ensures.value in
    let n = c.in_ok-num.ensures in
    let d = c.in_ok-den.ensures in
    rw (e, ← n.1, ← d.1) (sym (some_sized c.in_ok-num.num c.in_ok-den.den (omega arith) (omega arith)))
