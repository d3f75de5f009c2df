use Rattle.std.proofs.Common.{rules, arith, sym, ◌≡◌, ◌+◌, ◌-◌, ◌*◌, ◌/◌, ◌^◌}
use Rattle.frac128.proofs.ProductLemmas.{none_by_num, none_by_den, some_sized, lowest_sizes-dyadic, power-over, power-within}
use Rattle.frac128.proofs.products.dyadic_product.Goals as goal
use Rattle.frac128.proofs.products.dyadic_product.Goals.{then-num-ne0-via-then-num-ne0, then-num-ne0-via-else-num-ne0+then-twos-gt126}

pub returns-in_err-num : goal.returns-in_err-num
returns-in_err-num c =
    let l = c.shared_twos-left in
    let r = c.shared_twos-right in
    let e = lowest_sizes-dyadic c.args.x c.args.y c.args.i c.args.j l.result r.result c.requires.first c.requires.second l.ensures.value r.ensures.value l.ensures.within r.ensures.within in
    let n = none_by_num (c.args.x / 2 ^ l.result * (c.args.y / 2 ^ r.result)) (2 ^ (c.args.i - r.result + (c.args.j - l.result))) (omega (arith, c.in_err-num.ensures)) in
    rw (e, n) (search rules)

pub returns-then-num-ne0 : goal.returns-then-num-ne0
returns-then-num-ne0 c =
    let l = c.shared_twos-left in
    let r = c.shared_twos-right in
    let e = lowest_sizes-dyadic c.args.x c.args.y c.args.i c.args.j l.result r.result c.requires.first c.requires.second l.ensures.value r.ensures.value l.ensures.within r.ensures.within in
    let n = c.in_ok-num.ensures in
    let t = c.args.i - r.result + (c.args.j - l.result) in
    rw (e, ← n.1) (sym (elim c.then-num-ne0.branch [
      | then-num-ne0-via-then-num-ne0 w ↦ none_by_num c.in_ok-num.num (2 ^ t) (omega arith)
      | then-num-ne0-via-else-num-ne0+then-twos-gt126 w ↦ none_by_den c.in_ok-num.num (2 ^ t) (power-over t (omega arith))
    ]))

pub returns : goal.returns
returns c =
    let l = c.shared_twos-left in
    let r = c.shared_twos-right in
    let e = lowest_sizes-dyadic c.args.x c.args.y c.args.i c.args.j l.result r.result c.requires.first c.requires.second l.ensures.value r.ensures.value l.ensures.within r.ensures.within in
    let n = c.in_ok-num.ensures in
    let t = c.args.i - r.result + (c.args.j - l.result) in
    let p : c.power_of_two.result ≡ 2 ^ t = c.power_of_two.ensures in
    rw (e, ← n.1, p) (sym (some_sized c.in_ok-num.num (2 ^ t) (omega arith) (power-within t (omega arith))))
