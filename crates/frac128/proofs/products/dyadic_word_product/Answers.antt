use Rattle.std.proofs.Common.{arith, sym, ◌≡◌, ◌+◌, ◌-◌, ◌^◌}
use Rattle.frac128.proofs.ProductLemmas.{lowest_sizes-dyadic, word_sized, power-within}
use Rattle.frac128.proofs.products.dyadic_word_product.Goals as goal

pub returns : goal.returns
returns c =
    let l = c.shared_twos-left in
    let r = c.shared_twos-right in
    let e = lowest_sizes-dyadic c.args.x c.args.y c.args.i c.args.j l.result r.result c.requires.first c.requires.second l.ensures.value r.ensures.value l.ensures.within r.ensures.within in
    let t = c.args.i - r.result + (c.args.j - l.result) in
    let p : c.power_of_two.result ≡ 2 ^ t = c.power_of_two.ensures in
    rw (e, p) (sym (word_sized c.args.x c.args.y (2 ^ l.result) (2 ^ r.result) (2 ^ t) c.requires.words.0 c.requires.words.1 (power-within t (omega arith))))
