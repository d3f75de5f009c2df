use Rattle.std.proofs.Common.{rules, arith, ◌≡◌, to_z, of_z, ◌*ℤ◌, refl}
use Rattle.std.specs.Int.{w128}
use Rattle.running_sum.proofs.UnreducedLemmas.{size-product}
use Rattle.running_sum.proofs.sizes.short_product.Goals as goal
use Rattle.frac128.proofs.SignLemmas.{small_number}

pub overflow_mul-result : goal.overflow_mul-result
overflow_mul-result c =
    let a : to_z w128 (of_z w128 c.args.a) ≡ c.args.a = search rules in
    let b : to_z w128 (of_z w128 c.args.b) ≡ c.args.b = search rules in
    rw (a, b) (small_number _ (size-product c.args.a c.args.b c.bits.result c.bits-2.result (search rules) (search rules) (omega arith)))

pub returns : goal.returns
returns c =
    let a : to_z w128 (of_z w128 c.args.a) ≡ c.args.a = search rules in
    let b : to_z w128 (of_z w128 c.args.b) ≡ c.args.b = search rules in
    let f = size-product c.args.a c.args.b c.bits.result c.bits-2.result (search rules) (search rules) (omega arith) in
    let fits = small_number (c.args.a *ℤ c.args.b) f in
    let p : to_z w128 (of_z w128 (c.args.a *ℤ c.args.b)) ≡ c.args.a *ℤ c.args.b = search (rules, fits) in
    rw (a, b, p) (record { value = refl; fits = f })
