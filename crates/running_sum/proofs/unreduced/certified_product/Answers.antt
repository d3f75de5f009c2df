use Rattle.std.proofs.Common.{rules, arith, ◌≡◌, ◌+◌, to_z, of_z, ap₂, ◌∙◌}
use Rattle.std.specs.Int.{w128}
use Rattle.airy_math.specs.Obtained.{◌⊛◌}
use Rattle.running_sum.specs.Sizes.{IsProduct}
use Rattle.running_sum.proofs.UnreducedLemmas.{size-odds, size-dens, product_of}
use Rattle.running_sum.proofs.unreduced.certified_product.Goals as goal

pub overflow_mul-result : goal.overflow_mul-result
overflow_mul-result c = let h = size-odds c.a.inside.odd c.b.inside.odd c.bits.result c.bits-2.result 0 (search rules) (search rules) (omega arith) in record { fits = omega arith }

pub invariant_of-result : goal.invariant_of-result
invariant_of-result c =
    let p : IsProduct c.a.inside.num c.b.inside.num c.in_ok-num.num = search rules in
    let n : to_z w128 (of_z w128 c.in_ok-num.num) ≡ c.in_ok-num.num = search rules in
    rw n (record { num_fits = p.fits; den_fits = size-dens c.a.inside.odd c.b.inside.odd c.bits.result c.bits-2.result (c.a.inside.twos + c.b.inside.twos) (search rules) (search rules) (omega arith); twos_fit = omega arith })

pub returns : goal.returns
returns c =
    let p : IsProduct c.a.inside.num c.b.inside.num c.in_ok-num.num = search rules in
    let n : to_z w128 (of_z w128 c.in_ok-num.num) ≡ c.in_ok-num.num = search rules in
    let d = size-dens c.a.inside.odd c.b.inside.odd c.bits.result c.bits-2.result (c.a.inside.twos + c.b.inside.twos) (search rules) (search rules) (omega arith) in
    rw (n, p.value) (product_of c.a.inside.num c.b.inside.num c.a.inside.odd c.b.inside.odd c.a.inside.twos c.b.inside.twos (rw p.value at p.fits) d ∙ ap₂ ◌⊛◌ c.a.view_is c.b.view_is)
