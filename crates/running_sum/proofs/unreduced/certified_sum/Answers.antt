use Rattle.std.proofs.Common.{rules, arith, refl, ◌≡◌, ◌*◌, ◌-◌, pos, to_z, of_z, ap₂, ◌∙◌, sym, max}
use Rattle.std.specs.Int.{w128}
use Rattle.std.specs.Prelude.{◌^◌}
use Rattle.airy_math.specs.Obtained.{both_obtained, obtained_sum}
use Rattle.running_sum.specs.Sizes.{IsProduct, IsSum, IsCommon}
use Rattle.running_sum.proofs.UnreducedLemmas.{size-odds, size-dens, sum_of}
use Rattle.running_sum.proofs.unreduced.certified_sum.Goals as goal
use Rattle.airy_math.specs.RationalLaws.{positive_times}

pub overflow_mul-result : goal.overflow_mul-result
overflow_mul-result c = let h = size-odds c.a.inside.odd c.in_ok-f.f c.bits.result c.bits-2.result 0 (search rules) (search rules) (omega arith) in record { fits = omega arith }

pub invariant_of-result : goal.invariant_of-result
invariant_of-result c =
    let s : IsSum c.in_ok-x.x c.in_ok-y.y c.in_ok-short_sum.field-0 = search rules in
    let n : to_z w128 (of_z w128 c.in_ok-short_sum.field-0) ≡ c.in_ok-short_sum.field-0 = search rules in
    let t : c.max-twos.result ≡ max c.a.inside.twos c.b.inside.twos = search rules in
    rw n (record { num_fits = s.fits; den_fits = size-dens c.a.inside.odd c.in_ok-f.f c.bits.result c.bits-2.result c.max-twos.result (search rules) (search rules) (omega arith); twos_fit = (let a = c.a.invariant.twos_fit in let b = c.b.invariant.twos_fit in omega arith) })

pub returns : goal.returns
returns c =
    let o = c.a.inside.odd in
    let k = c.a.inside.twos in
    let l = c.b.inside.twos in
    let f = c.in_ok-f.f in
    let t = c.max-twos.result in
    let e : t ≡ max k l = search rules in
    let w : IsCommon o c.b.inside.odd (f, c.in_ok-f.g) = search rules in
    let x : IsProduct c.a.inside.num (pos (f * 2 ^ (t - k))) c.in_ok-x.x = search rules in
    let y : IsProduct c.b.inside.num (pos (c.in_ok-f.g * 2 ^ (t - l))) c.in_ok-y.y = search rules in
    let s : IsSum c.in_ok-x.x c.in_ok-y.y c.in_ok-short_sum.field-0 = search rules in
    let n : to_z w128 (of_z w128 c.in_ok-short_sum.field-0) ≡ c.in_ok-short_sum.field-0 = search rules in
    let d = size-dens o f c.bits.result c.bits-2.result t (search rules) (search rules) (omega arith) in
    rw n (sum_of c.a.inside.num c.b.inside.num c.in_ok-x.x c.in_ok-y.y c.in_ok-short_sum.field-0 o c.b.inside.odd k l f c.in_ok-f.g (o * f) t
    (positive_times o f (omega arith) w.some) refl (sym w.same) (omega arith) (omega arith) d x.value y.value s.value x.fits y.fits s.fits
    ∙ ap₂ (both_obtained obtained_sum) c.a.view_is c.b.view_is)
