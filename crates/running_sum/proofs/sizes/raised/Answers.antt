use Rattle.std.proofs.Common.{rules, arith, ◌≡◌, ◌*◌, ◌%◌, pos, to_z, of_z, ◌*ℤ◌, refl}
use Rattle.std.specs.Int.{w128}
use Rattle.std.specs.Prelude.{◌^◌}
use Rattle.std.proofs.Math.Nat.{mod-eq_of_lt}
use Rattle.std.proofs.lemmas.Int.{to_z_pos}
use Rattle.running_sum.proofs.UnreducedLemmas.{size-shifted, size-raised}
use Rattle.running_sum.proofs.sizes.raised.Goals as goal
use Rattle.frac128.proofs.SignLemmas.{small_number}

pub overflow_cast-result-2 : goal.overflow_cast-result-2
overflow_cast-result-2 c =
    let h = size-shifted c.args.k c.bits-2.result c.args.twos (search rules) (omega arith) in
    let e : c.args.k * 2 ^ c.args.twos % 2 ^ 128 ≡ c.args.k * 2 ^ c.args.twos = mod-eq_of_lt (omega arith) in
    rw e (record { sfits = h })

pub overflow_mul-result : goal.overflow_mul-result
overflow_mul-result c =
    let h = size-shifted c.args.k c.bits-2.result c.args.twos (search rules) (omega arith) in
    let e : c.args.k * 2 ^ c.args.twos % 2 ^ 128 ≡ c.args.k * 2 ^ c.args.twos = mod-eq_of_lt (omega arith) in
    let a : to_z w128 (of_z w128 c.args.a) ≡ c.args.a = search rules in
    rw (e, a, to_z_pos w128 (c.args.k * 2 ^ c.args.twos) h) (small_number _ (size-raised c.args.a c.args.k c.bits.result c.bits-2.result c.args.twos (search rules) (search rules) (omega arith)))

pub returns : goal.returns
returns c =
    let h = size-shifted c.args.k c.bits-2.result c.args.twos (search rules) (omega arith) in
    let e : c.args.k * 2 ^ c.args.twos % 2 ^ 128 ≡ c.args.k * 2 ^ c.args.twos = mod-eq_of_lt (omega arith) in
    let a : to_z w128 (of_z w128 c.args.a) ≡ c.args.a = search rules in
    let z = c.args.a *ℤ pos (c.args.k * 2 ^ c.args.twos) in
    let f = size-raised c.args.a c.args.k c.bits.result c.bits-2.result c.args.twos (search rules) (search rules) (omega arith) in
    let fits = small_number z f in
    let p : to_z w128 (of_z w128 z) ≡ z = search (rules, fits) in
    rw (e, a, to_z_pos w128 (c.args.k * 2 ^ c.args.twos) h, p) (record { value = refl; fits = f })
