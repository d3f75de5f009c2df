use Rattle.std.proofs.Common.{rules, arith, ◌≡◌, ◌<◌, ◌*◌, ◌%◌, pos, to_z, of_z, ◌*ℤ◌, ◌+ℤ◌, unsigned_abs, ap, subst}
use Rattle.std.specs.Int.{w128}
use Rattle.std.specs.Prelude.{◌^◌}
use Rattle.std.proofs.Math.Nat.{mod-eq_of_lt}
use Rattle.std.proofs.lemmas.Int.{to_z_pos, unsigned_abs-mul}
use Rattle.frac128.proofs.SignLemmas.{small_number}
use Rattle.running_sum.proofs.UnreducedLemmas.{one_power, sum_fits}
use Rattle.running_sum.proofs.sizes.raised_sum.Goals as goal

pub returns : goal.returns
returns c =
    let a = c.args.a in
    let b = c.args.b in
    let p = 1 * 2 ^ c.args.twos in
    let m = b *ℤ pos p in
    let few : c.args.twos < 127 = search rules in
    let x : unsigned_abs a * 2 ^ 0 < 2 ^ 126 = search rules in
    let y : unsigned_abs b * 2 ^ c.args.twos < 2 ^ 126 = search rules in
    let one : p ≡ 2 ^ c.args.twos = omega arith in
    let small : p < 2 ^ 127 = one_power c.args.twos few in
    let below : p % 2 ^ 128 ≡ p = mod-eq_of_lt (omega arith) in
    let f : unsigned_abs m < 2 ^ 126 = (let e = unsigned_abs-mul b (pos p) in let z : unsigned_abs b * p < 2 ^ 126 = rw one y in omega arith) in
    let g = sum_fits a m (omega arith) f in
    let fits = small_number m (omega arith) in
    let sum = small_number (a +ℤ m) g in
    let ea : to_z w128 (of_z w128 a) ≡ a = search rules in
    let eb : to_z w128 (of_z w128 b) ≡ b = search rules in
    let em : to_z w128 (of_z w128 m) ≡ m = search (rules, fits) in
    let es : to_z w128 (of_z w128 (a +ℤ m)) ≡ a +ℤ m = search (rules, sum) in
    let wide : unsigned_abs m < 2 ^ 127 = omega arith in
    rw (ea, eb, below, to_z_pos w128 p small, em, es) (record { value = ap (λ q. a +ℤ b *ℤ pos q) one; raised_fits = subst (λ q. unsigned_abs (b *ℤ pos q) < 2 ^ 127) one wide; fits = g })
