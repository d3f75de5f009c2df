use Rattle.std.proofs.Common.{rules, arith, ◌≡◌, ◌*◌, ◌+◌, ◌<◌, to_z, of_z, ◌*ℤ◌, ap₂, sym, ◌∙◌, Some}
use Rattle.std.specs.Int.{w64}
use Rattle.std.specs.Prelude.{◌^◌, FitsSigned}
use Rattle.airy_math.specs.Obtained.{◌⊛◌}
use Rattle.running_sum.proofs.UnreducedLemmas.{word_product, some_of, size-shifted}
use Rattle.running_sum.proofs.words.Word.times.Goals as goal
use Rattle.airy_math.specs.RationalLaws.{positive_times}
use Rattle.frac128.proofs.SignLemmas.{word_size}

pub returns : goal.returns
returns c =
    let n = c.self.inside.num *ℤ c.o.inside.num in
    let o = c.self.inside.odd * c.o.inside.odd in
    let t = c.self.inside.twos + c.o.inside.twos in
    let en : to_z w64 (of_z w64 c.in_ok-checked_mul.field-0) ≡ n = search rules in
    let eo : c.in_ok-checked_mul-2.field-0 ≡ o = search rules in
    let f : FitsSigned w64 n = search rules in
    let l = word_size n f in
    let h : o < 2 ^ 64 = search rules in
    let a = c.self.invariant.odd_above in
    let b = c.o.invariant.odd_above in
    rw (en, eo) (sym (some_of n o t (positive_times c.self.inside.odd c.o.inside.odd a b))
    ∙ word_product c.self.inside.num c.o.inside.num c.self.inside.odd c.o.inside.odd c.self.inside.twos c.o.inside.twos a b (omega arith) (size-shifted o 64 t h (omega arith))
    ∙ ap₂ (λ x y. Some x ⊛ Some y) c.self.view_is c.o.view_is)
