use Rattle.std.proofs.Common.{arith, ap, ap₂, ◌∙◌, ◌≡◌, ◌≤◌, ◌+◌, ◌*◌, suc, subst, sym, pos, ◌-ℤ◌, to_z, of_z, w64}
use Rattle.index_lists.proofs.Words.{ints, unsigned_abs, law_number}
use Rattle.index_lists.proofs.WindowLemmas.{law_small}
use Rattle.index_lists.proofs.letter.room_of.Goals as goal

pub overflow_sub-result : goal.overflow_sub-result
overflow_sub-result c = omega (arith, ints, c.number_of.ensures.small)

pub returns-clause-value : goal.returns-clause-value
returns-clause-value c =
    let whole : to_z w64 (of_z w64 (to_z w64 (of_z w64 c.number_of.result) -ℤ to_z w64 (of_z w64 c.from.result))) ≡ c.number_of.result -ℤ pos c.sum.result = omega (arith, ints, c.number_of.ensures.small) in
    whole ∙ ap₂ ◌-ℤ◌ (c.number_of.ensures.value ∙ ap₂ (law_number c.args.law) c.g.ensures c.places.ensures) (ap pos c.sum.ensures)

pub returns-clause-most : goal.returns-clause-most
returns-clause-most c =
    let small = subst (λ z. unsigned_abs z ≤ 99 * suc c.g.result + 99 * c.places.result) (sym c.number_of.ensures.value) (law_small c.args.law c.g.result c.places.result c.requires) in
    omega (arith, ints, small)
