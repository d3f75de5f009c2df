use Rattle.std.proofs.Common.{◌≡◌, ap₂, ◌∙◌, ◌+◌, pos, ◌+ℤ◌, ◌-ℤ◌, rules, arith, to_z, of_z, FitsSigned}
use Rattle.std.specs.Int.{w32}
use Rattle.std.proofs.lemmas.Int.{ints, to_z-of_z}
use Rattle.sparse_tensor.specs.Grades.{keeps, keeps_c}
use Rattle.sparse_tensor.proofs.grades.keeps_c.Goals as goal

pub returns : goal.returns
unfolding keeps_c
returns c =
    let difference = pos c.args.i -ℤ pos (c.args.j + c.args.k) in
    let n = c.law_of-law.result.per_n in
    let g = c.law_of-law.result.per_g in
    let first : to_z w32 c.args.i ≡ pos c.args.i = search rules in
    let others : to_z w32 (of_z w32 (to_z w32 c.args.j +ℤ to_z w32 c.args.k)) ≡ pos (c.args.j + c.args.k) = search rules in
    let fits : FitsSigned w32 difference = omega (arith, ints) in
    let left : to_z w32 (of_z w32 (to_z w32 c.args.i -ℤ to_z w32 (of_z w32 (to_z w32 c.args.j +ℤ to_z w32 c.args.k)))) ≡ difference = ap₂ (λ x y. to_z w32 (of_z w32 (x -ℤ y))) first others ∙ to_z-of_z w32 difference fits in
    let right : to_z w32 (of_z w32 (to_z w32 (of_z w32 g) -ℤ to_z w32 (of_z w32 n))) ≡ g -ℤ n = search rules in
    c.keeps.ensures ∙ ap₂ (keeps c.args.shape) left right ∙ ap₂ (λ g n. keeps c.args.shape difference (g -ℤ n)) c.law_of-law.ensures.genus c.law_of-law.ensures.places
