use Rattle.std.proofs.Common.{◌≡◌, ap₂, ◌∙◌, ◌+◌, pos, ◌+ℤ◌, ◌*ℤ◌, ◌-ℤ◌, rules, arith, to_z, of_z, FitsSigned}
use Rattle.std.specs.Int.{w32}
use Rattle.std.proofs.lemmas.Int.{ints}
use Rattle.sparse_tensor.specs.Grades.{keeps, keeps_a}
use Rattle.sparse_tensor.proofs.grades.keeps_a.Goals as goal

pub returns : goal.returns
unfolding keeps_a
returns c =
    let sum = pos (c.args.i + c.args.j + c.args.k) in
    let n = c.law_of-law.result.per_n in
    let g = c.law_of-law.result.per_g in
    let triple_fits : FitsSigned w32 (pos 3 *ℤ n) = omega (arith, ints) in
    let fits : FitsSigned w32 (pos 3 *ℤ n -ℤ g) = omega (arith, ints) in
    let left : to_z w32 (of_z w32 (to_z w32 (of_z w32 (to_z w32 c.args.i +ℤ to_z w32 c.args.j)) +ℤ to_z w32 c.args.k)) ≡ sum = search rules in
    let right : to_z w32 (of_z w32 (to_z w32 (of_z w32 (pos 3 *ℤ to_z w32 (of_z w32 n))) -ℤ to_z w32 (of_z w32 g))) ≡ pos 3 *ℤ n -ℤ g = search rules in
    c.keeps.ensures ∙ ap₂ (keeps c.args.shape) left right ∙ ap₂ (λ n g. keeps c.args.shape sum (pos 3 *ℤ n -ℤ g)) c.law_of-law.ensures.places c.law_of-law.ensures.genus
