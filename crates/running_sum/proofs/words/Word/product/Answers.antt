use Rattle.std.proofs.Common.{rules, arith, ◌≡◌, to_z, of_z, ◌*ℤ◌, ap₂, ◌∙◌, Some}
use Rattle.std.specs.Int.{w64, w128}
use Rattle.airy_math.specs.Obtained.{◌⊛◌}
use Rattle.running_sum.proofs.UnreducedLemmas.{word_product, words_fit}
use Rattle.running_sum.proofs.words.Word.product.Goals as goal
use Rattle.frac128.proofs.SignLemmas.{small_number}

pub invariant_of-result : goal.invariant_of-result
invariant_of-result c =
    let n = c.self.inside.num in
    let m = c.o.inside.num in
    let f = words_fit n m (search rules) (search rules) in
    let fits = small_number (n *ℤ m) f in
    let a : to_z w128 (of_z w128 (to_z w64 (of_z w64 n))) ≡ n = search rules in
    let b : to_z w128 (of_z w128 (to_z w64 (of_z w64 m))) ≡ m = search rules in
    let p : to_z w128 (of_z w128 (n *ℤ m)) ≡ n *ℤ m = search (rules, fits) in
    rw (a, b, p) (record { num_fits = f; den_fits = search rules; twos_fit = (let i = c.self.invariant in let j = c.o.invariant in omega arith) })

pub returns : goal.returns
returns c =
    let n = c.self.inside.num in
    let m = c.o.inside.num in
    let f = words_fit n m (search rules) (search rules) in
    let fits = small_number (n *ℤ m) f in
    let a : to_z w128 (of_z w128 (to_z w64 (of_z w64 n))) ≡ n = search rules in
    let b : to_z w128 (of_z w128 (to_z w64 (of_z w64 m))) ≡ m = search rules in
    let p : to_z w128 (of_z w128 (n *ℤ m)) ≡ n *ℤ m = search (rules, fits) in
    rw (a, b, p) (word_product n m c.self.inside.odd c.o.inside.odd c.self.inside.twos c.o.inside.twos c.self.invariant.odd_above c.o.invariant.odd_above f (search rules)
    ∙ ap₂ (λ x y. Some x ⊛ Some y) c.self.view_is c.o.view_is)
