use Rattle.std.proofs.Common.{◌≡◌, ℕ, rules, sym, ◌∙◌, subst, List}
use Rattle.airy_math.specs.Rational.{ℚ}
use Rattle.std.proofs.lemmas.List.Sorted.{answers_always}
use Rattle.sparse_tensor.specs.Rows.{IsAscendingByPair, FindsPair}
use Rattle.sparse_tensor.proofs.RowLemmas.{finds-pair}
use Rattle.sparse_tensor.proofs.pair_row.PairRow.find.Goals as goal

pub returns : goal.returns
returns c =
    let row : c.deref.result.now ≡ c.args.self.now = cc in
    let ascends : IsAscendingByPair c.deref.result.now =
    subst (λ (u : List (ℕ × ℕ × ℚ)). IsAscendingByPair u) (c.self.view_is ∙ sym row) c.self.invariant in
    let at = c.binary_search_by_key.ensures.position (λ (y : ℕ × ℕ × ℚ). (y.0, y.1)) (answers_always _ _ _ (λ f a r g h. search rules)) in
    subst (λ (u : List (ℕ × ℕ × ℚ)). FindsPair c.args.j c.args.k u c.binary_search_by_key.result) row
    (finds-pair c.args.j c.args.k c.deref.result.now c.binary_search_by_key.result ascends c.binary_search_by_key.ensures.bound at)
