use Rattle.std.proofs.Common.{rules, ◌≡◌, List, ℕ, subst}
use Rattle.airy_math.specs.Rational.{ℚ}
use Rattle.sparse_tensor.specs.Rows.{with_pair, IsAscendingByPair}
use Rattle.sparse_tensor.proofs.RowLemmas.{ascending-with_pair}
use Rattle.sparse_tensor.proofs.pair_row.PairRow.put.Goals as goal

pub invariant_of-self-in-Err : goal.invariant_of-self-in-Err
invariant_of-self-in-Err c =
    let old : IsAscendingByPair c.args.self.now = subst (λ (u : List (ℕ × ℕ × ℚ)). IsAscendingByPair u) c.self.view_is c.self.invariant in
    let is : with_pair c.args.j c.args.k c.args.v c.args.self.now ≡ c.insert.new.self.items = search rules in
    subst (λ (u : List (ℕ × ℕ × ℚ)). IsAscendingByPair u) is (ascending-with_pair c.args.j c.args.k c.args.v c.args.self.now old c.in-Err.ensures.given)
