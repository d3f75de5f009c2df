use Rattle.std.proofs.Common.{rules, ◌≡◌, List, ℕ, subst}
use Rattle.airy_math.specs.Rational.{ℚ}
use Rattle.sparse_tensor.specs.Entries.{with_value}
use Rattle.sparse_tensor.specs.Grades.{IsAscendingByIndex}
use Rattle.sparse_tensor.proofs.RowLemmas.{ascending-with_value}
use Rattle.sparse_tensor.proofs.row.Row.put.Goals as goal

pub invariant_of-self-in-Err : goal.invariant_of-self-in-Err
invariant_of-self-in-Err c =
    let old : IsAscendingByIndex c.args.self.now = subst (λ (u : List (ℕ × ℚ)). IsAscendingByIndex u) c.self.view_is c.self.invariant in
    let is : with_value c.args.k c.args.v c.args.self.now ≡ c.insert.new.self.items = search rules in
    subst (λ (u : List (ℕ × ℚ)). IsAscendingByIndex u) is (ascending-with_value c.args.k c.args.v c.args.self.now old c.in-Err.ensures.given)
