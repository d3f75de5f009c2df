use Rattle.std.proofs.Common.{ℕ, ◌≡◌, ◌+◌, length, Some}
use Rattle.airy_math.specs.Rational.{ℚ}
use Rattle.airy_math.specs.RationalLaws.{0ℚ}
use Rattle.airy_math.specs.Sums.{each, below}
use Rattle.sparse_tensor.specs.Entries.{looked_up}
use Rattle.airy_relations.specs.Rows.{row_of}
use Rattle.airy_relations.specs.Steps.{added_all}
use Rattle.airy_relations.specs.Threes.{three, factors}
use Rattle.airy_relations.proofs.SumLoop.{IsUnder}
use Rattle.airy_relations.proofs.sides.sum_three.Given as goal

abbrev pub invariant-loop-a : goal.invariant-loop-a
invariant-loop-a g l =
    let T = looked_up l.t in
    (f h k : ℕ → ℚ) → g.X.Values.left l.fn.first ≡ row_of f 0 T.dim → g.Y.Values.left l.fn.second ≡ row_of h 0 T.dim → g.Z.Values.left l.fn.third ≡ row_of k 0 T.dim
    → IsUnder (factors T f h k (l.p, l.q, l.r) l.j l.k l.l) T.dim (added_all (Some 0ℚ) (each (below T.dim) (three (factors T f h k (l.p, l.q, l.r) l.j l.k l.l))))
    (g.X.Values.left l.first) (g.Y.Values.left l.second) (g.Z.Values.left l.third) l.total

abbrev pub decreases-loop-a : goal.decreases-loop-a
decreases-loop-a g l = length (g.X.Values.left l.first) + length (g.Y.Values.left l.second) + length (g.Z.Values.left l.third)
