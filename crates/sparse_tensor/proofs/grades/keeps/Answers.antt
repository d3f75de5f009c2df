use Rattle.std.proofs.Common.{refl, ap₂}
use Rattle.std.specs.Int.{w32}
use Rattle.std.specs.Int.Signed.{le_z}
use Rattle.std.proofs.lemmas.Int.{to_z-of_z}
use Rattle.sparse_tensor.specs.Grades.{keeps}
use Rattle.sparse_tensor.proofs.GradeLemmas.{eqb-of_z}
use Rattle.sparse_tensor.proofs.grades.keeps.Goals as goal

pub returns-in-All : goal.returns-in-All
unfolding keeps
returns-in-All c = rw c.in-All.is refl

pub returns-in-Exact : goal.returns-in-Exact
unfolding keeps
returns-in-Exact c = rw c.in-Exact.is (eqb-of_z c.args.x c.args.y c.ranges.x c.ranges.y)

pub returns-in-AtMost : goal.returns-in-AtMost
unfolding keeps
returns-in-AtMost c =
    rw c.in-AtMost.is (ap₂ le_z (to_z-of_z w32 c.args.x c.ranges.x) (to_z-of_z w32 c.args.y c.ranges.y))
