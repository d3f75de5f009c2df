-- The stored entries of a curve are a cut of the curve at every greatest index.
use Prim.Native.Nat.{ℕ, suc, ◌<◌, ◌≤◌}
use Rattle.airy_math.specs.Cuts.{IsCut}
use Rattle.airy_math.specs.Curves.{curve, whole_curve}
use Rattle.airy_math.specs.Families.{top_wk}
use Rattle.airy_math.specs.Rational.{ℚ}
use Rattle.airy_math.specs.RationalLaws.{1ℚ}
use Rattle.airy_math.specs.Tensors.{IsGraded, IsSymmetric}

-- The tensors that a table up to X is made of are a cut of the whole ones, at every M from their top t on: each entry that they lack
-- stands, up to X, only in terms with a factor that is unstable or not covered. Both are graded, and symmetric.
pub record IsCurveCut (c : ℕ → ℚ) (X t M : ℕ) : Type 0 where
  pub cut : IsCut X 1ℚ (curve c (suc t) t) (whole_curve c M)
  pub graded : IsGraded (curve c (suc t) t)
  pub whole_symmetric : IsSymmetric (whole_curve c M)
  pub whole_graded : IsGraded (whole_curve c M)

-- t is the top of the bound X, or of a greater one.
abbrev pub CurveCutLaw : Type 0
CurveCutLaw = (c : ℕ → ℚ) (X t M : ℕ) → 0 < X → top_wk X ≤ t → t ≤ M → IsCurveCut c X t M
