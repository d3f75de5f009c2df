-- What is answered of a plan's table without a look at its pivots.
use Prim.Native.Nat.{ℕ}
use mathlib.Core.Path.{◌≡◌}
use mathlib.Core.List.{List}
use Rattle.std.specs.Prelude.{Option, Some, None}
use Rattle.airy_math.specs.Solutions.{Solves}
use Rattle.amp_plan.specs.Plans.{Planning, tensors_of, key_at}
use Rattle.amp_terms.specs.declared.Outcome.{Outcome}
use Rattle.amp_terms.specs.Outcomes.{outcomes}
use Rattle.amp_terms.specs.Tables.{first_without}
use Rattle.series_law.specs.Uniqueness.{series_of}
use Rattle.series_law.specs.Pivots.{AllPivots}
use Rattle.airy_exists.specs.Existence.{rec_series}
use Rattle.airy_exists.specs.declared.ends.Agreed.{Agreed}
use Rattle.airy_exists.specs.declared.ends.Agreed.TheVariants.{Solution, NotValue}

-- the answer, by the least rank without a Value
unfoldable pub answer_at : Planning → Option ℕ → Agreed
answer_at p None = Solution
answer_at p (Some r) = NotValue (key_at p r)

-- This is answered of the table of a plan whose tensors meet the relations.
pub record IsAgreed (p : Planning) (table : List (Option Outcome)) (answer : Agreed) : Type 0 where
  -- the key of the least rank without a Value, and Solution where there is none
  pub found : answer ≡ answer_at p (first_without table)
  -- at Solution each pivot sum of each key is the table's Value, and the table's series solves the constraints up to the bound
  pub passes : answer ≡ Solution → AllPivots (tensors_of p) p.bound (outcomes (tensors_of p) p.bound)
  pub solves : answer ≡ Solution → Solves (tensors_of p) p.bound (series_of (tensors_of p) p.bound (outcomes (tensors_of p) p.bound))
  -- with either answer the series of the exact amplitudes solves them up to every bound
  pub exact : (X : ℕ) → Solves (tensors_of p) X (rec_series (tensors_of p) X)
