-- What the check of every pivot of a plan's table answers.
use Prim.Native.Nat.{ℕ}
use mathlib.Core.Path.{◌≡◌}
use mathlib.Core.List.{List}
use Rattle.std.specs.Prelude.{Option, ◌≢◌}
use Rattle.airy_math.specs.Rational.{ℚ}
use Rattle.airy_math.specs.Keys.{Key}
use Rattle.airy_math.specs.Series.{Series}
use Rattle.airy_math.specs.Solutions.{Solves}
use Rattle.airy_math.specs.Terms.{pivot_sum}
use Rattle.amp_plan.specs.Plans.{Planning, tensors_of}
use Rattle.amp_terms.specs.declared.Outcome.{Outcome}
use Rattle.series_law.specs.Uniqueness.{series_of}
use Rattle.series_law.specs.Pivots.{AllPivots}
use Rattle.series_law.specs.Check.{check}
use Rattle.constraint_check.specs.declared.ends.CheckEnd.{CheckEnd}
use Rattle.constraint_check.specs.Ends.{outcomes_of, values_of, Tells, NamesOver, IfSolution, IfOrders}

-- a series solves the constraints of the plan's tensors up to its bound
abbrev pub SolvesPlan : Planning → Series → Type 0
SolvesPlan p f = Solves (tensors_of p) p.bound f

-- the series whose amplitudes are the Values of the plan's table
abbrev pub table_series : Planning → Series
table_series p = series_of (tensors_of p) p.bound (outcomes_of p)

-- v is the sum of the key's terms with the pivot i, over the Values of the plan's table
abbrev pub IsSum : Planning → Key → ℕ → ℚ → Type 0
IsSum p key i v = v ≡ pivot_sum (tensors_of p) (values_of p) key i

-- The check of a plan's table ends so.
pub record IsChecked (p : Planning) (table : List (Option Outcome)) (end : CheckEnd) : Type 0 where
  -- the end is the verdict on the outcomes of the plan's ranks
  pub verdict : Tells p end (check (tensors_of p) p.bound (outcomes_of p))
  -- a key that is named as without a Value has the outcome Over
  pub over : NamesOver p table end
  -- at Solution each pivot sum of each key is the table's Value, and the table's series solves the constraints
  pub passes : IfSolution end (AllPivots (tensors_of p) p.bound (outcomes_of p))
  pub solves : IfSolution end (SolvesPlan p (table_series p))
  -- at Orders the numbers are the key's pivot sums at the two indices, they differ, and no series solves the constraints
  pub sums : IfOrders end (λ key i v j w. IsSum p key i v × IsSum p key j w)
  pub differ : IfOrders end (λ key i v j w. v ≢ w)
  pub unsolvable : IfOrders end (λ key i v j w. (f : Series) → SolvesPlan p f → ⊥)
