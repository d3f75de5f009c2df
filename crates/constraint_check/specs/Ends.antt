-- How the check of every pivot ends: what each end tells.
use Prim.Native.Nat.{ℕ, ◌<◌}
use mathlib.Core.Path.{◌≡◌}
use mathlib.Core.List.{List}
use lib.ListN.{length, get_or, drop}
use Rattle.std.specs.Prelude.{Option, Some, None}
use Rattle.airy_math.specs.Rational.{ℚ}
use Rattle.airy_math.specs.Keys.{Key}
use Rattle.amp_plan.specs.Plans.{Planning, tensors_of, keys_of, key_at, rank_at}
use Rattle.amp_terms.specs.declared.Outcome.{Outcome}
use Rattle.amp_terms.specs.declared.Outcome.TheVariants as outcome
use Rattle.amp_terms.specs.Outcomes.{outcomes, value_in}
use Rattle.series_law.specs.Check.{Verdict, check_keys}
use Rattle.series_law.specs.Check as verdict
use Rattle.constraint_check.specs.declared.ends.CheckEnd.{CheckEnd}
use Rattle.constraint_check.specs.declared.ends.CheckEnd.TheVariants.{NotValue, Over, Orders, Solution}

-- the outcome of each rank of a plan
unfoldable pub outcomes_of : Planning → List Outcome
outcomes_of p = outcomes (tensors_of p) p.bound

-- the Value of each planned key that has one, and 0 elsewhere
unfoldable pub values_of : Planning → Key → ℚ
values_of p = value_in (keys_of p) (outcomes_of p)

-- the verdict of the keys from a rank on, in a table of Values
unfoldable pub verdict_from : Planning → ℕ → Verdict
verdict_from p r = check_keys (tensors_of p) (values_of p) (drop r (keys_of p))

-- The end tells the verdict: they name the same pivots and numbers, and the end has the key where the verdict has the rank.
unfoldable pub Tells : Planning → CheckEnd → Verdict → Type 0
Tells p (NotValue key) v = (r : ℕ) × (v ≡ verdict.NotValue r) × (r < length (keys_of p)) × (key ≡ key_at p r)
Tells p (Over key i) v = v ≡ verdict.Overflow key i
Tells p (Orders key i a j b) v = v ≡ verdict.Orders key i a j b
Tells p Solution v = v ≡ verdict.Solution

-- the key that is named as without a Value has the outcome Over in the table
unfoldable pub NamesOver : Planning → List (Option Outcome) → CheckEnd → Type 0
NamesOver p table (NotValue key) = get_or table (rank_at p key) None ≡ Some outcome.Over
NamesOver p table (Over key i) = Unit
NamesOver p table (Orders key i a j b) = Unit
NamesOver p table Solution = Unit

-- where the check ends with a solution
unfoldable pub IfSolution : CheckEnd → Type 0 → Type 0
IfSolution (NotValue key) P = Unit
IfSolution (Over key i) P = Unit
IfSolution (Orders key i a j b) P = Unit
IfSolution Solution P = P

-- where the check ends with two orders that differ: of the key, the two indices and their numbers
unfoldable pub IfOrders : CheckEnd → (Key → ℕ → ℚ → ℕ → ℚ → Type 0) → Type 0
IfOrders (NotValue key) P = Unit
IfOrders (Over key i) P = Unit
IfOrders (Orders key i a j b) P = P key i a j b
IfOrders Solution P = Unit
