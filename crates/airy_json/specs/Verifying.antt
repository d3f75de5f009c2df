-- How values that are given to the planned keys are verified: every pivot of every key, the least index among them.
use Prim.Native.Nat.{ℕ}
use mathlib.Core.Path.{◌≡◌}
use mathlib.Core.List.{List, map}
use Rattle.std.specs.Prelude.{Option, Some, None}
use Rattle.airy_math.specs.Rational.{ℚ}
use Rattle.airy_math.specs.Keys.{Key}
use Rattle.airy_math.specs.Tensors.{Tensors}
use Rattle.airy_math.specs.Planned.{planned}
use Rattle.amp_terms.specs.declared.Outcome.{Outcome}
use Rattle.amp_terms.specs.declared.Outcome.TheVariants.{Value}
use Rattle.amp_terms.specs.Outcomes.{value_in}
use Rattle.series_law.specs.Scans.{Failing, failing_key, every}
use Rattle.constraint_check.specs.declared.pivots.Failure.{Failure}
use Rattle.airy_json.specs.declared.verify_ends.VerifyEnd.{VerifyEnd}
use Rattle.airy_json.specs.declared.verify_ends.VerifyEnd.TheVariants.{Solution, Over, Differs}

-- the values as a table: each rank's outcome is its Value
unfoldable pub as_table : List ℚ → List Outcome
as_table vs = map Value vs

-- the value that is given to each planned key, and 0 at every other
unfoldable pub given_to : Tensors → ℕ → List ℚ → Key → ℚ
given_to T X vs = value_in (planned T X) (as_table vs)

-- what it says that this pivot is the first that fails, F giving the keys' values
unfoldable pub said : (Key → ℚ) → Option (Key × Failing) → VerifyEnd
said F None = Solution
said F (Some (key, (i, None))) = Over key i
said F (Some (key, (i, Some v))) = Differs key i v (F key)

-- the first pivot of the first key whose sum over the given values isn't obtained, or isn't the value given to the key; else a solution
unfoldable pub verified : Tensors → ℕ → List ℚ → VerifyEnd
verified T X vs = said (given_to T X vs) (failing_key T (given_to T X vs) every (planned T X))

-- the end names the key and the pivot: where the sum is missing, that alone, and else the two numbers
abbrev pub Names : VerifyEnd → Failure → Type 0
Names Solution f = ⊥
Names (Over key i) f = (key ≡ f.key) × (i ≡ f.pivot) × (f.sum ≡ None)
Names (Differs key i v w) f = (key ≡ f.key) × (i ≡ f.pivot) × (f.sum ≡ Some v) × (w ≡ f.value)
