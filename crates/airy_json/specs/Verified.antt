-- What the end of verifying given values says of them, of the solutions of the constraints, and of those of a job.
use Prim.Native.Nat.{ℕ, ◌<◌, ◌≤◌}
use mathlib.Core.Path.{◌≡◌}
use mathlib.Core.List.{List}
use mathlib.Core.Logic.{◌↔◌}
use lib.ListN.{length, get_or}
use Rattle.std.specs.Prelude.{Some, None}
use Rattle.airy_math.specs.Rational.{ℚ}
use Rattle.airy_math.specs.RationalLaws.{0ℚ}
use Rattle.airy_math.specs.Keys.{Key}
use Rattle.airy_math.specs.Tensors.{Tensors, IsSymmetric, IsGraded, SameEntries}
use Rattle.airy_math.specs.Planned.{planned}
use Rattle.airy_math.specs.Ranks.{key_at}
use Rattle.airy_math.specs.Series.{Series}
use Rattle.airy_math.specs.Solutions.{Solves, amplitude}
use Rattle.airy_math.specs.Cuts.{letter_of}
use Rattle.airy_math.specs.Jobs.{Structure, IsSolutionOf, IsSound, letter_value, planned_tensors, tensors_at}
use Rattle.amp_plan.specs.Plans.{Planning, tensors_of}
use Rattle.amp_terms.specs.Outcomes.{outcomes}
use Rattle.series_law.specs.Uniqueness.{series_of}
use Rattle.series_law.specs.Pivots.{AllPivots, Shown, series_with}
use Rattle.series_law.specs.Scans.{IsFirstFailing, every}
use Rattle.series_law.specs.Check.{check}
use Rattle.series_law.specs.Check as verdict
use Rattle.airy_json.specs.declared.verify_ends.VerifyEnd.{VerifyEnd}
use Rattle.airy_json.specs.declared.verify_ends.VerifyEnd.TheVariants.{Solution, Over, Differs}
use Rattle.airy_json.specs.Verifying.{as_table, given_to, verified}

-- ---- the first pivot that fails, said without the order of the steps

-- The end names the first failure: there is none; or at this pivot the sum isn't obtained; or it is v, and the key's value is another, w.
unfoldable pub IsFirstFailure : Tensors → ℕ → List ℚ → VerifyEnd → Type 0
IsFirstFailure T X vs Solution = IsFirstFailing T X (given_to T X vs) every None
IsFirstFailure T X vs (Over key i) = IsFirstFailing T X (given_to T X vs) every (Some (key, (i, None)))
IsFirstFailure T X vs (Differs key i v w) =
    IsFirstFailing T X (given_to T X vs) every (Some (key, (i, Some v))) × (w ≡ given_to T X vs key)

-- ---- what an end says

-- the series whose amplitudes are the given values
unfoldable pub values_series : Tensors → ℕ → List ℚ → Series
values_series T X vs = series_of T X (as_table vs)

-- The given values are a solution, and the only one.
pub record AreSolution (T : Tensors) (X : ℕ) (vs : List ℚ) : Type 0 where
  -- they are the outcomes of the ranks, of which the check of every pivot finds nothing
  pub table : outcomes T X ≡ as_table vs
  pub checked : check T X (outcomes T X) ≡ verdict.Solution
  pub pivots : AllPivots T X (as_table vs)
  -- their series solves the constraints up to X
  pub solves : Solves T X (values_series T X vs)
  -- each is the amplitude of its key in every solution
  pub unique : (f : Series) → Solves T X f → (r : ℕ) → r < length vs → amplitude T.dim f (key_at (planned T X) r) ≡ get_or vs r 0ℚ

-- What the end says of the values, one for each planned key.
pub record Says (T : Tensors) (X : ℕ) (vs : List ℚ) (end : VerifyEnd) : Type 0 where
  -- it names the first failure, and nothing else is one
  pub first : (e : VerifyEnd) → (end ≡ e) ↔ IsFirstFailure T X vs e
  -- where there is none, the values are a solution
  pub solution : end ≡ Solution → AreSolution T X vs
  -- where a sum is another number, their series is none
  pub no_solution : (key : Key) (i : ℕ) (v w : ℚ) → end ≡ Differs key i v w → Solves T X (values_series T X vs) → ⊥

abbrev pub VerifiedLaw : Type 0
VerifiedLaw =
    (T : Tensors) (X : ℕ) (vs : List ℚ) → IsSymmetric T → IsGraded T → length vs ≡ length (planned T X) → Says T X vs (verified T X vs)

-- The end tells what the definition finds in the values of a plan's keys.
pub record IsVerified (p : Planning) (vs : List ℚ) (end : VerifyEnd) : Type 0 where
  pub is : end ≡ verified (tensors_of p) p.bound vs
  pub says : Says (tensors_of p) p.bound vs end

-- Tensors with the same entries below dim have the same end.
abbrev pub SameVerifiedLaw : Type 0
SameVerifiedLaw = (T T' : Tensors) → SameEntries T T' → (X : ℕ) (vs : List ℚ) → verified T X vs ≡ verified T' X vs

-- ---- the values of a job's keys

-- the series whose amplitude at each key is its value times the letter's power, v in the letter's place
unfoldable pub job_series : Structure → ℕ → ℚ → List ℚ → Series
job_series s X v vs = series_with (letter_value s v) (planned_tensors s X) X (as_table vs)

-- The values' series solves the job at no dim, and with no fraction but 0 in the letter's place; nor with 0 where e, the letter's exponent
-- at the key that fails, is 0. (Else both numbers are times 0 there.)
pub record AreNoSolution (s : Structure) (X e : ℕ) (vs : List ℚ) : Type 0 where
  pub but_zero : (m : ℕ) (v : ℚ) → (letter_value s v ≡ 0ℚ → ⊥) → IsSolutionOf s X m v (job_series s X v vs) → ⊥
  pub zero_too : e ≡ 0 → (m : ℕ) (v : ℚ) → IsSolutionOf s X m v (job_series s X v vs) → ⊥

-- What verifying the values of a job's keys says of the job's solutions, at every dim and fraction.
pub record JobVerified (s : Structure) (X : ℕ) (vs : List ℚ) : Type 0 where
  pub here : Says (planned_tensors s X) X vs (verified (planned_tensors s X) X vs)
  pub solved : verified (planned_tensors s X) X vs ≡ Solution → (m : ℕ) (v : ℚ) → (planned_tensors s X).dim ≤ m
      → IsSolutionOf s X m v (job_series s X v vs)
  pub unique : verified (planned_tensors s X) X vs ≡ Solution → (m : ℕ) (v : ℚ) (f : Series) → IsSolutionOf s X m v f
      → Shown X (letter_value s v) (planned_tensors s X) (tensors_at s m v) (as_table vs) f
  pub nowhere : (key : Key) (i : ℕ) (a b : ℚ) → verified (planned_tensors s X) X vs ≡ Differs key i a b
      → AreNoSolution s X (letter_of (planned_tensors s X).shape key) vs

abbrev pub JobVerifiedLaw : Type 0
JobVerifiedLaw =
    (s : Structure) (X : ℕ) → IsSound s → 0 < X → (vs : List ℚ) → length vs ≡ length (planned (planned_tensors s X) X)
    → JobVerified s X vs
