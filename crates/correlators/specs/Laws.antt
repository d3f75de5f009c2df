-- What numbers and volumes of a table say of every solution.
use Prim.Native.Nat.{ℕ, ◌*◌}
use mathlib.Core.Path.{◌≡◌}
use mathlib.Core.Bool.{true}
use mathlib.Core.List.{List, map}
use lib.ListN.{length}
use Rattle.airy_math.specs.Rational.{ℚ, ◌*ℚ◌}
use Rattle.airy_math.specs.RationalLaws.{1ℚ}
use Rattle.airy_math.specs.Sums.{sum_over, when}
use Rattle.airy_math.specs.Keys.{Key, key_of, same_list, IsSortedFrom}
use Rattle.airy_math.specs.Tensors.{Tensors}
use Rattle.airy_math.specs.Series.{Series}
use Rattle.airy_math.specs.Cuts.{power}
use Rattle.amp_plan.specs.Plans.{Planning, tensors_of}
use Rattle.amp_plan.specs.Places.{are_below}
use Rattle.amp_terms.specs.Outcomes.{outcomes}
use Rattle.series_law.specs.Pivots.{Shown}
use Rattle.intersection_law.specs.Numbers.{intersection_number, volume_coefficient}
use Rattle.correlators.specs.Volumes.{Part}

-- the table of the plan shows the solution f of T', with v in the letter's place
abbrev pub IsShown : Planning → ℚ → Tensors → Series → Type 0
IsShown p v T' f = Shown p.bound v (tensors_of p) T' (outcomes (tensors_of p) p.bound) f

-- The number w at a key is the intersection number of every solution that the table shows.
unfoldable pub NumberOfSolutions : Planning → Key → ℚ → Type 0
NumberOfSolutions p key w = (T' : Tensors) (f : Series) → IsShown p 1ℚ T' f
    → IsSortedFrom 0 T'.dim key.idx → intersection_number T'.dim f key ≡ w

-- what stands in a sum of terms at the powers of a list, with v in the letter's place
unfoldable pub coefficient_in : ℚ → List ℕ → List Part → ℚ
coefficient_in v powers parts = sum_over parts λ t. when (same_list t.powers powers) (power v t.letter *ℚ t.coef)

-- The terms are the volume of every solution that the table shows, with v in the letter's place: what stands at the powers 2 d1, .., 2 dn
-- is the volume's coefficient there, for all indices d1, .., dn of the solution.
unfoldable pub VolumeOfSolutions : Planning → ℕ → ℕ → List Part → Type 0
VolumeOfSolutions p g n parts = (v : ℚ) (T' : Tensors) (f : Series) → IsShown p v T' f
    → (ds : List ℕ) → length ds ≡ n → are_below T'.dim ds ≡ true
    → volume_coefficient T'.dim f (key_of g ds) ≡ coefficient_in v (map (λ d. 2 * d) ds) parts
