-- The amplitude that a table shows at a key.
use Prim.Native.Nat.{ℕ}
use mathlib.Core.Path.{◌≡◌}
use lib.ListN.{get_or}
use mathlib.Core.List.{List}
use Rattle.std.specs.Prelude.{Option, Some, None}
use Rattle.airy_math.specs.Rational.{ℚ}
use Rattle.airy_math.specs.RationalLaws.{0ℚ}
use Rattle.airy_math.specs.Keys.{Key}
use Rattle.airy_math.specs.Series.{Series}
use Rattle.airy_math.specs.Solutions.{Solves, amplitude}
use Rattle.amp_plan.specs.Plans.{Planning, tensors_of}
use Rattle.amp_plan.specs.Places.{place_in}
use Rattle.amp_plan.specs.declared.place.Place.{Place}
use Rattle.amp_plan.specs.declared.place.Place.TheVariants.{At, Zero, Beyond, BadIndex}
use Rattle.amp_terms.specs.declared.Outcome.{Outcome}
use Rattle.amp_terms.specs.declared.Outcome.TheVariants.{Over}
use Rattle.amp_terms.specs.Outcomes.{outcomes}
use Rattle.amp_terms.specs.Tables.{value_at}

-- the Value of a rank, where it has one, and 0 where the shape does not cover the key
unfoldable pub shown_at : List (Option Outcome) → Place → Option ℚ
shown_at table (At r) = value_at table r
shown_at table Zero = Some 0ℚ
shown_at table Beyond = None
shown_at table BadIndex = None

-- Each cell of the table that is filled has the outcome of its rank; others may be empty.
unfoldable pub HoldsOutcomes : Planning → List (Option Outcome) → Type 0
HoldsOutcomes p table = (r : ℕ) (o : Outcome) → get_or table r None ≡ Some o → o ≡ get_or (outcomes (tensors_of p) p.bound) r Over

-- v is the key's amplitude in every solution of the plan's tensors up to the bound.
unfoldable pub IsAmplitude : Planning → Key → ℚ → Type 0
IsAmplitude p key v = (f : Series) → Solves (tensors_of p) p.bound f → amplitude p.tensors.dim f key ≡ v

-- what a table of the plan shows at the key
unfoldable pub shown_amplitude : Planning → List (Option Outcome) → Key → Option ℚ
shown_amplitude p table key = shown_at table (place_in p key)
