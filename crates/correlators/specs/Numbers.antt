-- The intersection number that a table gives at a key, or why it gives none.
use mathlib.Core.Bool.{cond}
use mathlib.Core.List.{List}
use Rattle.std.specs.Prelude.{Option, Some, None, Result, Ok, Err}
use Rattle.airy_math.specs.Rational.{ℚ}
use Rattle.airy_math.specs.RationalLaws.{0ℚ}
use Rattle.airy_math.specs.Keys.{Key}
use Rattle.amp_plan.specs.Plans.{Planning}
use Rattle.amp_plan.specs.Places.{place_in}
use Rattle.amp_plan.specs.declared.place.Place.{Place}
use Rattle.amp_plan.specs.declared.place.Place.TheVariants.{At, Zero, Beyond, BadIndex}
use Rattle.amp_terms.specs.declared.Outcome.{Outcome}
use Rattle.amp_terms.specs.Tables.{value_at}
use Rattle.correlators.specs.declared.refusals.CorrErr.{CorrErr}
use Rattle.correlators.specs.declared.refusals.CorrErr.TheVariants as refused
use Rattle.correlators.specs.Divisions.{over_odd_factorials}

-- a quotient at the key, or a step of its division that leaves the range
abbrev pub quotient_at : Key → Option ℚ → Result ℚ CorrErr
quotient_at key (Some w) = Ok w
quotient_at key None = Err (refused.Over key)

-- the quotient of the key's Value, or that it has none
abbrev pub number_of : Key → Option ℚ → Result ℚ CorrErr
number_of key (Some v) = quotient_at key (over_odd_factorials key.idx v)
number_of key None = Err (refused.NotValue key)

abbrev pub number_at : List (Option Outcome) → Key → Place → Result ℚ CorrErr
number_at cells key (At r) = number_of key (value_at cells r)
number_at cells key Zero = Ok 0ℚ
number_at cells key Beyond = Err refused.Beyond
number_at cells key BadIndex = Err refused.Index

-- The number of a key in a table of the plan: of tensors without a letter, the key's Value over the product of the (2d + 1)!!, and 0 where
-- the shape does not cover the key.
unfoldable pub number_in : Planning → List (Option Outcome) → Key → Result ℚ CorrErr
number_in p cells key = cond p.tensors.letter (Err refused.Kind) (number_at cells key (place_in p key))
