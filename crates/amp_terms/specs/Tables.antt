-- Tables of outcomes: what each rank has, where it was filled.
use Prim.Native.Nat.{ℕ, zero, suc, ◌<◌}
use mathlib.Core.Path.{◌≡◌, refl}
use mathlib.Core.Bool.{Bool, true, false}
use lib.ListN.{get_or, length}
use mathlib.Core.List.{List, [], ◌∷◌, map}
use Rattle.std.specs.Prelude.{Option, Some, None, IsSome}
use Rattle.std.specs.Option.{unwrap_or}
use Rattle.std.specs.Coded.{Coded, code_by, coded×, coded_ℕ}
use Rattle.airy_math.specs.Rational.{ℚ, rational_code}
use Rattle.airy_math.specs.RationalLaws.{0ℚ}
use Rattle.airy_math.specs.Tensors.{Tensors}
use Rattle.amp_terms.specs.declared.Outcome.{Outcome}
use Rattle.amp_terms.specs.declared.Outcome.TheVariants.{Value, Over, Blocked}
use Rattle.amp_terms.specs.Outcomes.{outcomes}

-- the table of all outcomes of tensors up to a bound
unfoldable pub full_table : Tensors → ℕ → List (Option Outcome)
full_table T X = map Some (outcomes T X)

-- the outcome of a rank in a table, and Over where it was never filled
unfoldable pub shown_in : List (Option Outcome) → ℕ → Outcome
shown_in t r = unwrap_or (get_or t r None) Over

-- the rank was filled
unfoldable pub IsFilled : List (Option Outcome) → ℕ → Type 0
IsFilled t r = (r < length t) × IsSome (get_or t r None)

-- whether a cell was filled with a Value
abbrev pub holds_value : Option Outcome → Bool
holds_value None = false
holds_value (Some (Value v)) = true
holds_value (Some Over) = false
holds_value (Some (Blocked r)) = false

-- one rank more
unfoldable pub next_rank : Option ℕ → Option ℕ
next_rank None = None
next_rank (Some r) = Some (suc r)

-- the least rank without a Value
unfoldable pub first_without : List (Option Outcome) → Option ℕ
first_without [] = None
first_without (None ∷ os) = Some 0
first_without (Some (Value v) ∷ os) = next_rank (first_without os)
first_without (Some Over ∷ os) = Some 0
first_without (Some (Blocked r) ∷ os) = Some 0

-- ---- how outcomes are stored as data, for the models of types

abbrev pub outcome_tuple : Outcome → ℕ × (ℚ × ℕ)
outcome_tuple (Value v) = (0, (v, 0))
outcome_tuple Over = (1, (0ℚ, 0))
outcome_tuple (Blocked r) = (2, (0ℚ, r))

abbrev pub tuple_outcome : ℕ × (ℚ × ℕ) → Outcome
tuple_outcome (zero, p) = Value p.0
tuple_outcome (suc zero, p) = Over
tuple_outcome (suc (suc n), p) = Blocked p.1

pub outcome_back : (o : Outcome) → tuple_outcome (outcome_tuple o) ≡ o
outcome_back (Value v) = refl
outcome_back Over = refl
outcome_back (Blocked r) = refl

abbrev pub outcome_code : Coded Outcome
outcome_code = code_by (ℕ × (ℚ × ℕ)) (coded× coded_ℕ (coded× rational_code coded_ℕ)) outcome_tuple tuple_outcome outcome_back

-- the Value of an outcome
unfoldable pub value_of : Outcome → Option ℚ
value_of (Value v) = Some v
value_of Over = None
value_of (Blocked r) = None

unfoldable pub value_of_cell : Option Outcome → Option ℚ
value_of_cell None = None
value_of_cell (Some o) = value_of o

-- the Value of a rank
unfoldable pub value_at : List (Option Outcome) → ℕ → Option ℚ
value_at cells r = value_of_cell (get_or cells r None)
