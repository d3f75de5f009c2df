-- What a printed table says of the solutions of the structure's differential constraints.
use Rattle.std.specs.Prelude.{◌≡◌, ℕ, ◌<◌, ◌≤◌, List, [], ◌++◌, codes, length, get_or}
use Rattle.std.specs.List.{concat}
use Rattle.airy_math.specs.Rational.{ℚ, ◌*ℚ◌}
use Rattle.airy_math.specs.Keys.{Key}
use Rattle.airy_math.specs.Planned.{planned}
use Rattle.airy_math.specs.Ranks.{key_at}
use Rattle.airy_math.specs.Cuts.{letter_of, power}
use Rattle.airy_math.specs.Series.{Series}
use Rattle.airy_math.specs.Solutions.{Solves, amplitude}
use Rattle.airy_math.specs.Jobs.{Structure, IsSolutionOf, letter_value, planned_tensors, tensors_at}
use Rattle.airy_index.specs.Text.{key_text}
use Rattle.amp_terms.specs.Outcomes.{outcomes}
use Rattle.amp_terms.specs.Text.{value_text}
use Rattle.series_law.specs.Check.{Orders}
use Rattle.series_law.specs.Jobs.{IsUnsolvable}
use Rattle.series_law.specs.Pivots.{Shown, series_with}
use Rattle.run_reports.specs.Tables.{orders_differ, verdict_of}

-- What a Value w with the letter's power e shows at a key of the solutions up to X, at every dim m from that of the tensors for Y on, and
-- with every fraction v in the place of the letter: times that power it is the key's amplitude in each of them.
unfoldable pub ShowsNumber : Structure → ℕ → ℕ → Key → ℚ → ℕ → Type 0
ShowsNumber s X Y key w e =
    (m : ℕ) (v : ℚ) (f : Series) → (planned_tensors s Y).dim ≤ m → Solves (tensors_at s m v) X f
    → amplitude (tensors_at s m v).dim f key ≡ power (letter_value s v) e *ℚ w

-- The line `KEY VALUE` of a key: its Value, times this power of the letter, is the key's amplitude in every solution up to X.
pub record IsLine (s : Structure) (X : ℕ) (key : Key) (line : List ℕ) : Type 0 where
  pub value : ℚ
  pub exponent : ℕ
  pub text : line ≡ key_text key ++ codes " " ++ value_text value exponent ++ codes "\n"
  pub shown : ShowsNumber s X X key value exponent

-- For the table of the structure s up to the Euler number X, and the bytes that are printed of it.
pub record Headline (s : Structure) (X : ℕ) (bytes : List ℕ) : Type 0 where
  -- The bytes are lines, one for each planned key in plan order; the line at a rank shows the amplitude of that rank's key.
  pub lines : List (List ℕ)
  pub whole : length lines ≡ length (planned (planned_tensors s X) X)
  pub bytes_are : bytes ≡ concat lines
  pub printed : (r : ℕ) → r < length lines → IsLine s X (key_at (planned (planned_tensors s X) X) r) (get_or lines r [])
  -- Every solution f up to X, of the tensors of every dim m from the table's on and with every fraction v in the place of the letter,
  -- has the table's numbers: its amplitude at each key with a Value is that Value times the letter's power, and it is 0 where the
  -- shape does not cover the key or an index is beyond the table's.
  pub unique : (m : ℕ) (v : ℚ) (f : Series) → IsSolutionOf s X m v f
      → Shown X (letter_value s v) (planned_tensors s X) (tensors_at s m v) (outcomes (planned_tensors s X) X) f
  -- And the table is itself such a solution, at every dim and fraction: the series whose amplitude at each key is the key's Value times
  -- the letter's power, and 0 at every other.
  pub solution : (m : ℕ) (v : ℚ) → (planned_tensors s X).dim ≤ m
      → IsSolutionOf s X m v (series_with (letter_value s v) (planned_tensors s X) X (outcomes (planned_tensors s X) X))

-- What is said of the structure s up to X where two index orders of a key have numbers that differ.
pub record HasTwoOrders (s : Structure) (X : ℕ) (bytes : List ℕ) : Type 0 where
  pub key : Key
  pub first : ℕ
  pub v1 : ℚ
  pub second : ℕ
  pub v2 : ℚ
  pub named : bytes ≡ (orders_differ key first v1 second v2).bytes
  -- These are the first two that the check of every pivot finds: exact pivot sums of the key at the two indices, and they differ.
  pub found : verdict_of (planned_tensors s X) X ≡ Orders key first v1 second v2
  pub differ : v1 ≡ v2 → ⊥
  -- No series solves the structure's constraints up to X, at any dim and at any fraction but 0 in the place of the letter; nor at 0 where
  -- the key has no letter.
  pub unsolvable : IsUnsolvable s X (letter_of (planned_tensors s X).shape key)
  -- Nor does one solve the table's own tensors.
  pub planned_too : (f : Series) → Solves (planned_tensors s X) X f → ⊥
