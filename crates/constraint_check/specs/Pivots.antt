-- Readers that show a Value of each rank, and the first key with a pivot that fails.
use Prim.Native.Nat.{ℕ, ◌+◌, ◌*◌, ◌/◌, ◌%◌, ◌<◌, ◌≤◌}
use Rattle.std.specs.Prelude.{min}
use mathlib.Core.Path.{◌≡◌}
use mathlib.Core.Bool.{Bool, true}
use mathlib.Core.List.{List}
use lib.ListN.{length, drop}
use Rattle.std.specs.Prelude.{Option, Some, None}
use Rattle.airy_math.specs.Rational.{ℚ}
use Rattle.airy_math.specs.Keys.{Key, head_or}
use Rattle.amp_plan.specs.Plans.{Planning, tensors_of, keys_of, rank_at}
use Rattle.amp_terms.specs.declared.Outcome.{Outcome}
use Rattle.amp_terms.specs.Outcomes.{has_value}
use Rattle.amp_terms.specs.Pivots.{number_at}
use Rattle.amp_terms.specs.Tables.{full_table, first_without}
use Rattle.series_law.specs.Scans.{Failing, failing_key, every, above_least}
use Rattle.constraint_check.specs.Ends.{verdict_from}
use Rattle.constraint_check.specs.declared.pivots.Pivots.{Pivots}
use Rattle.constraint_check.specs.declared.pivots.Pivots.TheVariants.{All, Others}
use Rattle.constraint_check.specs.declared.pivots.Failure.{Failure}
use Rattle.constraint_check.specs.declared.ends.CheckEnd.{CheckEnd}
use Rattle.constraint_check.specs.declared.ends.CheckEnd.TheVariants.{NotValue, Over, Orders, Solution}

-- ---- what is looked at

-- which indices of a key are looked at
abbrev pub looks : Pivots → Key → ℕ → Bool
looks All = every
looks Others = above_least

-- each rank of the plan can be read, and is shown with a Value
pub record ShowsValues (p : Planning) (has : ℕ → Type 0) (shown : ℕ → Outcome) : Type 0 where
  pub within : (r : ℕ) → r < length (keys_of p) → has r
  pub values : (r : ℕ) → r < length (keys_of p) → has_value (shown r) ≡ true

-- the Value that is shown of a planned key
unfoldable pub numbers_shown : Planning → (ℕ → Outcome) → Key → ℚ
numbers_shown p shown key = number_at shown (rank_at p key)

-- the first key with a pivot that fails, of the ranks from r on, F giving the keys' numbers
unfoldable pub failing_from : Planning → (Key → ℚ) → (Key → ℕ → Bool) → ℕ → Option (Key × Failing)
failing_from p F looks r = failing_key (tensors_of p) F looks (drop r (keys_of p))

-- this is the first of the ranks from one to another
pub record IsFailure (p : Planning) (F : Key → ℚ) (looks : Key → ℕ → Bool) (from to : ℕ) (f : Failure) : Type 0 where
  pub low : from ≤ f.rank
  pub high : f.rank < to
  pub passed : failing_from p F looks from ≡ failing_from p F looks f.rank
  pub fails : failing_from p F looks f.rank ≡ Some (f.key, (f.pivot, f.sum))
  pub value : f.value ≡ F f.key

-- the first key that fails of the ranks from one to another; where there is none, the ranks from the other on decide
abbrev pub FailsFirst : Planning → (Key → ℚ) → (Key → ℕ → Bool) → ℕ → ℕ → Option Failure → Type 0
FailsFirst p F looks from to None = failing_from p F looks from ≡ failing_from p F looks to
FailsFirst p F looks from to (Some f) = IsFailure p F looks from to f

-- the end names the key and the pivot: where the sum is missing, that alone, and else the two numbers
abbrev pub Names : CheckEnd → Failure → Type 0
Names (NotValue key) f = ⊥
Names (Over key i) f = (key ≡ f.key) × (i ≡ f.pivot) × (f.sum ≡ None)
Names (Orders key l a i b) f = (key ≡ f.key) × (i ≡ f.pivot) × (f.sum ≡ Some b) × (l ≡ head_or 0 key.idx) × (a ≡ f.value)
Names Solution f = ⊥

-- ---- tables

-- The table holds the outcome of each rank of the plan, and each is a Value.
pub record HoldsValues (p : Planning) (table : List (Option Outcome)) : Type 0 where
  pub outcomes : table ≡ full_table (tensors_of p) p.bound
  pub values : first_without table ≡ None
  pub long : length table ≡ length (keys_of p)

-- in a table of Values the keys below the rank r pass
pub record HasPassed (p : Planning) (table : List (Option Outcome)) (r : ℕ) : Type 0 where
  pub within : r ≤ length (keys_of p)
  pub passed : HoldsValues p table → verdict_from p 0 ≡ verdict_from p r

-- the rank at which the piece k begins, where so many ranks are cut into n pieces whose lengths differ by at most 1
unfoldable pub cut_at : ℕ → ℕ → ℕ → ℕ
cut_at len n k = k * (len / n) + min k (len % n)

-- of the ranks from one to another the keys below the rank r pass
pub record PassTo (p : Planning) (from to r : ℕ) : Type 0 where
  pub low : from ≤ r
  pub high : r ≤ to
  pub passed : verdict_from p from ≡ verdict_from p r

-- of the ranks in the piece k of n the keys below the rank r pass
abbrev pub PassInPiece : Planning → ℕ → ℕ → ℕ → Type 0
PassInPiece p n k r = let len = length (keys_of p) in PassTo p (cut_at len n k) (cut_at len n (k + 1)) r
