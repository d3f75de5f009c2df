-- What a plan is to a board: its cells, their outcomes, and the words of these.
use Prim.Native.Nat.{ℕ, ◌<◌, ◌≤◌}
use mathlib.Core.Path.{◌≡◌}
use mathlib.Core.Bool.{true, cond}
use mathlib.Core.Logic.{◌⊎◌}
use lib.Dec.{ltb}
use mathlib.Core.List.{List}
use lib.ListN.{length, get_or}
use Rattle.std.specs.Prelude.{Option, Some, None}
use Rattle.amp_plan.specs.Plans.{Planning, tensors_of, keys_of}
use Rattle.amp_plan.specs.Needs.{has, needs_at, dependents_at}
use Rattle.amp_plan.specs.Rows.{AreDistinct}
use Rattle.amp_terms.specs.Outcomes.{outcomes}
unfoldable pub use Rattle.amp_terms.specs.Outcomes.{outcome_at}
use Rattle.amp_terms.specs.declared.Outcome.{Outcome}
use Rattle.amp_terms.specs.declared.Outcome.TheVariants.{Over}
use Rattle.cell_words.specs.Words.{word_of}

-- the number of cells
abbrev pub cells : Planning → ℕ
cells p = length (keys_of p)

-- the outcomes of all ranks, lowest first
unfoldable pub all_outcomes : Planning → List Outcome
all_outcomes p = outcomes (tensors_of p) p.bound

-- the outcomes of the ranks below r, and Over elsewhere
unfoldable pub lower_outcomes : Planning → ℕ → ℕ → Outcome
lower_outcomes p r k = cond (ltb k r) (outcome_at p k) Over

-- the value word k of its outcome
unfoldable pub code_of : Planning → ℕ → ℕ → ℕ
code_of p r k = word_of (outcome_at p r) k

-- A table that has the outcome of each rank, or nothing.
pub record IsPartial (p : Planning) (table : List (Option Outcome)) : Type 0 where
  pub long : length table ≡ cells p
  pub each : (r : ℕ) → r < cells p → (get_or table r None ≡ None) ⊎ (get_or table r None ≡ Some (outcome_at p r))

-- What a board rests on: needs and dependents are ranks of the plan, each once, and each other's converse; a need is a lower rank.
pub record IsPlanned (p : Planning) : Type 0 where
  pub converse : (q r : ℕ) → q < cells p → r < cells p → has q (needs_at p r) ≡ has r (dependents_at p q)
  pub needs_once : (r : ℕ) → AreDistinct (needs_at p r)
  pub dependents_once : (q : ℕ) → AreDistinct (dependents_at p q)
  pub needs_low : (q r : ℕ) → has q (needs_at p r) ≡ true → q < cells p
  pub dependents_low : (q r : ℕ) → has r (dependents_at p q) ≡ true → r < cells p
  pub lower : (q r : ℕ) → r < cells p → has q (needs_at p r) ≡ true → q < r
  pub few_needs : (r : ℕ) → length (needs_at p r) ≤ cells p
  pub few : cells p ≤ 200000
