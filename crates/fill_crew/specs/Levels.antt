-- For private functions and for proofs: no public contract rests on this file.
-- The outcomes of the published levels of a frontier board.
use Rattle.std.specs.Prelude.{◌≡◌, ℕ, ◌+◌, ◌<◌, List, take, slice_index_or}
use Rattle.amp_plan.specs.Plans.{Planning}
use Rattle.amp_terms.specs.declared.Outcome.{Outcome}
use Rattle.cell_words.specs.Layout.{all_outcomes, outcome_at}
use Rattle.cell_words.specs.Levels.{cells_to}
use Rattle.cell_words.specs.LevelSeats.{plan_of}
use Rattle.cell_words.specs.declared.frontier.Frontier.{Frontier}

-- These are the outcomes of the first k levels, and there is one more.
pub record IsPublished (b : Frontier) (k : ℕ) (done : List Outcome) : Type 0 where
  pub next : k < (plan_of b).bound
  pub outcomes : done ≡ take (cells_to (plan_of b) k) (all_outcomes (plan_of b))

-- the level behind the first k has a rank i, counted from 0
abbrev pub IsInNext : Planning → ℕ → ℕ → Type 0
IsInNext p k i = cells_to p k + i < cells_to p (k + 1)

-- the first n of these are the outcomes of the ranks from r on
abbrev pub AreOutcomes : Planning → ℕ → ℕ → List Outcome → Type 0
AreOutcomes p r n os = (i : ℕ) (d : Outcome) → i < n → slice_index_or os i d ≡ outcome_at p (r + i)
