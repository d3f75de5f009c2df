-- The ranks that can be claimed at the start of a board.
use Rattle.std.specs.Prelude.{ℕ, List, [], ◌∷◌, Bool, true, not, ◌&&◌}
use Rattle.airy_math.specs.Sums.{keep, below}
use Rattle.amp_plan.specs.Plans.{Planning}
use Rattle.amp_plan.specs.Needs.{has, needs_at}
use Rattle.cell_words.specs.Layout.{cells}

-- whether each of the numbers is carried
abbrev pub all_in : List ℕ → List ℕ → Bool
all_in carried [] = true
all_in carried (q ∷ qs) = has q carried && all_in carried qs

-- a rank that isn't carried, and all of whose needs are
abbrev pub can_start : Planning → List ℕ → ℕ → Bool
can_start p carried r = not (has r carried) && all_in carried (needs_at p r)

-- the ranks that can be claimed at the start, ascending
unfoldable pub starts : Planning → List ℕ → List ℕ
starts p carried = keep (can_start p carried) (below (cells p))
