-- Frontier boards and their seats.
use Rattle.std.specs.Prelude.{◌≡◌, ℕ, ◌*◌, ◌<◌, ◌≤◌, List, [], Option, take, Some, None, vec_capacity}
use Rattle.airy_math.specs.Levels.{euler_of}
use Rattle.amp_plan.specs.Plans.{Planning, key_at}
use Rattle.amp_terms.specs.declared.Outcome.{Outcome}
use Rattle.atomic_table.specs.declared.shared.Seat.{Seat}
use Rattle.cell_words.specs.Layout.{cells, all_outcomes}
use Rattle.cell_words.specs.Levels.{cells_to, settled}
use Rattle.cell_words.specs.declared.level_view.View.{View}
use Rattle.cell_words.specs.declared.level_view.Role.TheVariants.{Filler, Asker}
use Rattle.cell_words.specs.declared.frontier.Frontier.{Frontier}
use Rattle.cell_words.specs.declared.frontier.LevelSeat.{LevelSeat}
use Rattle.cell_words.specs.declared.frontier.FillSeat.{FillSeat}

-- the plan of a board
abbrev pub plan_of : Frontier → Planning
plan_of b = b.plan

-- the number of levels that the filler has published, and the outcomes of their ranks
abbrev pub published_of : FillSeat → ℕ
published_of f = f.published

abbrev pub outcomes_of : FillSeat → List Outcome
outcomes_of f = f.outcomes.items

-- how often an asker has looked, and the count that it loaded last
abbrev pub looks_of : LevelSeat → ℕ
looks_of s = s.place.me.0.looks

abbrev pub latest_of : LevelSeat → Option ℕ
latest_of s = s.place.me.0.latest

abbrev pub Place : Type 0
Place = Seat (Unit {0}) View

-- a seat of this board
abbrev pub IsPlaceOf : Frontier → Place → Type 0
IsPlaceOf b s = (s.table_id ≡ b.table.shared.table_id) × (s.me.0.plan ≡ plan_of b) × (s.me.1 ≡ []) × (s.me.0.count ≤ (plan_of b).bound)

-- an asker's seat of this board
abbrev pub IsAsker : Frontier → LevelSeat → Type 0
IsAsker b s = IsPlaceOf b s.place × (s.place.me.0.role ≡ Asker)

-- it has not looked
abbrev pub IsUnseen : LevelSeat → Type 0
IsUnseen s = (looks_of s ≡ 0) × (latest_of s ≡ None)

-- it has looked: the count decides on every rank
abbrev pub HasLooked : LevelSeat → Type 0
HasLooked s = (n : ℕ) × (latest_of s ≡ Some n)

-- the latest look shows that a rank isn't filled: the count that it loaded is below the Euler number of the rank's key
abbrev pub ShowsUnfilled : View → ℕ → Type 0
ShowsUnfilled v r = (n : ℕ) × (v.latest ≡ Some n) × (n < euler_of (key_at v.plan r))

-- an asker knows the ranks of the levels up to its count
abbrev pub Knows : LevelSeat → ℕ → Type 0
Knows s r = r < cells_to s.place.me.0.plan s.place.me.0.count

-- The filler's seat of this board, with the outcomes of the first n ranks written: those of the published levels, and perhaps some of the
-- next.
pub record IsFilling (b : Frontier) (n : ℕ) (f : FillSeat) : Type 0 where
  pub of : IsPlaceOf b f.place
  pub fills : f.place.me.0.role ≡ Filler
  pub published : published_of f ≡ f.place.me.0.count
  pub written : settled f.place.me.0 ≡ 4 * n
  pub outcomes : outcomes_of f ≡ take n (all_outcomes (plan_of b))
  pub room : cells (plan_of b) ≤ vec_capacity f.outcomes

-- the filler's seat of this board, with the published levels written and nothing of the next
abbrev pub IsFiller : Frontier → FillSeat → Type 0
IsFiller b f = IsFilling b (cells_to (plan_of b) (published_of f)) f
