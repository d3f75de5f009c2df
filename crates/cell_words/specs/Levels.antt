-- The frontier board: word 0 counts the published levels, a level being the keys of one Euler number, and four value words of each
-- cell follow, in plan order.
use Rattle.std.specs.Prelude.{◌≡◌, ℕ, suc, ◌+◌, ◌-◌, ◌*◌, ◌/◌, ◌%◌, ◌<◌, ◌≤◌, List, [], ◌++◌, length}
use Rattle.std.specs.Prelude.{map, take, drop, replicate, slice_index, Option, Some, None, max, false}
use mathlib.Core.Option.{some}
use lib.ListN.{get_elem?}
use Rattle.airy_math.specs.declared.Shape.TheVariants.{All}
use Rattle.airy_math.specs.Planned.{planned}
use Rattle.amp_plan.specs.Plans.{Planning, tensors_of}
use Rattle.atomic_table.specs.Table.{State, Step, Me}
use Rattle.cell_words.specs.Words.{word_of, IsSized}
use Rattle.amp_terms.specs.declared.Outcome.{Outcome}
use Rattle.cell_words.specs.Layout.{cells, all_outcomes, outcome_at}
use Rattle.cell_words.specs.declared.level_view.View.{View}
use Rattle.cell_words.specs.declared.level_view.Role.{Role}
use Rattle.cell_words.specs.declared.level_view.Role.TheVariants.{Filler, Asker, Spent}

-- the number of cells in the levels up to k
unfoldable pub cells_to : Planning → ℕ → ℕ
cells_to p k = length (planned (tensors_of p) k)

-- the outcomes of the level behind the first k
unfoldable pub level_after : Planning → ℕ → List Outcome
level_after p k = drop (cells_to p k) (take (cells_to p (k + 1)) (all_outcomes p))

-- the table in which the levels up to k are filled, and no other
unfoldable pub table_to : Planning → ℕ → List (Option Outcome)
table_to p k = map Some (take (cells_to p k) (all_outcomes p)) ++ replicate (cells p - cells_to p k) None

-- the value word i of the outcomes, four to each in plan order
unfoldable pub value_word : Planning → ℕ → ℕ
value_word p i = word_of (outcome_at p (i / 4)) (i % 4)

-- what stands in the place of a plan where there is none
abbrev pub no_plan : Planning
no_plan = record { tensors = record { dim = 0; shape = All; letter = false; a = []; b = []; c = []; d = [] }; bound = 0 }

abbrev pub first_view : Planning → View
first_view p = record { role = Filler; plan = p; count = 0; written = 0; looks = 0; latest = None }

abbrev pub new_asker : View → View
new_asker v = record { role = Asker; plan = v.plan; count = v.count; written = 0; looks = 0; latest = None }

abbrev pub spent : View
spent = record { role = Spent; plan = no_plan; count = 0; written = 0; looks = 0; latest = None }

-- how many value words are final
abbrev pub settled : View → ℕ
settled v = 4 * cells_to v.plan v.count + v.written

-- What the rule says of a view beside the filler's: an asker has its plan, and a count that isn't above its.
abbrev pub FitsAs : Role → ℕ → View → ℕ → View → Type 0
FitsAs Filler filler front id v = id ≡ filler
FitsAs Asker filler front id v = (v.plan ≡ front.plan) × (v.count ≤ front.count)
FitsAs Spent filler front id v = Unit {0}

abbrev pub Fits : ℕ → View → ℕ → View → Type 0
Fits filler front id v = FitsAs v.role filler front id v

-- The rule: all views have one plan; there is one filler, whose count is word 0, and no asker's count is above it; and the value words
-- of the published levels, and so many of the next as the filler wrote, are those of the outcomes.
pub record Lawful (words : List ℕ) (views : List View) : Type 0 where
  pub filler : ℕ
  pub front : View
  pub here : get_elem? views filler ≡ some front
  pub fills : front.role ≡ Filler
  pub counted : slice_index words 0 ≡ front.count
  pub stored : (i : ℕ) → i < settled front → slice_index words (suc i) ≡ value_word front.plan i
  -- the numbers of these outcomes are in range
  pub sized : (r : ℕ) → 4 * r < settled front → IsSized (outcome_at front.plan r)
  pub long : length words ≡ suc (4 * cells front.plan)
  pub inside : front.count ≤ front.plan.bound
  pub each : (id : ℕ) (v : View) → get_elem? views id ≡ some v → Fits filler front id v

abbrev pub Keeps : State (Unit {0}) View → Type 0
Keeps s = Lawful s.words s.views

-- ---- the steps

-- an asker's load of the count
abbrev pub looked : View → ℕ → View
looked v n = record v { count = n; looks = suc v.looks; latest = Some n }

-- the next value word is stored
abbrev pub wrote : View → View
wrote v = record v { written = suc v.written }

-- the count is raised
abbrev pub raised : View → View
raised v = record v { count = suc v.count; written = 0 }

-- a view is joined into another: an asker takes the greater count, a filler stays as it is
abbrev pub joined_as : Role → View → View → View
joined_as Filler v w = v
joined_as Asker v w = record v { count = max v.count w.count }
joined_as Spent v w = v

abbrev pub joined : View → View → View
joined v w = joined_as v.role v w

-- ---- what the steps tell

abbrev pub M : Type 0
M = Me (Unit {0}) View

abbrev pub Looked : Step (Unit {0}) → M → ℕ → M → Type 0
Looked s m n w =
    (w ≡ (looked m.0 n, m.1))
    × (m.0.count ≤ n)
    × (n ≤ m.0.plan.bound)
    × ((r : ℕ) → r < cells_to m.0.plan n → IsSized (outcome_at m.0.plan r))

abbrev pub Wrote : Step (Unit {0}) → M → ℕ → M → Type 0
Wrote s m n w = w ≡ (wrote m.0, m.1)

abbrev pub Raised : Step (Unit {0}) → M → ℕ → M → Type 0
Raised s m n w = w ≡ (raised m.0, m.1)

abbrev pub Reads : Step (Unit {0}) → M → ℕ → M → Type 0
Reads s m n w = (w ≡ m) × (n ≡ value_word m.0.plan (s.word - 1))
