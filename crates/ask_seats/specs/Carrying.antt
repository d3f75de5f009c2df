-- What the last board of a session began with, and where that stands in the receipts that it leaves.
use Rattle.std.specs.Prelude.{◌≡◌, ℕ, ◌<◌, ◌≤◌, List, [], ◌∷◌, ◌++◌, Option, Some, None, slice_index_or}
use Rattle.airy_math.specs.Levels.{euler_of}
use Rattle.amp_plan.specs.Plans.{Planning, tensors_of, key_at}
use Rattle.amp_terms.specs.declared.Outcome.{Outcome}
use Rattle.cell_words.specs.Closings.{receipt_at, receipts_in}
use Rattle.cell_words.specs.Deals.{first_receipt}
use Rattle.cell_words.specs.Layout.{cells, IsPartial}
use Rattle.cell_words.specs.Resuming.{carried_in}
use Rattle.cell_words.specs.Seats.{number_of}
use Rattle.cell_words.specs.declared.closed.Closed.{Closed}
use Rattle.cell_words.specs.declared.countdown.CountSeat.{CountSeat}
use Rattle.fill_crew.specs.Crews.{BeginsWith}
use Rattle.ask_seats.specs.Sessions.{bound_behind, finished_behind}
use Rattle.ask_seats.specs.Talks.{IsPart, Carried, up_to}
use Rattle.command_words.specs.declared.line.Line.{Line}
use Rattle.command_words.specs.declared.line.Line.TheVariants.{Grow}

-- Seat number 0 is the first of the seats, and its receipts begin with these ranks.
pub record Leads (ranks : List ℕ) (ss : List CountSeat) : Type 0 where
  pub number : (d : CountSeat) → number_of (slice_index_or ss 0 d) ≡ 0
  pub front : (d : CountSeat) → BeginsWith ranks (first_receipt ss d)

-- the receipts that seat number 0 leaves begin with these ranks
abbrev pub LeavesFirst : List ℕ → Closed → Type 0
LeavesFirst ranks c = BeginsWith ranks (receipt_at (receipts_in c) 0)

-- the plan behind some lines of a session that began with the plan p
abbrev pub plan_behind : Planning → List Line → Planning
plan_behind p lines = up_to (bound_behind (tensors_of p) p.bound lines) p

-- the ranks of the plan behind some lines that a `finish` among them settled are carried
abbrev pub CarriesSettled : Planning → List Line → List (Option Outcome) → Type 0
CarriesSettled p lines carried = (X r : ℕ) → finished_behind (tensors_of p) p.bound None lines ≡ Some X
    → r < cells (plan_behind p lines) → euler_of (key_at (plan_behind p lines) r) ≤ X → Carried carried r

-- The outcomes with which the last board of a session began, which began with the plan p.
pub data HasBegun (p : Planning) (lines : List Line) (carried : List (Option Outcome)) : Type 0 where
  -- none, where no `grow` stands among the lines
  anew : IsPart lines → carried ≡ [] → HasBegun p lines carried
  -- those that the board before the last `grow` had filled, all settled ones among them
  resumed : (before : List Line) (Y : ℕ) (last : List Line) → lines ≡ before ++ (Grow Y ∷ last) → IsPart last
      → IsPartial (plan_behind p before) carried → CarriesSettled p before carried → HasBegun p lines carried

-- In the receipts that a session's last board leaves those of seat number 0 begin with the ranks that the board began with, ascending.
pub record KeepsCarried (p : Planning) (lines : List Line) (c : Closed) : Type 0 where
  pub carried : List (Option Outcome)
  pub begun : HasBegun p lines carried
  pub first : LeavesFirst (carried_in carried) c
