-- Seats of a countdown board.
use Rattle.std.specs.Prelude.{◌≡◌, ◌≢◌, ◌≤◌, ℕ, ◌<◌, List, [], length, slice_index_or, Option, None, Some, false, vec_capacity}
use Rattle.atomic_table.specs.declared.shared.Seat.{Seat}
use Rattle.amp_plan.specs.Plans.{Planning}
use Rattle.cell_words.specs.Layout.{cells}
use Rattle.cell_words.specs.Countdown.{FILLED, spent, tail_of}
use Rattle.cell_words.specs.Acts.{act_of, IsDone, IsAt}
use Rattle.cell_words.specs.declared.view.Act.{Act}
use Rattle.cell_words.specs.declared.view.View.{View}
use Rattle.cell_words.specs.declared.view.Standing.{Standing}
use Rattle.cell_words.specs.declared.countdown.Countdown.{Countdown}
use Rattle.cell_words.specs.declared.countdown.CountSeat.{CountSeat}

-- the plan of a board, the number of its seats, and the ranks that were filled when it began
abbrev pub plan_of : Countdown → Planning
plan_of b = b.base.plan

abbrev pub seats_of : Countdown → ℕ
seats_of b = b.base.seats

abbrev pub carried_of : Countdown → List ℕ
carried_of b = b.base.carried.items

-- the number of a seat, the rank that it holds, and its receipts: the ranks that it filled, in order. On a board that goes on from a table
-- those of seat number 0 begin with the carried ranks, which count as filled and which no seat of this board wrote
abbrev pub number_of : CountSeat → ℕ
number_of s = s.number

abbrev pub held_of : CountSeat → Option ℕ
held_of s = s.held

abbrev pub done_of : CountSeat → List ℕ
done_of s = s.done.items

-- so it is for each of the seats
abbrev pub EachSeat : (CountSeat → Type 0) → List CountSeat → Type 0
EachSeat P ss = (j : ℕ) (d : CountSeat) → j < length ss → P (slice_index_or ss j d)

-- so it is for the first n seats, each with its place
abbrev pub EachPlaced : (ℕ → CountSeat → Type 0) → ℕ → List CountSeat → Type 0
EachPlaced P n ss = (k : ℕ) (d : CountSeat) → k < n → P k (slice_index_or ss k d)

-- the same number, the same held rank and the same list of receipts
abbrev pub IsSameSeat : CountSeat → CountSeat → Type 0
IsSameSeat s t = (t.number ≡ s.number) × (t.held ≡ s.held) × (t.done ≡ s.done)

-- the list of receipts is the same
abbrev pub HasSameDone : CountSeat → CountSeat → Type 0
HasSameDone s t = t.done ≡ s.done

abbrev pub view_in : Option (Seat (Unit {0}) View) → View
view_in None = spent
view_in (Some t) = t.me.0

-- what the seat has seen and done
abbrev pub view_of : CountSeat → View
view_of s = view_in s.place

-- A token of this board, over its plan.
pub record IsToken (b : Countdown) (t : Seat (Unit {0}) View) : Type 0 where
  pub table : t.table_id ≡ b.table.shared.table_id
  pub plan : t.me.0.plan ≡ plan_of b
  pub seats : t.me.0.seats ≡ seats_of b
  pub slots : t.me.1 ≡ []

abbrev pub HasToken : Countdown → Option (Seat (Unit {0}) View) → Type 0
HasToken b None = ⊥
HasToken b (Some t) = IsToken b t

-- A seat of this board that is at an act.
pub record IsAtAct (b : Countdown) (s : CountSeat) (a : Act) : Type 0 where
  pub token : HasToken b s.place
  pub low : a.rank < cells (plan_of b)
  pub at : IsAt (plan_of b) (number_of s) (done_of s) a (view_of s).portions
  pub room : cells (plan_of b) ≤ vec_capacity s.done

-- A seat of this board whose acts are all done.
pub record IsResting (b : Countdown) (s : CountSeat) : Type 0 where
  pub token : HasToken b s.place
  pub done : IsDone (plan_of b) (number_of s) (done_of s) (view_of s).portions
  pub room : cells (plan_of b) ≤ vec_capacity s.done

abbrev pub IsHolding : Countdown → CountSeat → Option ℕ → Type 0
IsHolding b s None = IsResting b s
IsHolding b s (Some r) = IsAtAct b s (act_of r 0 false 0 [])

-- A seat of this board between calls: it has one portion. The act of what it holds is at its beginning, and all others are done.
abbrev pub IsSeatOf : Countdown → CountSeat → Type 0
IsSeatOf b s = IsHolding b s (held_of s) × (tail_of (view_of s).portions ≡ [])

abbrev pub latest_word : Option (ℕ × ℕ) → Option ℕ
latest_word None = None
latest_word (Some x) = Some x.1

-- the latest look was at r
abbrev pub IsLookAt : Option (ℕ × ℕ) → ℕ → Type 0
IsLookAt None r = ⊥
IsLookAt (Some x) r = x.0 ≡ r

-- the latest look was at r, and didn't find it filled
abbrev pub ShowsUnfilled : Option (ℕ × ℕ) → ℕ → Type 0
ShowsUnfilled None r = ⊥
ShowsUnfilled (Some x) r = (x.0 ≡ r) × (x.1 ≢ FILLED)

abbrev pub standing_of : CountSeat → Standing
standing_of s = record { number = number_of s; held = held_of s; done = done_of s }
