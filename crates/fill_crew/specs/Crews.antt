-- The seats of a crew, and boards that are swept.
use Rattle.std.specs.Prelude.{◌≡◌, ℕ, ◌<◌, List, ◌++◌, length, None, true, slice_index_or}
use Rattle.amp_plan.specs.Needs.{has}
use Rattle.cell_words.specs.Countdown.{Known}
use Rattle.cell_words.specs.Seats.{IsSeatOf, HasSameDone, number_of, held_of, done_of, view_of}
use Rattle.cell_words.specs.Deals.{AreAll, OthersAre, first_receipt, receipts_of}
use Rattle.cell_words.specs.declared.countdown.Countdown.{Countdown}
use Rattle.cell_words.specs.declared.countdown.CountSeat.{CountSeat}

-- a seat of the board that holds no rank
abbrev pub IsIdle : Countdown → CountSeat → Type 0
IsIdle b s = IsSeatOf b s × (held_of s ≡ None)

-- The seat s comes back as t: a seat of the board that holds no rank, with its number.
pub record IsBack (b : Countdown) (s t : CountSeat) : Type 0 where
  pub seat : IsSeatOf b t
  pub held : held_of t ≡ None
  pub number : number_of t ≡ number_of s

-- a list begins with these ranks
abbrev pub BeginsWith : List ℕ → List ℕ → Type 0
BeginsWith ranks list = (more : List ℕ) × (list ≡ ranks ++ more)

-- A worker ran with the seat s, which comes back as t: what the seat knew it knows, and its receipts stand before those of the run.
pub record HasWorked (b : Countdown) (s t : CountSeat) : Type 0 where
  pub back : IsBack b s t
  pub keeps : (r : ℕ) → Known (view_of s) r → Known (view_of t) r
  pub more : List ℕ
  pub done : done_of t ≡ done_of s ++ more

-- each item of a list has P
abbrev pub EachAt : {X : Type 0} → (X → Type 0) → List X → Type 0
EachAt {X = X} P xs = (k : ℕ) (d : X) → k < length xs → P (slice_index_or xs k d)

-- the items of two lists have P, place by place
abbrev pub PairsAt : {X : Type 0} → (X → X → Type 0) → List X → List X → Type 0
PairsAt {X = X} P xs ys = (k : ℕ) (d : X) → k < length xs → P (slice_index_or xs k d) (slice_index_or ys k d)

-- All seats of a board after the first n ranks were swept: these are filled, and every seat knows them. The first seat filled what was
-- left, behind its receipts.
pub record AreSwept (b : Countdown) (n : ℕ) (old new : List CountSeat) : Type 0 where
  pub all : AreAll b new
  pub len : length new ≡ length old
  pub number : (j : ℕ) (d : CountSeat) → j < length old → number_of (slice_index_or new j d) ≡ number_of (slice_index_or old j d)
  pub first : (d : CountSeat) → BeginsWith (first_receipt old d) (first_receipt new d)
  pub others : OthersAre HasSameDone old new
  pub filled : (r : ℕ) → r < n → has r (receipts_of new) ≡ true
  pub knows : (j : ℕ) (d : CountSeat) (r : ℕ) → j < length old → r < n → Known (view_of (slice_index_or new j d)) r
