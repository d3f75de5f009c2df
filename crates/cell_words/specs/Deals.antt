-- Seats without tokens, and how the portions of one view are dealt to them.
use Rattle.std.specs.Prelude.{◌≡◌, ◌≤◌, ◌<◌, ℕ, [], ◌∷◌, None, List, length, slice_index_or, vec_capacity, ◌++◌, map, true, cond, nat_eq}
use Rattle.amp_plan.specs.Plans.{Planning}
use Rattle.amp_plan.specs.Needs.{has, needs_at}
use Rattle.cell_words.specs.Layout.{cells}
use Rattle.cell_words.specs.Countdown.{Known}
use Rattle.cell_words.specs.Acts.{AreDone, ranks_of}
use Rattle.cell_words.specs.Seats.{IsSeatOf, seats_of, number_of, held_of, done_of, view_of, EachSeat}
use Rattle.cell_words.specs.declared.view.Portion.{Portion}
use Rattle.cell_words.specs.declared.view.View.{View}
use Rattle.cell_words.specs.declared.countdown.Countdown.{Countdown}
use Rattle.cell_words.specs.declared.countdown.CountSeat.{CountSeat}

-- a seat of number k without a token, with room for n receipts. The first has the carried ranks
pub record IsBlank (n : ℕ) (carried : List ℕ) (k : ℕ) (s : CountSeat) : Type 0 where
  pub number : number_of s ≡ k
  pub held : held_of s ≡ None
  pub done : done_of s ≡ cond (nat_eq k 0) carried []
  pub room : n ≤ vec_capacity s.done

-- the portion can be the seat's: its acts are done, and the seat's receipts are their ranks
pub record IsReady (p : Planning) (q : Portion) (s : CountSeat) : Type 0 where
  pub number : q.number ≡ number_of s
  pub finished : AreDone p q.acts
  pub done : done_of s ≡ ranks_of q.acts
  pub room : cells p ≤ vec_capacity s.done
  pub held : held_of s ≡ None

-- The seat t is the seat s with a portion of the view: it has seen what the view has, and where the view hasn't looked, nor has it.
pub record IsDealt (b : Countdown) (v : View) (s t : CountSeat) : Type 0 where
  pub seat : IsSeatOf b t
  pub number : number_of t ≡ number_of s
  pub held : held_of t ≡ None
  pub done : t.done ≡ s.done
  pub seen : (view_of t).seen ≡ v.seen
  pub looks : v.looks ≡ 0 → (view_of t).looks ≡ 0
  pub latest : v.latest ≡ None → (view_of t).latest ≡ None

-- all receipts of some seats, one seat after the other
abbrev pub receipts_of : List CountSeat → List ℕ
receipts_of [] = []
receipts_of (s ∷ ss) = done_of s ++ receipts_of ss

abbrev pub numbers_in : List CountSeat → List ℕ
numbers_in ss = map number_of ss

-- Seats of this board, none of which holds a rank: as many as there are, at least one.
pub record AreSeats (b : Countdown) (ss : List CountSeat) : Type 0 where
  pub some : 0 < length ss
  pub each : EachSeat (IsSeatOf b) ss
  pub free : EachSeat (λ s. held_of s ≡ None) ss

-- and they are all
pub record AreAll (b : Countdown) (ss : List CountSeat) : Type 0 where
  pub seats : AreSeats b ss
  pub all : (k : ℕ) → k < seats_of b → has k (numbers_in ss) ≡ true

-- one of the seats knows the rank
abbrev pub SomeKnows : List CountSeat → ℕ → Type 0
SomeKnows ss r = (j : ℕ) × (j < length ss) × ((d : CountSeat) → Known (view_of (slice_index_or ss j d)) r)

-- The seats without their tokens.
pub record AreTaken (old new : List CountSeat) : Type 0 where
  pub len : length new ≡ length old
  pub number : (j : ℕ) (d : CountSeat) → j < length old → number_of (slice_index_or new j d) ≡ number_of (slice_index_or old j d)
  pub held : (j : ℕ) (d : CountSeat) → j < length old → held_of (slice_index_or new j d) ≡ held_of (slice_index_or old j d)
  pub done : (j : ℕ) (d : CountSeat) → j < length old → (slice_index_or new j d).done ≡ (slice_index_or old j d).done

-- each portion can be the seat's at its place
abbrev pub AreReady : Planning → List Portion → List CountSeat → Type 0
AreReady p qs ss = (j : ℕ) (q : Portion) (d : CountSeat) → j < length ss → IsReady p (slice_index_or qs j q) (slice_index_or ss j d)

-- A view that has the portions of the seats, in order, and has seen what they saw.
pub record IsGathered (p : Planning) (ss : List CountSeat) (v : View) : Type 0 where
  pub many : length v.portions ≡ length ss
  pub ready : AreReady p v.portions ss
  pub seen : (j : ℕ) (d : CountSeat) → j < length ss → (r : ℕ) → has r (view_of (slice_index_or ss j d)).seen ≡ true → has r v.seen ≡ true

-- so it is for each of the seats, before and after
abbrev pub EachIs : (CountSeat → CountSeat → Type 0) → List CountSeat → List CountSeat → Type 0
EachIs P old new = (j : ℕ) (d : CountSeat) → j < length old → P (slice_index_or old j d) (slice_index_or new j d)

-- so it is for each but the first
abbrev pub OthersAre : (CountSeat → CountSeat → Type 0) → List CountSeat → List CountSeat → Type 0
OthersAre P old new = (j : ℕ) (d : CountSeat) → 0 < j → j < length old → P (slice_index_or old j d) (slice_index_or new j d)

-- the receipts of the first seat
abbrev pub first_receipt : List CountSeat → CountSeat → List ℕ
first_receipt ss d = done_of (slice_index_or ss 0 d)

-- the seat knows the needs of a rank
abbrev pub KnowsNeeds : Planning → ℕ → CountSeat → Type 0
KnowsNeeds p r s = (q : ℕ) → has q (needs_at p r) ≡ true → Known (view_of s) q

-- What filling a rank with all seats in hand does to a seat: it knows the rank and what it knew, and holds nothing.
pub record IsAfter (rank : ℕ) (s t : CountSeat) : Type 0 where
  pub number : number_of t ≡ number_of s
  pub held : held_of t ≡ None
  pub knows : Known (view_of t) rank
  pub keeps : (r : ℕ) → Known (view_of s) r → Known (view_of t) r
