-- Boards that begin with the outcomes of a table.
use Rattle.std.specs.Prelude.{◌≡◌, ◌≤◌, ◌<◌, ◌*◌, ◌+◌, ℕ, suc, List, [], length, Option, None, Some, Bool, true, false, not, cond, nat_eq}
use Rattle.std.specs.Prelude.{slice_index, get_or}
use Rattle.std.specs.Option.{is_some}
use Rattle.airy_math.specs.Sums.{keep, below}
use Rattle.amp_plan.specs.Plans.{Planning}
use Rattle.amp_plan.specs.Needs.{has, needs_at}
use Rattle.amp_terms.specs.declared.Outcome.{Outcome}
use Rattle.cell_words.specs.Layout.{cells, outcome_at, code_of}
use Rattle.cell_words.specs.Words.{IsSized}
use Rattle.cell_words.specs.Countdown.{FILLED, count_of}
use Rattle.cell_words.specs.Seats.{IsSeatOf, number_of, held_of, done_of, view_of, EachPlaced}
use Rattle.cell_words.specs.declared.countdown.Countdown.{Countdown}
use Rattle.cell_words.specs.declared.countdown.CountSeat.{CountSeat}

-- whether the table has an outcome at the rank
abbrev pub carries : List (Option Outcome) → ℕ → Bool
carries t r = is_some (get_or t r None)

-- the carried ranks, ascending
unfoldable pub carried_in : List (Option Outcome) → List ℕ
carried_in t = keep (carries t) (below (length t))

-- The table's outcomes are those of the plan, and with a rank it has all its needs.
pub record CanResume (p : Planning) (t : List (Option Outcome)) : Type 0 where
  pub long : length t ≤ cells p
  pub right : (r : ℕ) (o : Outcome) → get_or t r None ≡ Some o → o ≡ outcome_at p r
  pub needs : (r q : ℕ) → carries t r ≡ true → has q (needs_at p r) ≡ true → carries t q ≡ true

-- What can be resumed over a plan can be resumed over the plan up to a greater bound.
abbrev pub GrownTablesLaw : Type 0
GrownTablesLaw = (p : Planning) (Y : ℕ) (t : List (Option Outcome)) → p.bound ≤ Y → CanResume p t
    → CanResume (record { tensors = p.tensors; bound = Y }) t

-- The words of the first cells: those of a carried rank are filled, the state of any other counts its needs that aren't carried.
pub record AreResumed (p : Planning) (t : List (Option Outcome)) (n : ℕ) (words : List ℕ) : Type 0 where
  pub filled : (r : ℕ) → r < n → carries t r ≡ true → slice_index words (5 * r) ≡ FILLED
  pub states : (r : ℕ) → r < n → carries t r ≡ false → slice_index words (5 * r) ≡ count_of (λ q. not (carries t q)) (needs_at p r)
  pub values : (r k : ℕ) → r < n → k < 4 → slice_index words (5 * r + suc k) ≡ cond (carries t r) (code_of p r k) 0
  pub sized : (r : ℕ) → r < n → carries t r ≡ true → IsSized (outcome_at p r)

-- A seat of number k on a board that was resumed.
pub record IsResumed (b : Countdown) (carried : List ℕ) (k : ℕ) (t : CountSeat) : Type 0 where
  pub seat : IsSeatOf b t
  pub number : number_of t ≡ k
  pub held : held_of t ≡ None
  pub done : done_of t ≡ cond (nat_eq k 0) carried []
  pub seen : (view_of t).seen ≡ carried
  pub looks : (view_of t).looks ≡ 0
  pub latest : (view_of t).latest ≡ None

-- A seat of number k on a new board.
pub record IsNew (b : Countdown) (k : ℕ) (t : CountSeat) : Type 0 where
  pub seat : IsSeatOf b t
  pub number : number_of t ≡ k
  pub held : held_of t ≡ None
  pub done : done_of t ≡ []
  pub seen : (view_of t).seen ≡ []
  pub looks : (view_of t).looks ≡ 0
  pub latest : (view_of t).latest ≡ None

-- the seats of a new board, and of one that was resumed, numbered from 0 in order
abbrev pub AreNew : Countdown → ℕ → List CountSeat → Type 0
AreNew b n ss = EachPlaced (IsNew b) n ss

abbrev pub AreBegun : Countdown → List ℕ → ℕ → List CountSeat → Type 0
AreBegun b carried n ss = EachPlaced (IsResumed b carried) n ss
