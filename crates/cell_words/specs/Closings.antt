-- What is left of a board.
use Rattle.std.specs.Prelude.{◌≡◌, ℕ, suc, ◌+◌, ◌*◌, ◌<◌, List, [], length, map, cond, nat_eq, true}
use Rattle.std.specs.Prelude.{slice_index, slice_index_or, get_or, Option, None, Some}
use Rattle.amp_plan.specs.Needs.{has}
use Rattle.amp_plan.specs.Plans.{Planning}
use Rattle.amp_plan.specs.Rows.{AreDistinct}
use Rattle.amp_terms.specs.declared.Outcome.{Outcome}
use Rattle.cell_words.specs.Layout.{cells, outcome_at, code_of}
use Rattle.cell_words.specs.Words.{IsSized}
use Rattle.cell_words.specs.Countdown.{FILLED}
use Rattle.cell_words.specs.Seats.{number_of, done_of, EachSeat}
use Rattle.cell_words.specs.Resuming.{carries}
use Rattle.cell_words.specs.declared.closed.Closed.{Closed}
use Rattle.cell_words.specs.declared.countdown.CountSeat.{CountSeat}

-- the value words of the filled cells are those of their outcomes
pub record AreWords (p : Planning) (words : List ℕ) : Type 0 where
  pub values : (r k : ℕ) → r < cells p → slice_index words (5 * r) ≡ FILLED → k < 4 → slice_index words (5 * r + suc k) ≡ code_of p r k
  pub sized : (r : ℕ) → r < cells p → slice_index words (5 * r) ≡ FILLED → IsSized (outcome_at p r)

-- what the words say of the rank r: its outcome where the cell is filled
abbrev pub read_at : Planning → List ℕ → ℕ → Option Outcome
read_at p words r = cond (nat_eq (get_or words (5 * r) 0) FILLED) (Some (outcome_at p r)) None

-- the receipts that a board leaves, one list for each seat number
abbrev pub receipts_in : Closed → List (List ℕ)
receipts_in c = map (λ v. v.items) c.receipts.items

-- the receipt of the seat number k
abbrev pub receipt_at : List (List ℕ) → ℕ → List ℕ
receipt_at receipts k = slice_index_or receipts k []

-- at the place of the seat's number stands what the seat filled, in order
abbrev pub IsOf : List (List ℕ) → CountSeat → Type 0
IsOf receipts s = receipt_at receipts (number_of s) ≡ done_of s

abbrev pub AreOf : List CountSeat → List (List ℕ) → Type 0
AreOf ss receipts = EachSeat (IsOf receipts) ss

-- the rank r stands in the receipt of the seat number k
abbrev pub StandsIn : List (List ℕ) → ℕ → ℕ → Type 0
StandsIn receipts k r = has r (receipt_at receipts k) ≡ true

-- the outcomes of these ranks, and None elsewhere
abbrev pub HasJust : Planning → List ℕ → List (Option Outcome) → Type 0
HasJust p ranks table = (r : ℕ) → r < cells p → get_or table r None ≡ cond (has r ranks) (Some (outcome_at p r)) None

-- Each filled rank stands in one receipt, once, and nothing else does.
pub record AreReceipts (table : List (Option Outcome)) (receipts : List (List ℕ)) : Type 0 where
  pub once : (k : ℕ) → k < length receipts → AreDistinct (receipt_at receipts k)
  pub apart : (j k r : ℕ) → j < length receipts → k < length receipts → StandsIn receipts j r → StandsIn receipts k r → j ≡ k
  pub filled : (r : ℕ) → r < length table → carries table r ≡ true → (k : ℕ) × (k < length receipts) × StandsIn receipts k r
  pub only : (k r : ℕ) → k < length receipts → StandsIn receipts k r → (r < length table) × (carries table r ≡ true)
