-- For private functions and for proofs: no public contract rests on this file.
-- Which asks are whose, and what the callers were told.
use Rattle.std.specs.Prelude.{◌≡◌, ℕ, ◌+◌, ◌*◌, ◌<◌, ◌≤◌, List, length, map, slice_get, slice_index_or, vec_capacity, []}
use Rattle.airy_math.specs.Keys.{Key}
use Rattle.amp_plan.specs.Plans.{Planning}
use Rattle.cell_words.specs.Seats.{IsSeatOf}
use Rattle.cell_words.specs.declared.countdown.Countdown.{Countdown}
use Rattle.ask_seats.specs.Replies.{Reply}
use Rattle.ask_seats.specs.Talks.{told_of}
use Rattle.airy_wait.specs.Waits.{told_reply}
use Rattle.airy_wait.specs.declared.callers.Caller.{Caller}

-- what there is to tell of the keys, in order
abbrev pub plan_replies : Planning → List Key → List Reply
plan_replies p keys = map (told_of p) keys

-- what a caller was told
abbrev pub told_to : Caller → List Reply
told_to c = map told_reply c.told.items

-- Of all replies, these are every step-th from the first on.
abbrev pub AreTurns : ℕ → ℕ → List Reply → List Reply → Type 0
AreTurns step first all own = (j : ℕ) → first + step * j < length all → slice_get own j ≡ slice_get all (first + step * j)

-- There is a caller, and each was told the replies that are its own: those to the asks whose number, from 0, is its place modulo the number
-- of callers.
pub record AreTold (all : List Reply) (cs : List Caller) : Type 0 where
  pub some : 0 < length cs
  pub each : (c : ℕ) (d : Caller) → c < length cs → AreTurns (length cs) c all (told_to (slice_index_or cs c d))

-- ---- what the code's parts leave

-- a caller with a seat of the board, and with room for n replies, that was told nothing
pub record IsFresh (b : Countdown) (n : ℕ) (c : Caller) : Type 0 where
  pub seat : IsSeatOf b c.seat
  pub told : c.told.items ≡ []
  pub room : n ≤ vec_capacity c.told
