-- What callers who wait are told, and what seats know then.
use Rattle.std.specs.Prelude.{◌≡◌, ◌⊎◌, ℕ, suc, ◌<◌, ◌≤◌, List, [], ◌∷◌, ◌++◌, Some}
use Rattle.cell_words.specs.Countdown.{CLAIMED}
use Rattle.cell_words.specs.Seats.{view_of, done_of}
use Rattle.cell_words.specs.declared.countdown.CountSeat.{CountSeat}
use Rattle.ask_seats.specs.Counts.{Knows}
use Rattle.ask_seats.specs.Replies.{Reply, Value, Over, Blocked, Zero, Beyond, BadIndex}
use Rattle.airy_wait.specs.declared.waits.Told.{Told}
use Rattle.airy_wait.specs.declared.waits.Told.TheVariants as tells

-- the reply that a caller was told
unfoldable pub told_reply : Told → Reply
told_reply (tells.Value v e) = Value v e
told_reply tells.Zero = Zero
told_reply tells.Over = Over
told_reply (tells.Blocked key) = Blocked key
told_reply tells.Beyond = Beyond
told_reply tells.BadIndex = BadIndex

-- the seat knows the first n ranks
abbrev pub KnowsBelow : ℕ → CountSeat → Type 0
KnowsBelow n s = (r : ℕ) → r < n → Knows s r

-- the seat knows the rank, or its latest look showed that another has claimed it
abbrev pub IsPassed : CountSeat → ℕ → Type 0
IsPassed s r = Knows s r ⊎ ((view_of s).latest ≡ Some (r, CLAIMED))

-- the numbers rise, the first from lo on, and all are below n
unfoldable pub RisesIn : ℕ → ℕ → List ℕ → Type 0
RisesIn lo n [] = Unit {0}
RisesIn lo n (x ∷ xs) = (lo ≤ x) × (x < n) × RisesIn (suc x) n xs

-- The seat s comes back as t with further receipts: ranks below n, in plan order.
pub record FillsInOrder (n : ℕ) (s t : CountSeat) : Type 0 where
  pub ranks : List ℕ
  pub done : done_of t ≡ done_of s ++ ranks
  pub order : RisesIn 0 n ranks
