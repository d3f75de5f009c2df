-- The replies that a session may give to its lines, whatever its workers have filled at each moment.
use Prim.Native.Nat.{ℕ}
use mathlib.Core.Path.{◌≡◌}
use mathlib.Core.Bool.{Bool, true, false, cond, ◌&&◌}
use mathlib.Core.List.{List, [], ◌∷◌}
use mathlib.Core.Logic.{◌⊎◌}
use lib.Dec.{ltb}
use lib.ListN.{get_or}
use Rattle.std.specs.Prelude.{IsTrue, Option, Some, None, if◌then◌else◌}
use Rattle.airy_math.specs.Keys.{Key}
use Rattle.airy_math.specs.Cuts.{letter_of}
use Rattle.airy_math.specs.Shapes.{covers}
use Rattle.airy_math.specs.Levels.{euler_of}
use Rattle.airy_math.specs.Tensors.{Tensors}
use Rattle.airy_math.specs.Planned.{planned, IsPlanned}
use Rattle.airy_math.specs.Ranks.{place_of, key_at}
use Rattle.airy_math.specs.Terms.{StandsIn, RestsOn}
use Rattle.amp_plan.specs.Limits.{Limit, Within, PassesBound, PassesCells, PassesNeeds, limit}
use Rattle.amp_plan.specs.Places.{are_below}
use Rattle.amp_plan.specs.declared.Place.{Place}
use Rattle.amp_plan.specs.declared.Place.TheVariants as place
use Rattle.amp_terms.specs.declared.Outcome.{Outcome}
use Rattle.amp_terms.specs.declared.Outcome.TheVariants as outcome
use Rattle.amp_terms.specs.Outcomes.{outcomes}
use Rattle.ask_seats.specs.Replies.{Reply, Value, Over, Blocked, NotYet, Zero, Beyond, BadIndex, GrownTo, ManyCells, ManyNeeds}
use Rattle.command_words.specs.declared.line.Line.{Line}
use Rattle.command_words.specs.declared.line.Line.TheVariants.{Ask, Finish, Grow}

-- What a session is about: tensors, whether they carry the letter, and how many workers fill their table.
pub record Session : Type 0 where
  pub tensors : Tensors
  pub letter : Bool
  pub crew : ℕ

-- Where a session stands at a line: the bound of its plan; the bound at the last `finish` before, where there was one; and the planned
-- keys of which earlier replies gave the outcome.
pub record Stage : Type 0 where
  pub bound : ℕ
  pub finished : Option ℕ
  pub given : List Key

abbrev pub start : ℕ → Stage
start X = record { bound = X; finished = None; given = [] }

-- behind a `finish`
unfoldable pub finish : Stage → Stage
finish stage = record stage { finished = Some stage.bound }

-- where a key stands in the plan up to X, or why it stands nowhere
unfoldable pub place_at : Tensors → ℕ → Key → Place
place_at T X key =
    cond (ltb X (euler_of key)) place.Beyond
    (cond (covers T.shape key) (cond (are_below T.dim key.idx) (place.At (place_of key (planned T X))) place.BadIndex) place.Zero)

unfoldable pub is_rank : Place → Bool
is_rank (place.At r) = true
is_rank place.Zero = false
is_rank place.Beyond = false
is_rank place.BadIndex = false

-- the outcome of a planned key of T up to X, as a reply
unfoldable pub outcome_reply : Tensors → Bool → ℕ → Key → Outcome → Reply
outcome_reply T letter X key (outcome.Value v) = Value v (cond letter (letter_of T.shape key) 0)
outcome_reply T letter X key outcome.Over = Over
outcome_reply T letter X key (outcome.Blocked r) = Blocked (key_at (planned T X) r)

-- what there is to tell of a key at a place: the outcome of its rank, or why it has none
unfoldable pub told_at : Tensors → Bool → ℕ → Key → Place → Reply
told_at T letter X key (place.At r) = outcome_reply T letter X key (get_or (outcomes T X) r outcome.Over)
told_at T letter X key place.Zero = Zero
told_at T letter X key place.Beyond = Beyond
told_at T letter X key place.BadIndex = BadIndex

unfoldable pub told : Tensors → Bool → ℕ → Key → Reply
told T letter X key = told_at T letter X key (place_at T X key)

-- no `finish` stands before at which a key of this Euler number was planned
unfoldable pub is_open : Option ℕ → ℕ → Bool
is_open None e = true
is_open (Some X) e = ltb X e

-- the key is planned, and not settled: no `finish` stands before at which it was planned
unfoldable pub is_unsettled : Session → Stage → Key → Bool
is_unsettled s stage key = is_rank (place_at s.tensors stage.bound key) && is_open stage.finished (euler_of key)

-- ---- a `grow`

-- its reply, by the limit that the plan up to the new bound X passes; no line has a bound that is none
unfoldable pub growth : Limit → ℕ → Reply
growth Within X = GrownTo X
growth PassesBound X = Beyond
growth (PassesCells e) X = ManyCells e
growth (PassesNeeds key) X = ManyNeeds key

-- the bound behind it: the new one, or, where its plan passes a limit, the old one
unfoldable pub bound_after : Limit → ℕ → ℕ → ℕ
bound_after Within X Y = Y
bound_after PassesBound X Y = X
bound_after (PassesCells e) X Y = X
bound_after (PassesNeeds key) X Y = X

-- behind a `grow` to Y
unfoldable pub grown : Tensors → ℕ → Stage → Stage
grown T Y stage = record stage { bound = bound_after (limit T Y) stage.bound Y }

-- the bound behind some lines
unfoldable pub bound_behind : Tensors → ℕ → List Line → ℕ
bound_behind T X [] = X
bound_behind T X (Ask key ∷ lines) = bound_behind T X lines
bound_behind T X (Finish ∷ lines) = bound_behind T X lines
bound_behind T X (Grow Y ∷ lines) = bound_behind T (bound_after (limit T Y) X Y) lines

-- and the bound at the last `finish` among them, else the one before
unfoldable pub finished_behind : Tensors → ℕ → Option ℕ → List Line → Option ℕ
finished_behind T X finished [] = finished
finished_behind T X finished (Ask key ∷ lines) = finished_behind T X finished lines
finished_behind T X finished (Finish ∷ lines) = finished_behind T X (Some X) lines
finished_behind T X finished (Grow Y ∷ lines) = finished_behind T (bound_after (limit T Y) X Y) finished lines

-- ---- an ask

-- the one key is the other, or rests on it
abbrev pub IsOrRestsOn : Tensors → Key → Key → Type 0
IsOrRestsOn T one other = (one ≡ other) ⊎ RestsOn T one other

-- A reply that is admitted to an ask for the key at a stage.
pub record IsAdmitted (s : Session) (stage : Stage) (key : Key) (reply : Reply) : Type 0 where
  -- it is what there is to tell of the key, or `not yet`, which only an unsettled key has
  pub said : (reply ≡ told s.tensors s.letter stage.bound key) ⊎ ((reply ≡ NotYet) × IsTrue (is_unsettled s stage key))
  -- no answer is taken back: `not yet` is not said of a key of which an earlier reply gave the outcome, nor of what that key rests on
  pub kept : reply ≡ NotYet
      → (other : Key) → IsPlanned s.tensors stage.bound other → StandsIn other stage.given → IsOrRestsOn s.tensors other key → ⊥
  -- without workers nothing is filled but by a `finish`
  pub alone : s.crew ≡ 0 → IsTrue (is_unsettled s stage key) → reply ≡ NotYet

-- whether a reply gives an outcome
abbrev pub gives : Reply → Bool
gives (Value v e) = true
gives Over = true
gives (Blocked other) = true
gives _ = false

-- behind a reply: the key is given where the reply gave its outcome
unfoldable pub behind : Stage → Key → Reply → Stage
behind stage key reply = if gives reply then record stage { given = key ∷ stage.given } else stage

-- ---- a session

-- Replies to the lines from a stage on, one to each ask and each `grow` in order: of each ask's reply P holds at its stage, and a
-- `grow` has its own.
unfoldable pub Replied : Tensors → (Stage → Key → Reply → Type 0) → Stage → List Line → List Reply → Type 0
Replied T P stage [] [] = Unit
Replied T P stage [] (reply ∷ replies) = ⊥
Replied T P stage (Finish ∷ lines) replies = Replied T P (finish stage) lines replies
Replied T P stage (Ask key ∷ lines) [] = ⊥
Replied T P stage (Ask key ∷ lines) (reply ∷ replies) = P stage key reply × Replied T P (behind stage key reply) lines replies
Replied T P stage (Grow X ∷ lines) [] = ⊥
Replied T P stage (Grow X ∷ lines) (reply ∷ replies) = (reply ≡ growth (limit T X) X) × Replied T P (grown T X stage) lines replies

-- The replies to the lines of a session with the bound X are admitted.
abbrev pub Admitted : Session → ℕ → List Line → List Reply → Type 0
Admitted s X lines replies = Replied s.tensors (IsAdmitted s) (start X) lines replies
