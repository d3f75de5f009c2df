-- How a session goes on, line by line: what its seat knows, and what was written.
use Rattle.std.specs.Prelude.{◌≡◌, ◌⊎◌, ℕ, suc, ◌<◌, ◌≤◌, Bool, true, false, List, [], ◌∷◌, Option, Some, None}
use Rattle.std.specs.Prelude.{Result, OnOk, OnErr, cond, nat_eq, ◌&&◌, ◌+◌, length, drop, slice_index_or, vec_len}
use Rattle.std.specs.Io.KnownBytes.{Appends}
use Rattle.airy_io.specs.Causes.{AppendsPrefix}
use Rattle.airy_io.specs.declared.Failed.{Failed}
use Rattle.airy_math.specs.Keys.{Key}
use Rattle.airy_math.specs.Levels.{euler_of}
use Rattle.airy_math.specs.Planned.{IsPlanned}
use Rattle.airy_math.specs.Tensors.{Tensors}
use Rattle.airy_math.specs.Terms.{StandsIn}
use Rattle.amp_plan.specs.Limits.{limit}
use Rattle.amp_plan.specs.Plans.{Planning, tensors_of, key_at}
use Rattle.amp_plan.specs.Places.{place_in}
use Rattle.amp_plan.specs.declared.place.Place.TheVariants as place
use Rattle.amp_terms.specs.declared.Outcome.{Outcome}
use Rattle.amp_terms.specs.Tables.{full_table}
use Rattle.cell_words.specs.Closings.{AreReceipts, receipts_in}
use Rattle.cell_words.specs.Layout.{cells, IsPartial}
use Rattle.cell_words.specs.declared.closed.Closed.{Closed}
use Rattle.cell_words.specs.Looks.{Reaches}
use Rattle.cell_words.specs.Resuming.{carries, CanResume}
use Rattle.ask_seats.specs.Replies.{Reply, NotYet, GrownTo, ManyCells, ManyNeeds, line_text, lines_text}
use Rattle.ask_seats.specs.Sessions.{Session, Stage, Replied, IsAdmitted, IsOrRestsOn, start, finish, grown, behind, told, is_open}
use Rattle.ask_seats.specs.Asks.{session_of, AreAsks, FinishesOnce, Rises, ends_finished}
use Rattle.ask_seats.specs.declared.growth.Growth.{Growth}
use Rattle.ask_seats.specs.declared.growth.Growth.TheVariants as growth
use Rattle.command_words.specs.declared.line.Line.{Line}
use Rattle.command_words.specs.declared.line.Line.TheVariants.{Ask, Finish, Grow}

-- ---- lines

-- one part of a session: no `grow` stands among its lines, and `finish` at most once
unfoldable pub IsPart : List Line → Type 0
IsPart [] = Unit
IsPart (Ask key ∷ lines) = IsPart lines
IsPart (Finish ∷ lines) = AreAsks lines
IsPart (Grow X ∷ lines) = ⊥

-- how many replies these lines have
unfoldable pub replies_due : List Line → ℕ
replies_due [] = 0
replies_due (Ask key ∷ lines) = suc (replies_due lines)
replies_due (Finish ∷ lines) = replies_due lines
replies_due (Grow X ∷ lines) = suc (replies_due lines)

-- the reply that a growth is
unfoldable pub growth_reply : Growth → Reply
growth_reply (growth.To X) = GrownTo X
growth_reply (growth.Cells e) = ManyCells e
growth_reply (growth.Needs key) = ManyNeeds key

-- ---- one reply

-- what there is to tell of a key
abbrev pub told_of : Planning → Key → Reply
told_of p key = told (tensors_of p) p.tensors.letter p.bound key

-- the key's rank is r
abbrev pub IsAt : Planning → Key → ℕ → Type 0
IsAt p key r = place_in p key ≡ place.At r

-- without workers a key of this Euler number waits, where no `finish` settled it
abbrev pub holds_back : ℕ → Option ℕ → ℕ → Bool
holds_back crew finished e = nat_eq crew 0 && is_open finished e

-- the seat knows the key's rank, where it has one, with all that it rests on
abbrev pub KnowsAll : Planning → Key → (ℕ → Type 0) → Type 0
KnowsAll p key Knows = (r q : ℕ) → IsAt p key r → q < cells p → Reaches p r q → Knows q

-- What a reply says to a session with so many workers, and with the bound at its last `finish`.
pub data Hears (p : Planning) (crew : ℕ) (finished : Option ℕ) (key : Key) (Knew Knows : ℕ → Type 0) (reply : Reply) : Type 0 where
  -- what there is to tell of the key, which the seat then knows with all that it rests on
  tells : reply ≡ told_of p key → KnowsAll p key Knows → (holds_back crew finished (euler_of key) ≡ true → (r : ℕ) → IsAt p key r → ⊥)
      → Hears p crew finished key Knew Knows reply
  -- `not yet`, of a planned key that the seat had not known
  misses : reply ≡ NotYet → (r : ℕ) → IsAt p key r → (Knew r → ⊥) → Hears p crew finished key Knew Knows reply
  -- `not yet`, of a planned key that waits without workers
  waits : reply ≡ NotYet → (r : ℕ) → IsAt p key r → holds_back crew finished (euler_of key) ≡ true
      → Hears p crew finished key Knew Knows reply

-- What an ask told was written, or a prefix of its line was.
pub record IsSaid (p : Planning) (crew : ℕ) (finished : Option ℕ) (key : Key) (Knew Knows : ℕ → Type 0)
    (old new : Option (List ℕ)) (result : Result (Unit {0}) Failed) : Type 0 where
  pub reply : Reply
  pub hears : Hears p crew finished key Knew Knows reply
  pub written : OnOk result (Appends old new (line_text reply))
  pub cut : OnErr result (AppendsPrefix old new (line_text reply))

-- ---- many replies

-- the stage behind lines with these replies
unfoldable pub stage_after : Tensors → Stage → List Line → List Reply → Stage
stage_after T stage [] replies = stage
stage_after T stage (Finish ∷ lines) replies = stage_after T (finish stage) lines replies
stage_after T stage (Ask key ∷ lines) [] = stage
stage_after T stage (Ask key ∷ lines) (reply ∷ replies) = stage_after T (behind stage key reply) lines replies
stage_after T stage (Grow X ∷ lines) [] = stage
stage_after T stage (Grow X ∷ lines) (reply ∷ replies) = stage_after T (grown T X stage) lines replies

-- A stage that a session comes to: what was given has an Euler number up to the bound, so has the bound at the last `finish`; and without
-- workers just settled keys were given.
pub record IsGood (s : Session) (stage : Stage) : Type 0 where
  pub low : (other : Key) → StandsIn other stage.given → euler_of other ≤ stage.bound
  pub finished : (X : ℕ) → stage.finished ≡ Some X → X ≤ stage.bound
  pub quiet : s.crew ≡ 0 → (other : Key) → StandsIn other stage.given → is_open stage.finished (euler_of other) ≡ false

-- A seat at a stage of a session of the plan: it knows what was given, with all that rests on it, and what is settled.
pub record Stands (p : Planning) (crew : ℕ) (Knows : ℕ → Type 0) (stage : Stage) : Type 0 where
  pub bound : stage.bound ≡ p.bound
  pub planned : (other : Key) → StandsIn other stage.given → IsPlanned (tensors_of p) p.bound other
  pub given : (other : Key) (r : ℕ) → StandsIn other stage.given → r < cells p → IsOrRestsOn (tensors_of p) other (key_at p r) → Knows r
  pub settled : (X r : ℕ) → stage.finished ≡ Some X → r < cells p → euler_of (key_at p r) ≤ X → Knows r
  pub good : IsGood (session_of p crew) stage

-- A seat that stood at a stage: the lines of replies to these lines, admitted from the stage on, were written, and it stands at the stage
-- behind them, with this bound at the last `finish`.
pub record Wrote (p : Planning) (crew : ℕ) (finished : Option ℕ) (Knows : ℕ → Type 0) (stage : Stage)
    (lines : List Line) (old new : Option (List ℕ)) : Type 0 where
  pub replies : List Reply
  pub admitted : Replied (tensors_of p) (IsAdmitted (session_of p crew)) stage lines replies
  pub appended : Appends old new (lines_text replies)
  pub stands : Stands p crew Knows (stage_after (tensors_of p) stage lines replies)
  pub finish : (stage_after (tensors_of p) stage lines replies).finished ≡ finished

-- a prefix of such lines was written
pub record Broke (p : Planning) (crew : ℕ) (stage : Stage) (lines : List Line) (old new : Option (List ℕ)) : Type 0 where
  pub replies : List Reply
  pub admitted : Replied (tensors_of p) (IsAdmitted (session_of p crew)) stage lines replies
  pub cut : AppendsPrefix old new (lines_text replies)

-- a seat that stood at a stage with one bound at the last `finish` wrote the lines' replies, and stands behind them with another
abbrev pub Writes : Planning → ℕ → Option ℕ → Option ℕ → (ℕ → Type 0) → (ℕ → Type 0) → List Line → Option (List ℕ)
    → Option (List ℕ) → Type 0
Writes p crew finished after Knew Knows lines old new =
    (stage : Stage) → Stands p crew Knew stage → stage.finished ≡ finished → Wrote p crew after Knows stage lines old new

-- or a prefix of them
abbrev pub Breaks : Planning → ℕ → Option ℕ → (ℕ → Type 0) → List Line → Option (List ℕ) → Option (List ℕ) → Type 0
Breaks p crew finished Knew lines old new =
    (stage : Stage) → Stands p crew Knew stage → stage.finished ≡ finished → Broke p crew stage lines old new

-- a reply's line was written, and then those of the replies to these lines
abbrev pub Speaks : Planning → ℕ → Option ℕ → Option ℕ → (ℕ → Type 0) → (ℕ → Type 0) → Reply → List Line → Option (List ℕ) → Option (List ℕ)
    → Type 0
Speaks p crew finished after Knew Knows reply lines old new =
    (mid : Option (List ℕ)) × Appends old mid (line_text reply) × Writes p crew finished after Knew Knows lines mid new

-- or a prefix of them
abbrev pub FallsSilent : Planning → ℕ → Option ℕ → (ℕ → Type 0) → Reply → List Line → Option (List ℕ) → Option (List ℕ) → Type 0
FallsSilent p crew finished Knew reply lines old new =
    AppendsPrefix old new (line_text reply)
    ⊎ ((mid : Option (List ℕ)) × Appends old mid (line_text reply) × Breaks p crew finished Knew lines mid new)

-- ---- between two parts

-- what a table carries
abbrev pub Carried : List (Option Outcome) → ℕ → Type 0
Carried t r = carries t r ≡ true

-- The board of p was closed behind the first lines of a session that began with the plan q.
pub record Paused (q p : Planning) (crew : ℕ) (finished : Option ℕ) (table : List (Option Outcome)) (done : List Line)
    (old new : Option (List ℕ)) : Type 0 where
  pub tensors : p.tensors ≡ q.tensors
  pub wrote : Wrote p crew finished (Carried table) (start q.bound) done old new

-- What is left of a board behind these lines.
pub record IsLeft (c : Closed) (crew : ℕ) (done : List Line) : Type 0 where
  pub partial : IsPartial c.plan c.table
  pub resumes : CanResume c.plan c.table
  pub full : ends_finished false done ≡ true → c.table ≡ full_table (tensors_of c.plan) c.plan.bound
  pub many : vec_len c.receipts ≡ crew + 1
  pub receipts : AreReceipts c.table (receipts_in c)

-- The lines from a place on begin with a `grow`, where there are any; the bounds of all of these rise from above X, and each part has at
-- most one `finish`.
pub record GoesOn (X : ℕ) (lines : List Line) (at : ℕ) : Type 0 where
  pub within : at ≤ length lines
  pub there : at < length lines → (d : Line) → (Y : ℕ) × (slice_index_or lines at d ≡ Grow Y)
  pub rises : Rises X (drop at lines)
  pub once : (b : Bool) × FinishesOnce b (drop at lines)

-- every rank of a plan
abbrev pub AnyOf : Planning → ℕ → Type 0
AnyOf p r = r < cells p

-- the plan up to another bound
abbrev pub up_to : ℕ → Planning → Planning
up_to X p = record { tensors = p.tensors; bound = X }
