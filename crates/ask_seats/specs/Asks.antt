-- What an ask answers, and what a session writes.
use Rattle.std.specs.Prelude.{◌≡◌, ◌⊎◌, ℕ, ◌+◌, ◌≤◌, List, ◌∷◌, ◌++◌, length, Option}
use Rattle.std.specs.Io.KnownBytes.{Appends}
use Rattle.airy_io.specs.Causes.{AppendsPrefix, Rose, Taking}
use Rattle.airy_math.specs.Keys.{Key}
use Rattle.amp_plan.specs.Plans.{Planning, tensors_of}
use Rattle.amp_plan.specs.Places.{place_in}
use Rattle.amp_plan.specs.declared.place.Place.{Place}
use Rattle.amp_plan.specs.declared.place.Place.TheVariants as place
use Rattle.amp_terms.specs.declared.Outcome.{Outcome}
use Rattle.cell_words.specs.Looks.{Finds, Misses}
use Rattle.ask_seats.specs.Replies.{Reply, reply_of, lines_text}
use Rattle.ask_seats.specs.Sessions.{Session, Admitted, outcome_reply}
use Rattle.ask_seats.specs.declared.answer.Answer.{Answer}
use Rattle.ask_seats.specs.declared.answer.Answer.TheVariants as answer
use Rattle.ask_seats.specs.declared.session_err.SessionErr.{SessionErr}
use Rattle.ask_seats.specs.declared.session_err.SessionErr.TheVariants as err
use Rattle.command_words.specs.declared.line.Line.{Line}
use Rattle.command_words.specs.declared.line.Line.TheVariants.{Grow}
unfoldable pub use Rattle.ask_seats.specs.Lines.{AreAsks, FinishesOnce, Rises, ends_finished}

-- ---- an ask

-- the reply that an outcome of the key is
abbrev pub reply_at : Planning → Key → Outcome → Reply
reply_at p key o = outcome_reply (tensors_of p) p.tensors.letter p.bound key o

-- An ask for the key of the rank r: one look at it.
pub data Looks (p : Planning) (key : Key) (r : ℕ) (Knew Knows Unfilled : ℕ → Type 0) (latest : Option ℕ) (result : Answer) : Type 0 where
  -- it found the outcome
  finds : (o : Outcome) → Finds p r Knows Unfilled o → reply_of result ≡ reply_at p key o → Looks p key r Knew Knows Unfilled latest result
  -- it found the cell empty
  misses : (w : ℕ) → Misses r Knew Unfilled latest w → result ≡ answer.NotYet w → Looks p key r Knew Knows Unfilled latest result

-- What an ask answers at a place.
abbrev pub AnswersAt : Planning → Key → (ℕ → Type 0) → (ℕ → Type 0) → (ℕ → Type 0) → Option ℕ → Answer → Place → Type 0
AnswersAt p key Knew Knows Unfilled latest result (place.At r) = Looks p key r Knew Knows Unfilled latest result
AnswersAt p key Knew Knows Unfilled latest result place.Zero = result ≡ answer.Zero
AnswersAt p key Knew Knows Unfilled latest result place.Beyond = result ≡ answer.Beyond
AnswersAt p key Knew Knows Unfilled latest result place.BadIndex = result ≡ answer.BadIndex

-- What an ask answers, by the key's place in the plan; of the seat: what it knew and knows, which ranks its latest look shows unfilled,
-- and the word of that look.
abbrev pub IsAnswer : Planning → Key → (ℕ → Type 0) → (ℕ → Type 0) → (ℕ → Type 0) → Option ℕ → Answer → Type 0
IsAnswer p key Knew Knows Unfilled latest result = AnswersAt p key Knew Knows Unfilled latest result (place_in p key)

-- one look more, where the key is planned
abbrev pub looks_at : Place → ℕ → ℕ
looks_at (place.At r) n = n + 1
looks_at place.Zero n = n
looks_at place.Beyond n = n
looks_at place.BadIndex n = n

-- ---- a session

-- the session of a plan with so many workers
abbrev pub session_of : Planning → ℕ → Session
session_of p crew = record { tensors = tensors_of p; letter = p.tensors.letter; crew = crew }

-- The lines of admitted replies were written.
pub record Spoken (s : Session) (X : ℕ) (lines : List Line) (old new : Option (List ℕ)) : Type 0 where
  pub replies : List Reply
  pub admitted : Admitted s X lines replies
  pub written : Appends old new (lines_text replies)

-- A prefix of the lines of admitted replies was.
pub record CutShort (s : Session) (X : ℕ) (lines : List Line) (old new : Option (List ℕ)) : Type 0 where
  pub replies : List Reply
  pub admitted : Admitted s X lines replies
  pub cut : AppendsPrefix old new (lines_text replies)

-- Memory was wanting at a `grow`: the lines of admitted replies to the lines before it were written, n of them, and nothing else.
pub record StopsAtGrow (s : Session) (X : ℕ) (lines : List Line) (old new : Taking) (n : ℕ) : Type 0 where
  pub before : List Line
  pub bound : ℕ
  pub rest : List Line
  pub there : lines ≡ before ++ (Grow bound ∷ rest)
  pub replies : List Reply
  pub admitted : Admitted s X before replies
  pub written : Appends old.taken new.taken (lines_text replies)
  pub steady : new.faults ≡ old.faults
  pub many : n ≡ length replies

-- What a session that ends with an error did: it wrote a prefix of its lines, and the sink's count of faults rose; or memory was wanting,
-- before its first line, when it wrote nothing, or at a `grow`.
abbrev pub Fails : Session → ℕ → List Line → Taking → Taking → SessionErr → Type 0
Fails s X lines old new err.WriteFault = CutShort s X lines old.taken new.taken × Rose old.faults new.faults × (old.faults ≤ new.faults)
Fails s X lines old new (err.NoMemory n) = ((new ≡ old) × (n ≡ 0)) ⊎ StopsAtGrow s X lines old new n
