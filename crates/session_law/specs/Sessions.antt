-- What a session writes, and what it shows of the solutions of the structure's differential constraints.
use Rattle.std.specs.Prelude.{◌≡◌, ℕ, ◌<◌, ◌≤◌, cond, Bool, List}
use Rattle.airy_math.specs.Rational.{ℚ}
use Rattle.airy_math.specs.RationalLaws.{0ℚ}
use Rattle.airy_math.specs.Keys.{Key, IsSortedFrom}
use Rattle.airy_math.specs.Series.{Series}
use Rattle.airy_math.specs.Solutions.{Solves, amplitude}
use Rattle.airy_math.specs.Tensors.{Tensors, SameEntries}
use Rattle.airy_math.specs.Jobs.{Structure, IsSound, planned_tensors, tensors_at}
use Rattle.amp_plan.specs.Limits.{limit}
use Rattle.ask_seats.specs.Replies.{Reply, Value, Over, Blocked, NotYet, Zero, Beyond, BadIndex, GrownTo, ManyCells, ManyNeeds, lines_text}
use Rattle.ask_seats.specs.Sessions.{Session, Replied, Admitted, start}
use Rattle.command_words.specs.declared.line.Line.{Line}
use Rattle.command_words.specs.Bounds.{is_bound, reach}
use Rattle.command_words.specs.Lines.{Rises}
use Rattle.sparse_tensor.specs.Entries.{Entries, looked_up}
use Rattle.run_reports.specs.Report.{Report, bound_refused}
use Rattle.run_reports.specs.Tables.{making_report, plan_report}
use Rattle.run_reports.specs.Headline.{ShowsNumber}
use Rattle.run_reports.specs.Structures.{has_letter}
use Rattle.run_reports.specs.StructureTables.{making_over}

-- the lines of the replies
abbrev pub answered : List Reply → Report
answered replies = record { status = 0; bytes = lines_text replies }

-- the session of a structure with so many workers; its tensors are made for the greatest bound Y of its words
unfoldable pub session_of : Structure → ℕ → ℕ → Session
session_of s Y crew = record { tensors = planned_tensors s Y; letter = has_letter s; crew = crew }

-- The report of a session up to X with these replies, whose words reach the bound Y: the line of the first step that refuses, or the
-- lines of the replies. The bounds come first, tensors are made for the greatest, and the first plan is up to X.
unfoldable pub session_report : Structure → ℕ → ℕ → List Reply → Report
session_report s X Y replies =
    cond (is_bound Y)
    (making_report (making_over s Y) (plan_report X (limit (planned_tensors s Y) X) (answered replies)))
    (bound_refused Y)

-- What a reply at a key shows of the solutions up to X, at every dim m from that of the tensors for Y on, and with every fraction v in
-- the place of the letter: a Value times the letter's power is the key's amplitude in each of them, and at `zero` it is 0 in each that
-- has the key's indices.
unfoldable pub IsShown : Structure → ℕ → ℕ → Key → Reply → Type 0
IsShown s X Y key (Value w e) = ShowsNumber s X Y key w e
IsShown s X Y key Zero =
    (m : ℕ) (v : ℚ) (f : Series) → (planned_tensors s Y).dim ≤ m → Solves (tensors_at s m v) X f
    → IsSortedFrom 0 (tensors_at s m v).dim key.idx → amplitude (tensors_at s m v).dim f key ≡ 0ℚ
IsShown s X Y key Over = Unit
IsShown s X Y key (Blocked other) = Unit
IsShown s X Y key NotYet = Unit
IsShown s X Y key Beyond = Unit
IsShown s X Y key BadIndex = Unit
IsShown s X Y key (GrownTo Z) = Unit
IsShown s X Y key (ManyCells e) = Unit
IsShown s X Y key (ManyNeeds other) = Unit

-- What each reply shows is what every solution has, up to the bound at its line: before and behind each `finish` and each `grow`.
abbrev pub AreShown : Structure → ℕ → ℕ → List Line → List Reply → Type 0
AreShown s X Y lines replies =
    Replied (planned_tensors s Y) (λ stage key reply. IsShown s stage.bound Y key reply) (start X) lines replies

-- Admitted replies show what every solution has.
abbrev pub SessionShownLaw : Type 0
SessionShownLaw =
    (s : Structure) (X Y crew : ℕ) (lines : List Line) (replies : List Reply) → IsSound s → 0 < X → Rises X lines → reach X lines ≤ Y
    → Admitted (session_of s Y crew) X lines replies → AreShown s X Y lines replies

-- Tensors with the same entries at indices below dim admit the same replies.
abbrev pub SameRepliesLaw : Type 0
SameRepliesLaw = (T T' : Tensors) (letter : Bool) (X crew : ℕ) (lines : List Line) (replies : List Reply) → SameEntries T T'
    → Admitted (record { tensors = T; letter = letter; crew = crew }) X lines replies
    → Admitted (record { tensors = T'; letter = letter; crew = crew }) X lines replies

-- what a plan of stored tensors up to X leads to
unfoldable pub stored_session : Entries → ℕ → List Reply → Report
stored_session t X replies = plan_report X (limit (looked_up t) X) (answered replies)
