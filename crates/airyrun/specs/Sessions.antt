-- What a session writes, and what it shows of the solutions of the structure's differential constraints.
use Rattle.std.specs.Prelude.{◌≡◌, ◌⊎◌, ℕ, ◌<◌, ◌≤◌, IsTrue, cond, Bool, List, [], ◌∷◌, ◌++◌}
use Rattle.airy_math.specs.Rational.{ℚ}
use Rattle.airy_math.specs.RationalLaws.{0ℚ}
use Rattle.airy_math.specs.Keys.{Key, IsSortedFrom}
use Rattle.airy_math.specs.Series.{Series}
use Rattle.airy_math.specs.Solutions.{Solves, amplitude}
use Rattle.airy_math.specs.Tensors.{Tensors, SameEntries}
use Rattle.airy_math.specs.Jobs.{Structure, IsSound, planned_tensors, tensors_at}
use Rattle.airy_math.specs.declared.Family.{Family}
use Rattle.amp_plan.specs.Limits.{limit}
use Rattle.amp_plan.specs.Plans.{Planning, tensors_of}
use Rattle.ask_seats.specs.Replies.{Reply, Value, Over, Blocked, NotYet, Zero, Beyond, BadIndex, GrownTo, ManyCells, ManyNeeds, lines_text}
use Rattle.ask_seats.specs.Sessions.{Session, Replied, Admitted, start}
use Rattle.command_words.specs.declared.line.Line.{Line}
use Rattle.command_words.specs.declared.line.Line.TheVariants.{Grow}
use Rattle.command_words.specs.Bounds.{reach}
use Rattle.command_words.specs.Lines.{Rises}
use Rattle.sparse_tensor.specs.Entries.{Entries, looked_up}
use Rattle.airy_io.specs.Causes.{Taking}
use Rattle.run_reports.specs.Report.{Report, Ends, bound_refused, out_of_memory}
use Rattle.run_reports.specs.Tables.{making_report, plan_report}
use Rattle.run_reports.specs.Headline.{ShowsNumber}
use Rattle.run_reports.specs.StructureTables.{is_bound, structure_of, making_over}
use Rattle.run_reports.specs.Structures.{has_letter}
use Rattle.session_law.specs.Sessions.{session_of, session_report, AreShown}

-- want of memory behind these replies: a line of its own where none was written, else no further one
unfoldable pub wanting_behind : List Reply → Report
wanting_behind [] = out_of_memory
wanting_behind (reply ∷ replies) = record { status = 10; bytes = lines_text (reply ∷ replies) }

-- the session of stored tensors, and that of a plan's
abbrev pub stored_as : Entries → ℕ → Session
stored_as t crew = record { tensors = looked_up t; letter = t.letter; crew = crew }

abbrev pub planned_as : Planning → ℕ → Session
planned_as p crew = record { tensors = tensors_of p; letter = p.tensors.letter; crew = crew }

-- Memory is wanting in a session: before its first line, or at a `grow`, where the replies to the lines before it were written, which are
-- admitted.
pub data Wants (s : Session) (X : ℕ) (lines : List Line) (report : Report) : Type 0 where
  at_first : report ≡ out_of_memory → Wants s X lines report
  at_grow : (before : List Line) (Z : ℕ) (rest : List Line) → lines ≡ before ++ (Grow Z ∷ rest)
      → (replies : List Reply) → Admitted s X before replies → report ≡ wanting_behind replies → Wants s X lines report

-- What the session of a structure leads to: the report of replies, or, at bounds within their limits, want of memory. Replies that are
-- printed are admitted, and have the headline: each number is that of every solution.
pub record LeadsToSession (s : Structure) (X crew : ℕ) (lines : List Line) (whole : List Reply → Report) (report : Report) : Type 0 where
  pub replies : List Reply
  pub said : (report ≡ whole replies) ⊎ (IsTrue (is_bound (reach X lines)) × Wants (session_of s (reach X lines) crew) X lines report)
  pub admitted : report.status ≡ 0 → Admitted (session_of s (reach X lines) crew) X lines replies
  pub headline : report.status ≡ 0 → AreShown s X (reach X lines) lines replies

-- That of a named structure.
abbrev pub LeadsToFamilySession : Family → ℕ → ℕ → List Line → Report → Type 0
LeadsToFamilySession family X crew lines report =
    LeadsToSession (structure_of family) X crew lines (session_report (structure_of family) X (reach X lines)) report

-- ---- what the code's parts write

-- A run of a session: it ends with the report of replies, which are admitted where they are printed, or memory is wanting.
pub record EndsReplies (s : Session) (X : ℕ) (lines : List Line) (whole : List Reply → Report) (before now : Taking) (result : ℕ)
    : Type 0 where
  pub replies : List Reply
  pub report : Report
  pub said : (report ≡ whole replies) ⊎ Wants s X lines report
  pub admitted : report.status ≡ 0 → Admitted s X lines replies
  pub ends : Ends report before now result
