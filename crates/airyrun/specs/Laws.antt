-- What the answers of a run come to: the exact cause of each status, and completeness.
use Rattle.std.specs.Prelude.{◌≡◌, ◌⊎◌, ℕ, cond, IsTrue, List}
use Rattle.sparse_tensor.specs.Entries.{Entries}
use Rattle.tensor_text.specs.Grammar.{Read}
use Rattle.tensor_text.specs.Grammar as grammar
use Rattle.ask_seats.specs.Replies.{Reply}
use Rattle.ask_seats.specs.Sessions.{Admitted}
use Rattle.command_words.specs.Words.{Reading, Named, Text, Table, Session, Probe, Relations, Number, Volume, Bulk, Refused}
use Rattle.command_words.specs.Bounds.{reach}
use Rattle.command_words.specs.Options.{reading_of}
use Rattle.run_reports.specs.Report.{Report, word_refused, bound_refused, out_of_memory}
use Rattle.run_reports.specs.Leads.{of_text}
use Rattle.run_reports.specs.Runs.{Gives, Run}
use Rattle.run_reports.specs.Relations.{of_relations, text_relations}
use Rattle.airyrun.specs.Relations.{family_relations}
use Rattle.run_reports.specs.StructureTables.{is_bound, structure_of, table_report}
use Rattle.run_reports.specs.Structures.{text_structure}
use Rattle.session_law.specs.Sessions.{session_of, session_report}
use Rattle.airyrun.specs.Numbers.{euler_of, number_report, takes_volume, volume_report}
use Rattle.airyrun.specs.Bulks.{bulk_report}
use Rattle.airyrun.specs.Run.{Leads}
use Rattle.run_reports.specs.Promises.{HasCausesBy, IsCompleteBy}

-- ---- what is meant

-- what the entries of a text lead to: with their relations checked first, and without them
unfoldable pub closed_table : ℕ → Entries → Report
closed_table X t = of_relations t (table_report (text_structure t) X)

unfoldable pub probed_table : ℕ → Entries → Report
probed_table X t = table_report (text_structure t) X

unfoldable pub closed_session : ℕ → ℕ → List Reply → Entries → Report
closed_session X Y replies t = of_relations t (session_report (text_structure t) X Y replies)

-- What the words and the text of the source lead to, where neither end fails and memory isn't wanting: the line of the first step that
-- refuses, or the whole output. Of a session it is what these replies lead to; no other job has replies.
unfoldable pub meant : Reading → List ℕ → List Reply → Report
meant (Refused place) text replies = word_refused place
meant (Table (Named family) X workers) text replies = table_report (structure_of family) X
meant (Table Text X workers) text replies = cond (is_bound X) (of_text (closed_table X) text) (bound_refused X)
meant (Session (Named family) X workers lines) text replies = session_report (structure_of family) X (reach X lines) replies
meant (Session Text X workers lines) text replies =
    cond (is_bound (reach X lines)) (of_text (closed_session X (reach X lines) replies) text) (bound_refused (reach X lines))
meant (Probe X workers) text replies = cond (is_bound X) (of_text (probed_table X) text) (bound_refused X)
meant (Relations N (Named family)) text replies = family_relations family N
meant (Relations N Text) text replies = of_text (text_relations N) text
meant (Number family key) text replies = number_report (structure_of family) key
meant (Volume g n) text replies = volume_report g n
meant (Bulk seed dim X workers) text replies = bulk_report seed dim X

-- the replies that a session may give; a job that is none may have any, and its report does not look at them
unfoldable pub MayReply : Reading → List ℕ → List Reply → Type 0
MayReply (Session (Named family) X workers lines) text replies =
    Admitted (session_of (structure_of family) (reach X lines) workers) X lines replies
MayReply (Session Text X workers lines) text replies =
    (t : Entries) → grammar.reading_of text ≡ Read t → Admitted (session_of (text_structure t) (reach X lines) workers) X lines replies
MayReply (Refused place) text replies = Unit
MayReply (Table kind X workers) text replies = Unit
MayReply (Probe X workers) text replies = Unit
MayReply (Relations N kind) text replies = Unit
MayReply (Number family key) text replies = Unit
MayReply (Volume g n) text replies = Unit
MayReply (Bulk seed dim X workers) text replies = Unit

-- A report that the words and the text may lead to. Two of them differ in the replies of a session alone, and in no status.
pub record IsMeant (reading : Reading) (text : List ℕ) (report : Report) : Type 0 where
  pub replies : List Reply
  pub said : report ≡ meant reading text replies
  pub admitted : report.status ≡ 0 → MayReply reading text replies

-- the status does not depend on the replies
abbrev pub OneStatusLaw : Type 0
OneStatusLaw = (reading : Reading) (text : List ℕ) (a b : Report) → IsMeant reading text a → IsMeant reading text b → a.status ≡ b.status

-- and neither do the bytes of a job that is no session
abbrev pub IsSession : Reading → Type 0
IsSession (Session kind X workers lines) = Unit {0}
IsSession (Refused place) = ⊥
IsSession (Table kind X workers) = ⊥
IsSession (Probe X workers) = ⊥
IsSession (Relations N kind) = ⊥
IsSession (Number family key) = ⊥
IsSession (Volume g n) = ⊥
IsSession (Bulk seed dim X workers) = ⊥

abbrev pub OneReportLaw : Type 0
OneReportLaw =
    (reading : Reading) (text : List ℕ) (a b : Report) → (IsSession reading → ⊥) → IsMeant reading text a → IsMeant reading text b → a ≡ b

-- ---- the causes

-- what is meant by the words of a run with a text; of a session, with replies that it may give
abbrev pub Means : Run → List ℕ → Report → Type 0
Means run = IsMeant (reading_of run.words)

-- a job that takes memory: none does where a word, the bound, or the number of terms is refused
abbrev pub TakesMemory : Reading → Type 0
TakesMemory (Refused place) = ⊥
TakesMemory (Table kind X workers) = IsTrue (is_bound X)
TakesMemory (Session kind X workers lines) = IsTrue (is_bound (reach X lines))
TakesMemory (Probe X workers) = IsTrue (is_bound X)
TakesMemory (Relations N kind) = Unit {0}
TakesMemory (Number family key) = IsTrue (is_bound (euler_of key))
TakesMemory (Volume g n) = IsTrue (takes_volume g n)
TakesMemory (Bulk seed dim X workers) = IsTrue (is_bound X)

-- Each status of a run has its cause.
abbrev pub HasCauses : Run → Type 0
HasCauses run = HasCausesBy (Means run) (TakesMemory (reading_of run.words)) (λ place. reading_of run.words ≡ Refused place) run

-- A report of want of memory: its own line; or, of a session, a report that it leads to with status 10, by the lines before a `grow`.
abbrev pub IsWanting : Reading → Run → Report → Type 0
IsWanting reading run report = (report ≡ out_of_memory) ⊎ (IsSession reading × Leads reading run report × (report.status ≡ 10))

-- memory is wanting, where it is taken
abbrev pub LacksMemory : Run → Type 0
LacksMemory run = TakesMemory (reading_of run.words) × ((report : Report) × IsWanting (reading_of run.words) run report × Gives run report)

-- Completeness: where neither end fails, the run gives what is meant, or, behind the words and the bound, memory is wanting.
abbrev pub IsComplete : Run → Type 0
IsComplete run = IsCompleteBy (Means run) (LacksMemory run) run
