-- What a run of callers who wait writes, and what it shows of the solutions of the structure's differential constraints.
use Rattle.std.specs.Prelude.{◌≡◌, ◌⊎◌, ◌↔◌, ℕ, IsTrue, List, map}
use Rattle.airy_math.specs.Jobs.{Structure, planned_tensors}
use Rattle.airy_math.specs.Keys.{Key}
use Rattle.airy_math.specs.declared.Family.{Family}
use Rattle.ask_seats.specs.Replies.{Reply}
use Rattle.ask_seats.specs.Sessions.{Admitted, told}
use Rattle.command_words.specs.Bounds.{is_bound}
use Rattle.sparse_tensor.specs.Entries.{Entries, looked_up}
use Rattle.run_reports.specs.Report.{Report, out_of_memory}
use Rattle.run_reports.specs.Relations.{of_relations}
use Rattle.session_law.specs.Sessions.{answered, session_of, session_report, stored_session, AreShown}
use Rattle.run_reports.specs.StructureTables.{structure_of}
use Rattle.run_reports.specs.Structures.{has_letter, text_structure, AreClosed, IsOwn}
use Rattle.airy_wait.specs.Finished.{finished_asks}

-- ---- the replies

-- what there is to tell of the keys in the table of a structure up to X
abbrev pub replies_of : Structure → ℕ → List Key → List Reply
replies_of s X keys = map (told (planned_tensors s X) (has_letter s) X) keys

-- ---- what is written

-- The line of the first step that refuses, or the lines of the replies: of a structure, and of a text's entries, whose relations
-- come first.
unfoldable pub waiting_report : Structure → ℕ → List Key → Report
waiting_report s X keys = session_report s X X (replies_of s X keys)

unfoldable pub closed_waiting : ℕ → List Key → Entries → Report
closed_waiting X keys t = of_relations t (waiting_report (text_structure t) X keys)

-- What asks at a structure lead to: that report, or, at a bound within its limits, want of memory. The replies that are printed are those
-- of every session that finishes first, with so many workers as one likes; and they have the headline: each number is that of every
-- solution.
pub record LeadsToWaiting (s : Structure) (X : ℕ) (keys : List Key) (whole report : Report) : Type 0 where
  pub said : (report ≡ whole) ⊎ (IsTrue (is_bound X) × (report ≡ out_of_memory))
  pub one : (crew : ℕ) (replies : List Reply)
      → Admitted (session_of s X crew) X (finished_asks keys) replies ↔ (replies ≡ replies_of s X keys)
  pub headline : report.status ≡ 0 → AreShown s X X (finished_asks keys) (replies_of s X keys)

-- That of a named structure.
abbrev pub LeadsToFamilyWaiting : Family → ℕ → List Key → Report → Type 0
LeadsToFamilyWaiting family X keys report = LeadsToWaiting (structure_of family) X keys (waiting_report (structure_of family) X keys) report

-- What asks at a text's entries lead to. Replies are printed only where the relations hold.
pub record LeadsToClosedWaiting (X : ℕ) (keys : List Key) (t : Entries) (report : Report) : Type 0 where
  pub waiting : LeadsToWaiting (text_structure t) X keys (closed_waiting X keys t) report
  pub own : IsOwn X t
  pub accepted : report.status ≡ 0 → AreClosed t

-- ---- what the code's parts write

-- at stored tensors
unfoldable pub stored_waiting : Entries → ℕ → List Key → Report
stored_waiting t X keys = stored_session t X (map (told (looked_up t) t.letter X) keys)
