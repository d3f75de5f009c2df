-- The status of what is meant, and how the reports that the words lead to stand to it.
use Rattle.std.proofs.Common.{◌≡◌, ℕ, List, IsTrue, refl}
use Rattle.run_reports.proofs.Names.{Structure, Key, Entries, is_bound, Run, text_structure, structure_of}
use Rattle.command_words.specs.Words.{Named, Text}
use Rattle.session_law.proofs.SessionLemmas.{plain_session}
use Rattle.run_reports.proofs.StatusLemmas.{plain_of}
use Rattle.run_reports.proofs.JobLemmas.{Said, JudgedOne, judged_bound, judged_said, judged_word}
use Rattle.airy_wait.specs.Words.{Reading, Waiting, Refused}
use Rattle.airy_wait.specs.Waiting.{replies_of, waiting_report, closed_waiting, LeadsToClosedWaiting, LeadsToWaiting}
use Rattle.airy_wait.specs.Run.{Leads}
use Rattle.airy_wait.specs.Laws.{meant, TakesMemory}

pub waiting_said : (s : Structure) (X : ℕ) (keys : List Key) → Said (LeadsToWaiting s X keys (waiting_report s X keys)) (waiting_report s X keys) (IsTrue (is_bound X))
unfolding waiting_report
waiting_said s X keys = record { plain = plain_session s X X (replies_of s X keys); said = λ r leads. leads.said }

pub closed_said : (X : ℕ) (keys : List Key) (t : Entries) → Said (LeadsToClosedWaiting X keys t) (closed_waiting X keys t) (IsTrue (is_bound X))
unfolding closed_waiting
closed_said X keys t = record { plain = plain_of t _ (waiting_said (text_structure t) X keys).plain; said = λ r leads. leads.waiting.said }

pub judged_wait : (run : Run) (r : Reading) → JudgedOne run (λ place. r ≡ Refused place) (Leads r run) (meant r) (TakesMemory r)
unfolding meant
judged_wait run (Waiting (Named family) X workers callers keys) = judged_said run _ (waiting_said (structure_of family) X keys)
judged_wait run (Waiting Text X workers callers keys) = judged_bound run _ (LeadsToClosedWaiting X keys) (closed_waiting X keys) X (closed_said X keys)
judged_wait run (Refused place) = judged_word run _ place refl
