-- The status of a run and its cause, both ways.
use Rattle.std.proofs.Common.{◌≢◌, ◌≡◌, ◌⊎◌, inl, inr, ℕ, ◌≤◌, [], arith, refl, sym, ap, ◌∙◌, subst, length, Option, Some, None, Bool, true, false, cond, List, nat_le}
use Rattle.run_reports.proofs.Names.{Structure, planned_tensors, Limit, Within, PassesBound, PassesCells, PassesNeeds, limit, Entries, looked_up, TextReading, Read, Line, Verdict, Closed, Differs, Over, verdict, relations_report, of_relations, text_relations, Report, bound_refused, out_of_memory, making_report, plan_report, is_bound, structure_of, making_over, table_report, text_structure, reach, text_too_long, line_refused, Gives, Run, refused, of_reading, of_text}
use Rattle.tensor_text.specs.Grammar as grammar
use Rattle.ask_seats.specs.Replies.{Reply, lines_text}
use Rattle.ask_seats.specs.Sessions.{Admitted}
use Rattle.command_words.specs.Words.{Kind, Reading, Named, Text, Table, Session, Probe, Relations, Number, Volume, Bulk, Refused}
use Rattle.command_words.specs.Options.{reading_of}
use Rattle.session_law.specs.Sessions.{session_of, session_report}
use Rattle.airyrun.specs.Sessions.{LeadsToSession}
use Rattle.airyrun.specs.Run.{Answers, Leads, LeadsToTable, LeadsToClosedTable, LeadsToClosedSession, LeadsToProbe, LeadsToTextRelations}
use Rattle.airyrun.specs.Laws.{IsMeant, closed_table, closed_session, probed_table, meant, MayReply, OneStatusLaw, OneReportLaw, IsSession, IsWanting, TakesMemory, HasCauses, IsComplete}
use Rattle.airyrun.proofs.RunLemmas.{bulk_said, closed_said, closed_session_plain, family_relations_said, family_said, number_said, other_closed_session, other_family_session, probe_said, text_relations_said, volume_said}
use Rattle.run_reports.proofs.StatusLemmas.{plain_table, status_of, plain_of, plain_text, plain_bound}
use Rattle.session_law.proofs.SessionLemmas.{plain_session}
use Rattle.airyrun.proofs.StatusLemmas.{wants_status, plain_checked, plain_family, plain_number, plain_volume, plain_bulk}
use Rattle.run_reports.proofs.SourceLemmas.{other_text, other_bound, of_short, of_long}
use Rattle.run_reports.proofs.JobLemmas.{JudgedOne, judged_bound, judged_said, judged_text, judged_word}
use Rattle.run_reports.proofs.CauseLemmas.{IsAmple, Judged, OfText, Stands, is_meant, at_fault, is_wanting, bound_stands, plain_range, stands_said}

-- ---- how the reports stand to what is meant

-- a report of want of memory
abbrev Lacks : Reading → Report → Type 0
Lacks reading report = (report ≡ out_of_memory) ⊎ (IsSession reading × (report.status ≡ 10))

abbrev Wanting : Reading → Report → Type 0
Wanting r report = TakesMemory r × Lacks r report

lacks_status : (reading : Reading) (report : Report) → Lacks reading report → report.status ≡ 10
lacks_status reading report (inl e) = status_of e
lacks_status reading report (inr h) = h.1

abbrev JudgedRun : Run → Reading → Type 0
JudgedRun run r = Judged run (Leads r run) (IsMeant r) (Wanting r) (TakesMemory r) (λ place. r ≡ Refused place)

-- what is meant of a job that is no session, or of a text that is refused
plainly : {r : Reading} {text : List ℕ} {report : Report} → report ≡ meant r text [] → (report.status ≡ 0 → MayReply r text []) → IsMeant r text report
plainly e may = record { replies = []; said = e; admitted = may }

-- of a job whose report does not look at replies
of_one : (run : Run) (r : Reading) → ((text : List ℕ) (replies : List Reply) → meant r text replies ≡ meant r text []) → ((text : List ℕ) → MayReply r text [])
    → JudgedOne run (λ place. r ≡ Refused place) (Leads r run) (λ text. meant r text []) (TakesMemory r) → JudgedRun run r
of_one run r alone may one = record {
  stands = λ report leads. by report (one.stands report leads);
  ample = λ text report m. one.ample text report (m.said ∙ alone text m.replies);
  ten = λ report w. lacks_status r report w.1;
  taking = λ report w. w.0;
  word = one.word;
}
  where
    by : (report : Report) → Stands run (λ text report. report ≡ meant r text []) (λ report. TakesMemory r × (report ≡ out_of_memory)) report → Stands run (IsMeant r) (Wanting r) report
    by report (is_meant text told m) = is_meant text told (plainly m (λ e. may text))
    by report (at_fault e rose) = at_fault e rose
    by report (is_wanting w) = is_wanting (w.0, inl w.1)

-- and of a session
of_session : (run : Run) (kind : Kind) (X workers : ℕ) (lines : List Line) → let r = Session kind X workers lines in
    ((report : Report) → Leads r run report → Stands run (IsMeant r) (Wanting r) report) → ((text : List ℕ) (replies : List Reply) → IsAmple (meant r text replies).status)
    → ((report : Report) → Leads r run report → report.status ≢ 2) → JudgedRun run r
of_session run kind X workers lines stands ample word = record {
  stands = stands;
  ample = λ text report m. subst IsAmple (sym (status_of m.said)) (ample text m.replies);
  ten = λ report w. lacks_status (Session kind X workers lines) report w.1;
  taking = λ report w. w.0;
  word = λ report leads h. absurd (word report leads h);
}

-- the entries of a text are told by its reading
same_entries : (text : List ℕ) (t t' : Entries) → grammar.reading_of text ≡ Read t → grammar.reading_of text ≡ Read t' → t ≡ t'
same_entries text t t' e e' = cc

module _ (X workers : ℕ) (lines : List Line) (fits : is_bound (reach X lines) ≡ true) where
  abbrev r : Reading
  r = Session Text X workers lines

  abbrev next : List Reply → Entries → Report
  next = closed_session X (reach X lines)

  is : (text : List ℕ) (replies : List Reply) → of_text (next replies) text ≡ meant r text replies
  unfolding meant
  is text replies = rw fits refl

  of_entries : OfText (IsMeant r) (Wanting r) (LeadsToClosedSession X workers lines)
  unfolding of_reading text_too_long line_refused MayReply closed_session
  of_entries = record {
    too_long = λ text h. plainly (sym (of_long (next []) text h) ∙ is text []) (λ z. absurd (omega (arith, z)));
    no_text = λ text n kind short given. plainly (sym (of_short (next []) text short ∙ ap (of_reading (next [])) given) ∙ is text []) (λ z. absurd (omega (arith, z)));
    entries = λ text t report short given leads. elim leads.session.said [
      | inl e ↦ inl (record {
        replies = leads.session.replies;
        said = e ∙ sym (of_short (next leads.session.replies) text short ∙ ap (of_reading (next leads.session.replies)) given) ∙ is text leads.session.replies;
        admitted = λ z t' e'. subst (λ u. Admitted (session_of (text_structure u) (reach X lines) workers) X lines leads.session.replies) (same_entries text t t' given e') (leads.session.admitted z);
      })
      | inr e ↦ inr (fits, inr (tt, wants_status _ X lines report e.1))
    ];
    memory = (fits, inl refl);
  }

pub judged : (run : Run) (r : Reading) → JudgedRun run r
unfolding meant MayReply
judged run (Refused place) = of_one run (Refused place) (λ text replies. refl) (λ text. tt) (judged_word run _ place refl)
judged run (Table (Named family) X workers) = of_one run (Table (Named family) X workers) (λ text replies. refl) (λ text. tt) (judged_said run _ (family_said family X))
judged run (Table Text X workers) = of_one run (Table Text X workers) (λ text replies. refl) (λ text. tt) (judged_bound run _ (LeadsToClosedTable X) (closed_table X) X (closed_said X))
judged run (Session (Named family) X workers lines) =
    of_session run (Named family) X workers lines
    (λ report leads. stands_said run (λ e text. record { replies = leads.replies; said = e; admitted = leads.admitted }) (λ w. (w.0, inr (tt, wants_status _ X lines report w.1))) leads.said)
    (λ text replies. plain_range (plain_session (structure_of family) X (reach X lines) replies)) (λ report leads. (other_family_session family X workers lines report leads).0)
judged run (Session Text X workers lines) =
    of_session run Text X workers lines
    (bound_stands run (reach X lines) (λ outside text. plainly (rw outside refl) (λ z. absurd (omega (arith, z)))) (of_entries X workers lines))
    (λ text replies. plain_range (plain_bound (reach X lines) _ (plain_text (closed_session X (reach X lines) replies) (closed_session_plain X (reach X lines) replies) text)))
    (λ report leads. other_bound (reach X lines) _ _ _ report (other_closed_session X workers lines) leads)
judged run (Probe X workers) = of_one run (Probe X workers) (λ text replies. refl) (λ text. tt) (judged_bound run _ (LeadsToProbe X) (probed_table X) X (probe_said X))
judged run (Relations N (Named family)) = of_one run (Relations N (Named family)) (λ text replies. refl) (λ text. tt) (judged_said run _ (family_relations_said family N))
judged run (Relations N Text) = of_one run (Relations N Text) (λ text replies. refl) (λ text. tt) (judged_text run _ (LeadsToTextRelations N) (text_relations N) (text_relations_said N) tt)
judged run (Number family key) = of_one run (Number family key) (λ text replies. refl) (λ text. tt) (judged_said run _ (number_said family key))
judged run (Volume g n) = of_one run (Volume g n) (λ text replies. refl) (λ text. tt) (judged_said run _ (volume_said g n))
judged run (Bulk seed dim X workers) = of_one run (Bulk seed dim X workers) (λ text replies. refl) (λ text. tt) (judged_said run _ (bulk_said seed dim X))

-- memory is wanting, where it is taken
pub wants_by : (run : Run) (r : Reading) (report : Report) → Leads r run report → Wanting r report → Gives run report → TakesMemory r × ((report : Report) × IsWanting r run report × Gives run report)
wants_by run r report led w gives = (w.0, (report, elim w.1 [ inl e ↦ inl e | inr h ↦ inr (h.0, led, h.1) ], gives))

-- ---- what is meant is one, but for a session's replies

pub one_report : OneReportLaw
unfolding meant
one_report (Refused place) text a b plain x y = x.said ∙ sym y.said
one_report (Table (Named family) X workers) text a b plain x y = x.said ∙ sym y.said
one_report (Table Text X workers) text a b plain x y = x.said ∙ sym y.said
one_report (Session kind X workers lines) text a b plain x y = absurd (plain tt)
one_report (Probe X workers) text a b plain x y = x.said ∙ sym y.said
one_report (Relations N (Named family)) text a b plain x y = x.said ∙ sym y.said
one_report (Relations N Text) text a b plain x y = x.said ∙ sym y.said
one_report (Number family key) text a b plain x y = x.said ∙ sym y.said
one_report (Volume g n) text a b plain x y = x.said ∙ sym y.said
one_report (Bulk seed dim X workers) text a b plain x y = x.said ∙ sym y.said

session_status : (s : Structure) (X Y : ℕ) (a b : List Reply) → (session_report s X Y a).status ≡ (session_report s X Y b).status
unfolding session_report making_report plan_report
session_status s X Y a b = by (is_bound Y) (making_over s Y) (limit (planned_tensors s Y) X)
  where
    by : (t : Bool) (o : Option ℕ) (l : Limit) → (cond t (making_report o (plan_report X l (record { status = 0; bytes = lines_text a }))) (bound_refused Y)).status ≡ (cond t (making_report o (plan_report X l (record { status = 0; bytes = lines_text b }))) (bound_refused Y)).status
    by false o l = refl
    by true (Some k) l = refl
    by true None Within = refl
    by true None PassesBound = refl
    by true None (PassesCells level) = refl
    by true None (PassesNeeds key) = refl

closed_status : (v : Verdict) (x y : Report) → x.status ≡ y.status → (relations_report v x).status ≡ (relations_report v y).status
unfolding relations_report
closed_status Closed x y e = e
closed_status (Differs rel place left right) x y e = refl
closed_status (Over rel place) x y e = refl

text_status : (next next' : Entries → Report) → ((t : Entries) → (next t).status ≡ (next' t).status) → (text : List ℕ) → (of_text next text).status ≡ (of_text next' text).status
unfolding of_text of_reading
text_status next next' same text = by (nat_le (length text) 1048576) (grammar.reading_of text)
  where
    by : (short : Bool) (r : TextReading) → (cond short (of_reading next r) text_too_long).status ≡ (cond short (of_reading next' r) text_too_long).status
    by false r = refl
    by true (grammar.Refused n kind) = refl
    by true (Read t) = same t

meant_status : (r : Reading) (text : List ℕ) (a b : List Reply) → (meant r text a).status ≡ (meant r text b).status
unfolding meant closed_session of_relations
meant_status (Refused place) text a b = refl
meant_status (Table (Named family) X workers) text a b = refl
meant_status (Table Text X workers) text a b = refl
meant_status (Session (Named family) X workers lines) text a b = session_status (structure_of family) X (reach X lines) a b
meant_status (Session Text X workers lines) text a b = by (is_bound (reach X lines))
  where
    by : (t : Bool) → (cond t (of_text (closed_session X (reach X lines) a) text) (bound_refused (reach X lines))).status ≡ (cond t (of_text (closed_session X (reach X lines) b) text) (bound_refused (reach X lines))).status
    by false = refl
    by true =
        text_status (closed_session X (reach X lines) a) (closed_session X (reach X lines) b) (λ t. closed_status (verdict (looked_up t) t.dim) _ _ (session_status (text_structure t) X (reach X lines) a b)) text
meant_status (Probe X workers) text a b = refl
meant_status (Relations N (Named family)) text a b = refl
meant_status (Relations N Text) text a b = refl
meant_status (Number family key) text a b = refl
meant_status (Volume g n) text a b = refl
meant_status (Bulk seed dim X workers) text a b = refl

pub one_status : OneStatusLaw
one_status r text a b x y = status_of x.said ∙ meant_status r text x.replies y.replies ∙ sym (status_of y.said)
