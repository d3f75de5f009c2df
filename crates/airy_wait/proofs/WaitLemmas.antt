-- What the parts of a run with callers who wait end with.
use Rattle.std.proofs.Common.{◌≡◌, ◌≢◌, ◌⊎◌, inl, inr, ℕ, ◌<◌, ◌≤◌, true, false, List, [], ◌∷◌, map, arith, refl, sym, ap, ap₂, ◌∙◌, subst, IsTrue, None}
use Rattle.run_reports.proofs.Names.{Taking, Structure, IsSound, planned_tensors, BelowDimLaw, Key, OwnTensorsLaw, PlanLaw, Verdict, Closed, Differs, Over, verdict, Planning, tensors_of, Within, limit, limit_of, PlanCause, is_bound, reach, Rises, Line, Names, MakeErr, JobSessionLaw, SameTablesLaw, Entries, looked_up, Report, Ends, EndsOrWants, bound_refused, out_of_memory, EndsBy, relations_report, of_relations, closed, AreClosed, has_letter, text_structure, ArePlanned, making_error, making_over, cause_report, making_report, plan_report}
use Rattle.amp_plan.specs.Limits.{Tells}
use Rattle.ask_seats.specs.Sessions.{told}
use Rattle.command_words.specs.declared.line.Line.TheVariants.{Ask, Finish}
use Rattle.named_families.specs.declared.petersson.MakeErr.TheVariants as make
use Rattle.session_law.specs.Sessions.{answered, session_of, session_report, stored_session, AreShown}
use Rattle.run_reports.proofs.ReportLemmas.{ends_by, told_cause}
use Rattle.session_law.proofs.SessionLemmas.{SessionLaws, session-bound, session-stood, same_told, shown_law, text-planned}
use Rattle.run_reports.proofs.StatusLemmas.{status_of}
use Rattle.run_reports.proofs.TextLemmas.{own_of, fails_by}
use Rattle.airy_wait.specs.Finished.{finished_asks}
use Rattle.airy_wait.specs.Turns.{plan_replies}
use Rattle.airy_wait.specs.Waiting.{replies_of, stored_waiting, waiting_report, closed_waiting, LeadsToClosedWaiting, LeadsToWaiting}
use Rattle.airy_wait.proofs.FinishedLemmas.{one_list}
use Rattle.run_reports.proofs.StructureLemmas.{text_made}

-- ---- a plan of stored tensors

pub of_plan : (t : Entries) (X : ℕ) (keys : List Key) (p : Planning) → p ≡ record { tensors = t; bound = X } → limit_of (record { tensors = t; bound = X }) ≡ Within
    → stored_waiting t X keys ≡ answered (plan_replies p keys)
unfolding limit_of tensors_of stored_waiting stored_session plan_report
of_plan t X keys p made within =
    ap (λ l. plan_report X l (answered (map (told (looked_up t) t.letter X) keys))) within ∙ ap (λ (q : Planning). answered (plan_replies q keys)) (sym made)

pub of_cause : (t : Entries) (X : ℕ) (keys : List Key) (why : PlanCause) → Tells (record { tensors = t; bound = X }) why
    → (cause_report why ≡ stored_waiting t X keys) ⊎ (cause_report why ≡ out_of_memory)
unfolding limit_of tensors_of stored_waiting stored_session
of_cause t X keys why tells = told_cause (record { tensors = t; bound = X }) why (answered (map (told (looked_up t) t.letter X) keys)) tells

-- ---- the asks

rises-asks : (X : ℕ) (keys : List Key) → Rises X (map Ask keys)
unfolding Rises
rises-asks X [] = tt
rises-asks X (key ∷ keys) = rises-asks X keys

reach-asks : (X : ℕ) (keys : List Key) → reach X (map Ask keys) ≡ X
unfolding reach
reach-asks X [] = refl
reach-asks X (key ∷ keys) = reach-asks X keys

module _ (s : Structure) (X : ℕ) (keys : List Key) where
  -- the replies show what every solution has
  shown : JobSessionLaw → IsSound s → 0 < X → AreShown s X X (finished_asks keys) (replies_of s X keys)
  unfolding session_of Rises reach
  shown law sound some =
      shown_law law s X X 1 (finished_asks keys) (replies_of s X keys) sound some (rises-asks X keys) (omega (arith, reach-asks X keys))
      ((one_list (session_of s X 1) X keys (replies_of s X keys)).1 refl)

  -- what a report leads to that says no more than the whole one does
  leads_of : (whole report : Report) → (report ≡ whole) ⊎ (IsTrue (is_bound X) × (report ≡ out_of_memory))
      → (report.status ≡ 0 → AreShown s X X (finished_asks keys) (replies_of s X keys)) → LeadsToWaiting s X keys whole report
  unfolding session_of
  leads_of whole report said headline = record { said = said; one = λ crew replies. one_list (session_of s X crew) X keys replies; headline = headline }

  waiting-stood : (t : Entries) → SessionLaws → is_bound X ≡ true → making_over s X ≡ None → ArePlanned t s X → waiting_report s X keys ≡ stored_waiting t X keys
  unfolding waiting_report stored_waiting
  waiting-stood t laws bounded made stored =
      session-stood s t X X (replies_of s X keys) laws.once laws.below bounded made stored
      ∙ ap (stored_session t X) (told-stood keys)
    where
      told-stood : (keys : List Key) → replies_of s X keys ≡ map (told (looked_up t) t.letter X) keys
      told-stood [] = refl
      told-stood (key ∷ rest) =
          ap₂ (λ a b. a ∷ b)
          (ap (λ l. told (planned_tensors s X) l X key) (sym stored.letter) ∙ sym (same_told (looked_up t) (planned_tensors s X) t.letter 0 stored.entries laws.below laws.tables X key))
          (told-stood rest)

  module _ (before now : Taking) (result : ℕ) where
    pub bound-leads : is_bound X ≡ false → Ends (bound_refused X) before now result → EndsBy (LeadsToWaiting s X keys (waiting_report s X keys)) before now result
    unfolding waiting_report
    bound-leads e h = (bound_refused X, leads_of _ (bound_refused X) (inl (sym (session-bound s X X (replies_of s X keys) e))) (λ z. absurd (omega arith)), h)

    pub making-leads : (why : MakeErr) → is_bound X ≡ true → Names why (making_over s X) → Ends (making_error why) before now result
        → EndsBy (LeadsToWaiting s X keys (waiting_report s X keys)) before now result
    unfolding making_error Names making_report waiting_report session_report
    making-leads (make.Over k) bounded named h = (making_error (make.Over k), leads_of _ _ (inl (rw (bounded, named) refl)) (λ z. absurd (omega arith)), h)
    making-leads make.NoMemory bounded named h = (out_of_memory, leads_of _ _ (inr (bounded, refl)) (λ z. absurd (omega arith)), h)

    pub stored-leads : (t : Entries) (whole : Report) → SessionLaws → IsSound s → 0 < X → is_bound X ≡ true → making_over s X ≡ None → ArePlanned t s X
        → waiting_report s X keys ≡ whole → EndsOrWants (stored_waiting t X keys) before now result → EndsBy (LeadsToWaiting s X keys whole) before now result
    stored-leads t whole laws sound some bounded made stored same (inl h) =
        (stored_waiting t X keys, leads_of whole _ (inl (sym (waiting-stood t laws bounded made stored) ∙ same)) (λ z. shown laws.shown sound some), h)
    stored-leads t whole laws sound some bounded made stored same (inr h) =
        (out_of_memory, leads_of whole _ (inr (bounded, refl)) (λ z. absurd (omega arith)), h)

-- ---- of a text

-- where the relations hold
pub closed-report : (t : Entries) (X : ℕ) (keys : List Key) → Closed ≡ verdict (looked_up t) t.dim → waiting_report (text_structure t) X keys ≡ closed_waiting X keys t
unfolding closed_waiting of_relations relations_report
closed-report t X keys found = ap (λ v. relations_report v (waiting_report (text_structure t) X keys)) found

module _ (t : Entries) (X : ℕ) (keys : List Key) (before now : Taking) (result : ℕ) (own : OwnTensorsLaw) where
  pub closed-leads : EndsBy (LeadsToWaiting (text_structure t) X keys (closed_waiting X keys t)) before now result → AreClosed t
      → EndsBy (LeadsToClosedWaiting X keys t) before now result
  closed-leads e close = (e.0, record { waiting = e.1; own = own_of own X t; accepted = λ h. close }, e.2)

  -- and where the relations fail first
  pub fails-leads : (v : Verdict) → v ≡ verdict (looked_up t) t.dim → (v ≡ Closed → ⊥) → Ends (relations_report v closed) before now result
      → EndsBy (LeadsToClosedWaiting X keys t) before now result
  unfolding closed_waiting
  fails-leads v found fails e = fails_by t (waiting_report (text_structure t) X keys) before now result v found fails (λ r said low high. record {
    waiting = leads_of (text_structure t) X keys (closed_waiting X keys t) r (inl said) (λ h. absurd (omega (arith, h, low)));
    own = own_of own X t;
    accepted = λ h. absurd (omega (arith, h, low));
  }) e
