-- What a session's parts end with.
use Rattle.std.proofs.Common.{◌≡◌, ◌≢◌, ◌⊎◌, inl, inr, ℕ, zero, suc, ◌≤◌, List, [], ◌∷◌, ◌++◌, length, append-nil, arith, refl, sym, ap, ◌∙◌, subst, Bool, true, false, Option, Some, None, Ok, ◌<◌, cond}
use Rattle.run_reports.proofs.Names.{Taking, Rose, Entries, looked_up, Planning, tensors_of, Within, limit_of, PlanCause, IsReached, reach, Rises, Line, Report, Ends, out_of_memory, bound_refused, Structure, IsSound, planned_tensors, Lettered, BelowDimLaw, OwnTensorsLaw, PlanLaw, JobSessionLaw, SameTablesLaw, Names, MakeErr, Tensors, SameEntries, Verdict, Closed, Differs, Over, verdict, relations_report, of_relations, closed, AreClosed, has_letter, text_structure, EndsBy, plan_report, cause_report, making_report, is_bound, making_over, making_error, ArePlanned}
use Rattle.amp_plan.specs.Limits.{Tells}
use Rattle.amp_plan.specs.declared.PlanCause.TheVariants as cause
use Rattle.ask_seats.specs.Replies.{Reply, lines_text}
use Rattle.ask_seats.specs.Sessions.{Session, Admitted}
use Rattle.ask_seats.specs.Asks.{Spoken, CutShort, StopsAtGrow, Fails}
use Rattle.ask_seats.specs.declared.session_err.SessionErr.TheVariants as err
use Rattle.std.specs.Io.KnownBytes.{Appends}
use Rattle.airy_math.specs.Jobs.{Text}
use Rattle.named_families.specs.declared.petersson.MakeErr.TheVariants as make
use Rattle.airyrun.specs.Run.{LeadsToClosedSession}
use Rattle.session_law.specs.Sessions.{answered, stored_session, session_of, session_report}
use Rattle.airyrun.specs.Sessions.{EndsReplies, Wants, at_first, at_grow, wanting_behind, LeadsToSession}
use Rattle.run_reports.proofs.ReportLemmas.{not_whole, told_cause}
use Rattle.run_reports.proofs.StoredLemmas.{same_limit}
use Rattle.session_law.proofs.SessionLemmas.{SessionLaws, bounded, same_replies, session-bound, session-stood, shown_law}
use Rattle.run_reports.proofs.TextLemmas.{own_of, fails_by}
use Rattle.std.proofs.KnownBytes.{Appends-nil}

module _ (s : Session) (X : ℕ) (lines : List Line) (before now : Taking) where
  pub spoken-ends : Spoken s X lines before.taken now.taken → now.faults ≡ before.faults → EndsReplies s X lines answered before now 0
  spoken-ends h same = record {
    replies = h.replies;
    report = answered h.replies;
    said = inl refl;
    admitted = λ e. h.admitted;
    ends = record { later = omega arith; told = λ n. (refl, same, h.written); cut = λ e. absurd (omega arith) };
  }

  pub cut-ends : CutShort s X lines before.taken now.taken → Rose before.faults now.faults → before.faults ≤ now.faults → EndsReplies s X lines answered before now 9
  cut-ends h rose later = record {
    replies = h.replies;
    report = answered h.replies;
    said = inl refl;
    admitted = λ e. h.admitted;
    ends = record { later = later; told = λ n. absurd (n refl); cut = λ e. (rose, h.cut) };
  }

  -- a report of no reply
  pub other-ends : (whole : List Reply → Report) (other : Report) (result : ℕ) → (other ≡ whole []) ⊎ (other ≡ out_of_memory) → other.status ≢ 0 → Ends other before now result → EndsReplies s X lines whole before now result
  other-ends whole other result e n h = record { replies = []; report = other; said = elim e [ inl f ↦ inl f | inr f ↦ inr (at_first f) ]; admitted = λ z. absurd (n z); ends = h }

  -- memory was wanting at a `grow` behind a line
  pub stopped-ends : (n : ℕ) → n ≢ 0 → StopsAtGrow s X lines before now n → EndsReplies s X lines answered before now 10
  unfolding wanting_behind
  stopped-ends n some h = by h.replies h.admitted h.written h.many
    where
      by : (replies : List Reply) → Admitted s X h.before replies → Appends before.taken now.taken (lines_text replies) → n ≡ length replies → EndsReplies s X lines answered before now 10
      by [] admitted written many = absurd (some many)
      by (reply ∷ replies) admitted written many = record {
        replies = [];
        report = wanting_behind (reply ∷ replies);
        said = inr (at_grow h.before h.bound h.rest h.there (reply ∷ replies) admitted refl);
        admitted = λ z. absurd (omega arith);
        ends = record { later = omega (arith, h.steady); told = λ k. (refl, h.steady, written); cut = λ e. absurd (omega arith) };
      }

-- ---- a report behind a part of a run that wrote nothing

appends-after : (old mid new : Option (List ℕ)) (bytes : List ℕ) → Appends old mid [] → Appends mid new bytes → Appends old new bytes
appends-after None mid new bytes a b = tt
appends-after (Some xs) None new bytes a b = absurd a
appends-after (Some xs) (Some ys) None bytes a b = absurd b
appends-after (Some xs) (Some ys) (Some zs) bytes a b = b ∙ ap (λ l. l ++ bytes) (a ∙ append-nil xs)

ends-after : (report : Report) (old mid now : Taking) (result : ℕ) → Appends old.taken mid.taken [] → mid.faults ≡ old.faults → Ends report mid now result → Ends report old now result
ends-after report old mid now result none steady e = record {
  later = omega (arith, steady, e.later);
  told = λ n. let t = e.told n in (t.0, t.1 ∙ steady, appends-after old.taken mid.taken now.taken report.bytes none t.2);
  cut = λ n. let c = e.cut n in (subst (λ f. Rose f now.faults) steady c.0, (c.1.0, c.1.1, appends-after old.taken mid.taken now.taken _ none c.1.2));
}

-- where memory was wanting before any line, nothing was written
none-written : (s : Session) (X : ℕ) (lines : List Line) (old new : Taking) → Fails s X lines old new (err.NoMemory 0) → Appends old.taken new.taken [] × (new.faults ≡ old.faults)
unfolding lines_text
none-written s X lines old new (inl h) = (subst (λ (t : Taking). Appends old.taken t.taken []) (sym h.0) (Appends-nil old.taken), ap (λ (t : Taking). t.faults) h.0)
none-written s X lines old new (inr h) = (by h.replies h.written h.many, h.steady)
  where
    by : (replies : List Reply) → Appends old.taken new.taken (lines_text replies) → 0 ≡ length replies → Appends old.taken new.taken []
    by [] written many = written
    by (reply ∷ replies) written many = absurd (omega (arith, many))

-- memory was wanting: before the first line, when the run says so, or at a `grow`
pub memory-ends : (s : Session) (X : ℕ) (lines : List Line) (old mid now : Taking) (n result : ℕ) → Fails s X lines old mid (err.NoMemory n)
    → (n ≡ 0 → Ends out_of_memory mid now result) → (n ≢ 0 → (now ≡ mid) × (result ≡ 10)) → EndsReplies s X lines answered old now result
memory-ends s X lines old mid now zero result f first later =
    let w = none-written s X lines old mid f in
    other-ends s X lines old now answered out_of_memory result (inr refl) (λ z. omega arith) (ends-after out_of_memory old mid now result w.0 w.1 (first refl))
memory-ends s X lines old mid now (suc n) result (inl h) first later = absurd (omega (arith, h.1))
memory-ends s X lines old mid now (suc n) result (inr h) first later =
    let k = later (λ e. omega (arith, e)) in
    subst (λ r. EndsReplies s X lines answered old now r) (sym k.1) (subst (λ q. EndsReplies s X lines answered old q 10) (sym k.0) (stopped-ends s X lines old mid (suc n) (λ e. omega (arith, e)) h))

pub cause-ends : (t : Entries) (X crew : ℕ) (lines : List Line) (why : PlanCause) (before now : Taking) (result : ℕ) → Tells (record { tensors = t; bound = X }) why → Ends (cause_report why) before now result
    → EndsReplies (record { tensors = looked_up t; letter = t.letter; crew = crew }) X lines (stored_session t X) before now result
unfolding limit_of tensors_of stored_session
cause-ends t X crew lines why before now result tells h =
    other-ends (record { tensors = looked_up t; letter = t.letter; crew = crew }) X lines before now (stored_session t X) (cause_report why) result (told_cause (record { tensors = t; bound = X }) why (answered []) tells) (not_whole why) h

pub plan-ends : (t : Entries) (X crew : ℕ) (lines : List Line) (p : Planning) (before now : Taking) (result : ℕ) → p ≡ record { tensors = t; bound = X } → limit_of (record { tensors = t; bound = X }) ≡ Within
    → EndsReplies (record { tensors = tensors_of p; letter = p.tensors.letter; crew = crew }) p.bound lines answered before now result
    → EndsReplies (record { tensors = looked_up t; letter = t.letter; crew = crew }) X lines (stored_session t X) before now result
unfolding limit_of tensors_of stored_session plan_report
plan-ends t X crew lines p before now result made within h =
    let g = subst (λ (q : Planning). EndsReplies (record { tensors = tensors_of q; letter = q.tensors.letter; crew = crew }) q.bound lines answered before now result) made h in record {
      replies = g.replies;
      report = g.report;
      said = elim g.said [ inl e ↦ inl (e ∙ ap (λ l. plan_report X l (answered g.replies)) (sym within)) | inr e ↦ inr e ];
      admitted = g.admitted;
      ends = g.ends;
    }

-- ---- of a structure

-- the bound that is reached is one
pub reached_bound : (X top : ℕ) (lines : List Line) → IsReached X lines (Ok top) → is_bound (reach X lines) ≡ true
reached_bound X top lines h = subst (λ n. is_bound n ≡ true) h.0 (bounded top (omega (arith, h.1, h.2)) h.3)

module _ (s : Structure) (X crew : ℕ) (lines : List Line) (before now : Taking) (result : ℕ) where
  abbrev Y : ℕ
  Y = reach X lines

  pub bound-leads : is_bound Y ≡ false → Ends (bound_refused Y) before now result → EndsBy (LeadsToSession s X crew lines (session_report s X Y)) before now result
  bound-leads e h = (bound_refused Y, record { replies = []; said = inl (sym (session-bound s X Y [] e)); admitted = λ z. absurd (omega arith); headline = λ z. absurd (omega arith) }, h)

  pub making-leads : (why : MakeErr) → is_bound Y ≡ true → Names why (making_over s Y) → Ends (making_error why) before now result → EndsBy (LeadsToSession s X crew lines (session_report s X Y)) before now result
  unfolding making_error Names making_report session_report
  making-leads (make.Over k) bounded named h = (making_error (make.Over k), record { replies = []; said = inl (rw (bounded, named) refl); admitted = λ z. absurd (omega arith); headline = λ z. absurd (omega arith) }, h)
  making-leads make.NoMemory bounded named h = (out_of_memory, record { replies = []; said = inr (bounded, at_first refl); admitted = λ z. absurd (omega arith); headline = λ z. absurd (omega arith) }, h)

  module _ (t : Entries) (laws : SessionLaws) (stored : ArePlanned t s Y) where
    -- replies that the stored tensors admit are admitted by the structure's
    stood-admitted : (part : List Line) (replies : List Reply) → Admitted (record { tensors = looked_up t; letter = t.letter; crew = crew }) X part replies → Admitted (session_of s Y crew) X part replies
    unfolding session_of
    stood-admitted part replies a =
        same_replies laws.once laws.below laws.tables (looked_up t) (planned_tensors s Y) (has_letter s) X crew part replies stored.entries
        (subst (λ l. Admitted (record { tensors = looked_up t; letter = l; crew = crew }) X part replies) stored.letter a)

    stood-wants : (report : Report) → Wants (record { tensors = looked_up t; letter = t.letter; crew = crew }) X lines report → Wants (session_of s Y crew) X lines report
    stood-wants report (at_first e) = at_first e
    stood-wants report (at_grow part Z rest there replies a e) = at_grow part Z rest there replies (stood-admitted part replies a) e

    pub stored-leads : IsSound s → 0 < X → Rises X lines → is_bound Y ≡ true → making_over s Y ≡ None
        → EndsReplies (record { tensors = looked_up t; letter = t.letter; crew = crew }) X lines (stored_session t X) before now result → EndsBy (LeadsToSession s X crew lines (session_report s X Y)) before now result
    stored-leads sound some rise bounded made h = (
      h.report,
      record {
        replies = h.replies;
        said = elim h.said [ inl e ↦ inl (e ∙ sym (session-stood s t X Y h.replies laws.once laws.below bounded made stored)) | inr e ↦ inr (bounded, stood-wants h.report e) ];
        admitted = λ z. stood-admitted lines h.replies (h.admitted z);
        headline = λ z. shown_law laws.shown s X Y crew lines h.replies sound some rise (omega arith) (stood-admitted lines h.replies (h.admitted z));
      },
      h.ends,
    )

-- ---- of a text

module _ (t : Entries) (X crew : ℕ) (lines : List Line) (before now : Taking) (result : ℕ) (own : OwnTensorsLaw) where
  abbrev Z : ℕ
  Z = reach X lines

  -- the session, where the relations hold
  pub closed-leads : EndsBy (LeadsToSession (text_structure t) X crew lines (session_report (text_structure t) X Z)) before now result → Closed ≡ verdict (looked_up t) t.dim → AreClosed t
      → EndsBy (LeadsToClosedSession X crew lines t) before now result
  unfolding relations_report of_relations
  closed-leads e found close = (
    e.0,
    record {
      session = record {
        replies = e.1.replies;
        said = elim e.1.said [ inl q ↦ inl (q ∙ ap (λ v. relations_report v (session_report (text_structure t) X Z e.1.replies)) found) | inr q ↦ inr q ];
        admitted = e.1.admitted;
        headline = e.1.headline;
      };
      own = λ n. own_of own n t;
      accepted = λ h. close;
    },
    e.2,
  )

  -- and where they fail first, with no reply
  pub fails-leads : (v : Verdict) → v ≡ verdict (looked_up t) t.dim → (v ≡ Closed → ⊥) → Ends (relations_report v closed) before now result → EndsBy (LeadsToClosedSession X crew lines t) before now result
  fails-leads v found fails e = fails_by t (session_report (text_structure t) X Z []) before now result v found fails (λ r said low high. record {
    session = record { replies = []; said = inl said; admitted = λ h. absurd (omega (arith, h, low)); headline = λ h. absurd (omega (arith, h, low)) };
    own = λ n. own_of own n t;
    accepted = λ h. absurd (omega (arith, h, low));
  }) e
