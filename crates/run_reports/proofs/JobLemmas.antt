-- Jobs whose words mean one report with each text: how the reports that they lead to stand to it.
use Rattle.std.proofs.Common.{◌≡◌, ◌⊎◌, inr, ℕ, List, IsTrue, cond, arith, refl, sym, ◌∙◌, subst}
use Rattle.run_reports.proofs.Names.{Entries, is_bound, Report, word_refused, bound_refused, out_of_memory, LeadsFromText, LeadsWithBound, of_text, Run, Gives, AnswersBy, IsCompleteBy}
use Rattle.run_reports.proofs.SourceLemmas.{other_text, other_bound}
use Rattle.run_reports.proofs.StatusLemmas.{IsPlain, IsOther, other_said, plain_bound, plain_text, status_of}
use Rattle.run_reports.proofs.CauseLemmas.{IsAmple, Judged, Stands, bound_stands, complete, one_of_text, plain_range, stands_said, stands_without, text_stands}

-- A job leads to its whole report, or says that memory is wanting, where it takes some.
pub record Said (leads : Report → Type 0) (whole : Report) (takes : Type 0) : Type 0 where
  pub plain : IsPlain whole
  pub said : (report : Report) → leads report → (report ≡ whole) ⊎ (takes × (report ≡ out_of_memory))

-- so its report is neither that of a refused word, nor that of a failed source
pub other_of : {leads : Report → Type 0} {whole : Report} {takes : Type 0} → Said leads whole takes → (report : Report) → leads report → IsOther report
other_of s report led = other_said s.plain (s.said report led)

module _ (run : Run) (refused : ℕ → Type 0) where
  -- what is to be known of a job whose words mean one report with each text
  abbrev pub JudgedOne : (Report → Type 0) → (List ℕ → Report) → Type 0 → Type 0
  JudgedOne leads whole takes = Judged run leads (λ text report. report ≡ whole text) (λ report. takes × (report ≡ out_of_memory)) takes refused

  pub judged_by : {leads : Report → Type 0} {whole : List ℕ → Report} {takes : Type 0}
      → ((report : Report) → leads report → Stands run (λ text report. report ≡ whole text) (λ report. takes × (report ≡ out_of_memory)) report)
      → ((text : List ℕ) → IsAmple (whole text).status) → ((report : Report) → leads report → report.status ≡ 2 → (place : ℕ) × refused place) → JudgedOne leads whole takes
  judged_by stands ample word = record {
    stands = stands;
    ample = λ text report e. subst IsAmple (sym (status_of e)) (ample text);
    ten = λ report w. status_of w.1;
    taking = λ report w. w.0;
    word = word;
  }

  -- a job without a text
  pub judged_said : {leads : Report → Type 0} {whole : Report} {takes : Type 0} → Said leads whole takes → JudgedOne leads (λ text. whole) takes
  judged_said s =
      judged_by (λ report led. stands_said run (λ e text. e) (λ w. w) (s.said report led)) (λ text. plain_range s.plain)
      (λ report led h. absurd ((other_of s report led).0 h))

  -- of a refused word
  pub judged_word : {takes : Type 0} (place : ℕ) → refused place → JudgedOne (λ report. report ≡ word_refused place) (λ text. word_refused place) takes
  judged_word place is =
      judged_by (λ report led. stands_without run (λ text. led)) (λ text. (inr (omega arith, omega arith), λ e. omega (arith, e))) (λ report led h. (place, is))

  module _ (next : Entries → Report → Type 0) (whole : Entries → Report) where
    -- a job with a text
    pub judged_text : {takes : Type 0} → ((t : Entries) → Said (next t) (whole t) takes) → takes
        → JudgedOne (LeadsFromText next run.source_before run.source_after) (of_text whole) takes
    judged_text {takes} s memory =
        judged_by (text_stands run (one_of_text whole (λ text report. report ≡ of_text whole text) (λ text report e. e) (λ t. (s t).said) (memory, refl)))
        (λ text. plain_range (plain_text whole (λ t. (s t).plain) text)) (λ report led h. absurd (other_text next _ _ report (λ t. other_of (s t)) led h))

    -- and with a bound before it
    pub judged_bound : (X : ℕ) → ((t : Entries) → Said (next t) (whole t) (IsTrue (is_bound X)))
        → JudgedOne (LeadsWithBound X next run.source_before run.source_after) (λ text. cond (is_bound X) (of_text whole text) (bound_refused X)) (IsTrue (is_bound X))
    judged_bound X s =
        judged_by (bound_stands run X (λ outside text. rw outside refl)
        (λ bounded. one_of_text whole (λ text report. report ≡ cond (is_bound X) (of_text whole text) (bound_refused X)) (λ text report e. e ∙ rw bounded refl) (λ t. (s t).said) (bounded, refl)))
        (λ text. plain_range (plain_bound X _ (plain_text whole (λ t. (s t).plain) text))) (λ report led h. absurd (other_bound X next _ _ report (λ t. other_of (s t)) led h))

-- where memory is wanting, the run says so
pub one_complete : {run : Run} {leads : Report → Type 0} {no_text takes : Type 0} {refused : ℕ → Type 0} {whole : List ℕ → Report}
    → AnswersBy leads no_text run → JudgedOne run refused leads whole takes → IsCompleteBy (λ text report. report ≡ whole text) (takes × Gives run out_of_memory) run
one_complete {run} answers judged = complete answers judged (λ report led w gives. (w.0, subst (Gives run) w.1 gives))
