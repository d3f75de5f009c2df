-- The causes of a run's status and completeness, by how the reports that it may lead to stand to what is meant.
use Rattle.std.proofs.Common.{◌≡◌, ◌≢◌, ◌⊎◌, inl, inr, ℕ, ◌≤◌, ◌<◌, ◌==◌, [], arith, refl, sym, ap, ◌∙◌, subst, length, Some, Bool, true, false, List}
use Rattle.run_reports.proofs.Names.{Rose, is_bound, Entries, TextReading, Read, Refused, reading_of, Report, bound_refused, out_of_memory, read_fault, text_too_long, line_refused, LeadsFromText, failed, wanting, long, refused, read, LeadsWithBound, beyond, within, of_reading, of_text, Run, Gives, AnswersBy, GivesBy, HasCausesBy, IsCompleteBy, IsInRange, Consumes, IsWhole}
use Rattle.std.proofs.lemmas.Bool.Decides.{nat_tests}
use Rattle.tensor_text.specs.declared.refusals.LineKind.{LineKind}
use Rattle.run_reports.proofs.SourceLemmas.{source_or, told_source, ended, no_longer, of_short, of_long}
use Rattle.run_reports.proofs.StatusLemmas.{IsPlain, plain_ample, status_of}

-- the text is the source's, where it tells its bytes
abbrev pub Tells : Run → List ℕ → Type 0
Tells run text = (source : List ℕ) → run.source_before.left ≡ Some source → text ≡ source

-- How a report stands to what is meant: it is meant with a text; or the source failed; or memory is wanting.
pub data Stands (run : Run) (means : List ℕ → Report → Type 0) (wants : Report → Type 0) (report : Report) : Type 0 where
  is_meant : (text : List ℕ) → Tells run text → means text report → Stands run means wants report
  at_fault : report.status ≡ 8 → Rose run.source_before.faults run.source_after.faults → Stands run means wants report
  is_wanting : wants report → Stands run means wants report

-- ---- jobs without a text, and with one

pub stands_without : (run : Run) {means : List ℕ → Report → Type 0} {wants : Report → Type 0} {report : Report} → ((text : List ℕ) → means text report) → Stands run means wants report
stands_without run is = is_meant (source_or run.source_before.left []) (told_source run.source_before.left []) (is (source_or run.source_before.left []))

-- of a report that is the whole one, or says that memory is wanting
pub stands_said : (run : Run) {means : List ℕ → Report → Type 0} {wants : Report → Type 0} {report whole : Report} {A : Type 0}
    → (report ≡ whole → (text : List ℕ) → means text report) → (A → wants report) → (report ≡ whole) ⊎ A → Stands run means wants report
stands_said run is takes (inl e) = stands_without run (is e)
stands_said run is takes (inr e) = is_wanting (takes e)

-- what a text means: of one that is too long, of one that the grammar refuses, and of the entries that are read
pub record OfText (means : List ℕ → Report → Type 0) (wants : Report → Type 0) (next : Entries → Report → Type 0) : Type 0 where
  pub too_long : (text : List ℕ) → 1048576 < length text → means text text_too_long
  pub no_text : (text : List ℕ) (n : ℕ) (kind : LineKind) → length text ≤ 1048576 → reading_of text ≡ Refused n kind → means text (line_refused n kind)
  pub entries : (text : List ℕ) (t : Entries) (report : Report) → length text ≤ 1048576 → reading_of text ≡ Read t → next t report → means text report ⊎ wants report
  pub memory : wants out_of_memory

module _ (run : Run) {means : List ℕ → Report → Type 0} {wants : Report → Type 0} {next : Entries → Report → Type 0} (of : OfText means wants next) where
  abbrev told_text : List ℕ → List ℕ
  told_text text = source_or run.source_before.left text

  -- a text that was read to its end
  whole_text : (text : List ℕ) (given : TextReading) → Consumes run.source_before.left run.source_after.left text → IsWhole text run.source_after.left given
      → (length (told_text text) ≤ 1048576) × (reading_of (told_text text) ≡ given)
  whole_text text given consumed whole =
      let is = ended text run.source_before.left run.source_after.left consumed whole.ended in
      (subst (λ l. length l ≤ 1048576) (sym is) whole.short, ap reading_of is ∙ whole.given)

  pub text_stands : (report : Report) → LeadsFromText next run.source_before run.source_after report → Stands run means wants report
  unfolding read_fault
  text_stands report (failed rose e) = at_fault (status_of e) rose
  text_stands report (wanting kept e) = is_wanting (subst wants (sym e) of.memory)
  text_stands report (long kept text consumed len e) =
      is_meant (told_text text) (told_source run.source_before.left text)
      (subst (means (told_text text)) (sym e) (of.too_long (told_text text) (omega (arith, len, no_longer text run.source_before.left run.source_after.left consumed))))
  text_stands report (refused kept text n kind consumed whole e) =
      let w = whole_text text (Refused n kind) consumed whole in
      is_meant (told_text text) (told_source run.source_before.left text) (subst (means (told_text text)) (sym e) (of.no_text (told_text text) n kind w.0 w.1))
  text_stands report (read kept text t consumed whole led) = by (let w = whole_text text (Read t) consumed whole in of.entries (told_text text) t report w.0 w.1 led)
    where
      by : means (told_text text) report ⊎ wants report → Stands run means wants report
      by (inl m) = is_meant (told_text text) (told_source run.source_before.left text) m
      by (inr w) = is_wanting w

-- with a bound before it
pub bound_stands : (run : Run) {means : List ℕ → Report → Type 0} {wants : Report → Type 0} {next : Entries → Report → Type 0} (X : ℕ)
    → (is_bound X ≡ false → (text : List ℕ) → means text (bound_refused X)) → (is_bound X ≡ true → OfText means wants next)
    → (report : Report) → LeadsWithBound X next run.source_before run.source_after report → Stands run means wants report
bound_stands run {means} X beyond_is of report (beyond outside kept e) = stands_without run (λ text. subst (means text) (sym e) (beyond_is outside text))
bound_stands run X beyond_is of report (within bounded led) = text_stands run (of bounded) report led

-- where what is meant is one report, that of the entries
pub one_of_text : {wants : Report → Type 0} {next : Entries → Report → Type 0} (whole : Entries → Report) (means : List ℕ → Report → Type 0)
    → ((text : List ℕ) (report : Report) → report ≡ of_text whole text → means text report)
    → ((t : Entries) (report : Report) → next t report → (report ≡ whole t) ⊎ wants report) → wants out_of_memory → OfText means wants next
unfolding of_reading
one_of_text {wants} {next} whole means is said memory = record {
  too_long = λ text h. is text text_too_long (sym (of_long whole text h));
  no_text = λ text n kind short given. is text (line_refused n kind) (sym (of_reading_is text (Refused n kind) short given));
  entries = λ text t report short given led. by text t report short given (said t report led);
  memory = memory;
}
  where
    of_reading_is : (text : List ℕ) (given : TextReading) → length text ≤ 1048576 → reading_of text ≡ given → of_text whole text ≡ of_reading whole given
    of_reading_is text given short e = of_short whole text short ∙ ap (of_reading whole) e

    by : (text : List ℕ) (t : Entries) (report : Report) → length text ≤ 1048576 → reading_of text ≡ Read t → (report ≡ whole t) ⊎ wants report → means text report ⊎ wants report
    by text t report short given (inl e) = inl (is text report (e ∙ sym (of_reading_is text (Read t) short given)))
    by text t report short given (inr w) = inr w

-- ---- the causes

-- what is meant has a status from 0 to 7 but 1, and is never that of want of memory
abbrev pub IsAmple : ℕ → Type 0
IsAmple n = IsInRange n × (n ≢ 10)

pub plain_range : {r : Report} → IsPlain r → IsAmple r.status
plain_range {r} plain = (by plain.is, plain_ample plain)
  where
    by : (r.status ≡ 0) ⊎ ((3 ≤ r.status) × (r.status ≤ 7)) → IsInRange r.status
    by (inl e) = inl e
    by (inr h) = inr (omega (arith, h.0), omega (arith, h.1))

-- what is to be known of the reports that the words lead to
pub record Judged (run : Run) (leads : Report → Type 0) (means : List ℕ → Report → Type 0) (wants : Report → Type 0) (takes : Type 0) (refused : ℕ → Type 0) : Type 0 where
  pub stands : (report : Report) → leads report → Stands run means wants report
  pub ample : (text : List ℕ) (report : Report) → means text report → IsAmple report.status
  pub ten : (report : Report) → wants report → report.status ≡ 10
  pub taking : (report : Report) → wants report → takes
  pub word : (report : Report) → leads report → report.status ≡ 2 → (place : ℕ) × refused place

module _ {run : Run} {leads : Report → Type 0} {no_text : Type 0} {means : List ℕ → Report → Type 0} {wants : Report → Type 0} {takes : Type 0} {refused : ℕ → Type 0}
    (answers : AnswersBy leads no_text run) (judged : Judged run leads means wants takes refused) where
  not_nine : (n : ℕ) → run.status ≡ n → n ≢ 9 → run.status ≢ 9
  not_nine n e h k = h (sym e ∙ k)

  -- what led to the status and the bytes, and how it stands
  record Told : Type 0 where
    report : Report
    led : leads report
    gives : Gives run report
    stands : Stands run means wants report

  told_by : run.status ≢ 9 → Told
  told_by n = let t = answers.told n in record { report = t.0; led = t.1; gives = (t.2, t.3); stands = judged.stands t.0 t.1 }

  refused_word : run.status ≡ 2 → (place : ℕ) × refused place
  refused_word e = let t = told_by (not_nine 2 e (λ k. omega arith)) in judged.word t.report t.led (sym t.gives.0 ∙ e)

  memory_cause : run.status ≡ 10 → takes
  memory_cause e = let t = told_by (not_nine 10 e (λ k. omega arith)) in by t.report (sym t.gives.0 ∙ e) t.stands
    where
      by : (report : Report) → report.status ≡ 10 → Stands run means wants report → takes
      by report ten (is_meant text told m) = absurd ((judged.ample text report m).1 ten)
      by report ten (at_fault eight rose) = absurd (omega (arith, eight, ten))
      by report ten (is_wanting w) = judged.taking report w

  job_cause : run.status ≢ 8 → run.status ≢ 9 → run.status ≢ 10 → GivesBy means run
  job_cause eight nine ten = let t = told_by nine in by t.report t.gives t.stands
    where
      by : (report : Report) → Gives run report → Stands run means wants report → GivesBy means run
      by report gives (is_meant text told m) = record { text = text; told = told; report = report; meant = m; gives = gives }
      by report gives (at_fault e rose) = absurd (eight (gives.0 ∙ e))
      by report gives (is_wanting w) = absurd (ten (gives.0 ∙ judged.ten report w))

  in_range : IsInRange run.status
  in_range = by (run.status == 9) refl
    where
      of : (report : Report) → Stands run means wants report → IsInRange report.status
      of report (is_meant text told m) = (judged.ample text report m).0
      of report (at_fault e rose) = inr (omega (arith, e), omega (arith, e))
      of report (is_wanting w) = let ten = judged.ten report w in inr (omega (arith, ten), omega (arith, ten))

      by : (nine : Bool) → (run.status == 9) ≡ nine → IsInRange run.status
      by true e = let n : run.status ≡ 9 = grind (arith, nat_tests) in inr (omega arith, omega arith)
      by false e =
          let n : run.status ≢ 9 = grind (arith, nat_tests) in let t = told_by n in
          subst IsInRange (sym t.gives.0) (of t.report t.stands)

  pub causes : HasCausesBy means takes refused run
  causes = record {
    range = in_range;
    of_source = answers.read_cause;
    of_sink = answers.write_cause;
    of_memory = memory_cause;
    of_word = refused_word;
    of_job = job_cause;
  }

  pub complete : {lacking : Type 0} → ((report : Report) → leads report → wants report → Gives run report → lacking) → IsCompleteBy means lacking run
  complete {lacking} lacks source sink = let t = told_by (λ e. sink (answers.write_cause e)) in by t.report t.led t.gives t.stands
    where
      by : (report : Report) → leads report → Gives run report → Stands run means wants report → GivesBy means run ⊎ lacking
      by report led gives (is_meant text told m) = inl (record { text = text; told = told; report = report; meant = m; gives = gives })
      by report led gives (at_fault e rose) = absurd (source rose)
      by report led gives (is_wanting w) = inr (lacks report led w gives)
