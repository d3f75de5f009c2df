-- A report that was told, or cut by the sink's fault, is an answer of the run.
use Rattle.std.proofs.Common.{◌≡◌, ◌≢◌, ◌⊎◌, inl, inr, ℕ, arith, sym, ◌<◌, ◌≤◌, ap, ◌∙◌, subst, true, false}
use Rattle.run_reports.proofs.Names.{Giving, Rose, kind_of, is_bound, Entries, Report, Ends, EndsBy, EndsOfText, EndsWithBound, LeadsFromText, LeadsWithBound, beyond, within, Run, AnswersBy}
use Rattle.command_words.specs.Words as words
use Rattle.command_words.specs.declared.asked.Kind.{Kind}
use Rattle.run_reports.proofs.SourceLemmas.{text_source}
use Rattle.run_reports.proofs.StatusLemmas.{IsOther, status_of}

-- the source's part: status 8 has its cause, a fault is seen, and a job without a text leaves the source alone
pub record SourceAnswers (no_text : Type 0) (run : Run) (report : Report) : Type 0 where
  pub cause : report.status ≡ 8 → Rose run.source_before.faults run.source_after.faults
  pub seen : (run.source_after.faults ≡ run.source_before.faults) ⊎ (report.status ≡ 8)
  pub untouched : no_text → run.source_after ≡ run.source_before

pub answers_from_report : {leads : Report → Type 0} {no_text : Type 0} (run : Run) (report : Report) → leads report → SourceAnswers no_text run report
    → Ends report run.sink_before run.sink_after run.status → AnswersBy leads no_text run
answers_from_report {leads} {no_text} run report led source ends = record {
  read_cause = λ e. source.cause (let same : (run.status ≢ 9 → run.status ≡ report.status) = λ n. (ends.told n).0 in grind arith);
  write_cause = λ e. (ends.cut e).0;
  read_seen = λ h. seen source.seen h;
  write_seen = λ h. let kept : (run.status ≢ 9 → run.sink_after.faults ≡ run.sink_before.faults) = λ n. (ends.told n).1 in grind arith;
  untouched = source.untouched;
  told = λ n. (report, led, (ends.told n).0, (ends.told n).2);
  cut = λ e. (report, led, (ends.cut e).1);
}
  where
    seen : (run.source_after.faults ≡ run.source_before.faults) ⊎ (report.status ≡ 8) → run.source_before.faults < run.source_after.faults → 8 ≤ run.status
    seen (inl e) h = absurd (omega arith)
    seen (inr e) h = let same : (run.status ≢ 9 → run.status ≡ report.status) = λ n. (ends.told n).0 in grind arith

-- of a report of a job that reads no text
pub answers_from_ends : {leads : Report → Type 0} {no_text : Type 0} (run : Run) (report : Report) → leads report → report.status ≢ 8
    → run.source_after ≡ run.source_before → Ends report run.sink_before run.sink_after run.status → AnswersBy leads no_text run
answers_from_ends run report led other kept ends =
    answers_from_report run report led (record { cause = λ e. absurd (other e); seen = inl (ap (λ (g : Giving). g.faults) kept); untouched = λ h. kept }) ends

-- the same, by what the job leads to
pub answers_without_text : {leads : Report → Type 0} {no_text : Type 0} (run : Run) → ((report : Report) → leads report → IsOther report)
    → run.source_after ≡ run.source_before → EndsBy leads run.sink_before run.sink_after run.status → AnswersBy leads no_text run
answers_without_text run other kept ends = answers_from_ends run ends.0 ends.1 ((other ends.0 ends.1).1) kept ends.2

-- of a job with a text
pub answers_of_text : {no_text : Type 0} (run : Run) (next : Entries → Report → Type 0) → (no_text → ⊥) → ((t : Entries) (r : Report) → next t r → IsOther r)
    → EndsOfText next run.source_before run.source_after run.sink_before run.sink_after run.status
    → AnswersBy (LeadsFromText next run.source_before run.source_after) no_text run
answers_of_text run next none other ends =
    let parts = text_source run next ends.0 other ends.1 in
    answers_from_report run ends.0 ends.1 (record { cause = parts.0; seen = parts.1; untouched = λ h. absurd (none h) }) ends.2

-- of a job with a bound and a text
pub answers_with_bound : {no_text : Type 0} (run : Run) (X : ℕ) (next : Entries → Report → Type 0) → (no_text → is_bound X ≡ false)
    → ((t : Entries) (r : Report) → next t r → IsOther r)
    → EndsWithBound X next run.source_before run.source_after run.sink_before run.sink_after run.status
    → AnswersBy (LeadsWithBound X next run.source_before run.source_after) no_text run
answers_with_bound {no_text} run X next none other ends = answers_from_report run ends.0 ends.1 (source ends.1) ends.2
  where
    clash : is_bound X ≡ true → is_bound X ≡ false → ⊥
    clash e f = let g : true ≡ false = sym e ∙ f in cc

    source : LeadsWithBound X next run.source_before run.source_after ends.0 → SourceAnswers no_text run ends.0
    source (beyond outside kept e) =
        record { cause = λ h. absurd (omega (arith, status_of e, h)); seen = inl (ap (λ (g : Giving). g.faults) kept); untouched = λ h. kept }
    source (within bounded l) =
        let parts = text_source run next ends.0 other l in
        record { cause = parts.0; seen = parts.1; untouched = λ h. absurd (clash bounded (none h)) }

-- ---- by what the words ask for

pub answers_by : {R : Type 0} (leads : R → Run → Report → Type 0) (no_text : R → Type 0) {run : Run} (asked : R) {given : R} → asked ≡ given
    → AnswersBy (leads asked run) (no_text asked) run → AnswersBy (leads given run) (no_text given) run
answers_by leads no_text {run} asked same answers = subst (λ r. AnswersBy (leads r run) (no_text r) run) same answers

-- what they ask for, with its kind known
pub of_kind : {A : Type 0} (reading : words.Kind → A) (r : A) (k k' : Kind) → k ≡ k' → reading (kind_of k) ≡ r → reading (kind_of k') ≡ r
of_kind reading r k k' e f = ap (λ (x : Kind). reading (kind_of x)) (sym e) ∙ f
