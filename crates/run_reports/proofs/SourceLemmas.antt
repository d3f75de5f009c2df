-- What a job with a text says of its source, and which text is meant.
use Rattle.std.proofs.Common.{◌≡◌, ◌≢◌, ◌⊎◌, inl, inr, ℕ, ◌≤◌, ◌<◌, ◌++◌, arith, refl, ap, ◌∙◌, length, append-nil, Option, Some, None, true, false, List, nat_le}
use Rattle.run_reports.proofs.Names.{Giving, Rose, Entries, Report, read_fault, text_too_long, line_refused, Run, LeadsFromText, failed, wanting, long, refused, read, LeadsWithBound, beyond, within, of_reading, of_text, Consumes, IsAtEnd}
use Rattle.tensor_text.specs.Grammar as grammar
use Rattle.run_reports.proofs.StatusLemmas.{IsOther, status_of}

-- no report that a text leads to is that of a refused word
pub other_text : (next : Entries → Report → Type 0) (old new : Giving) (report : Report) → ((t : Entries) (r : Report) → next t r → IsOther r)
    → LeadsFromText next old new report → report.status ≢ 2
unfolding read_fault text_too_long line_refused
other_text next old new report other (failed rose e) h = omega (arith, status_of e)
other_text next old new report other (wanting kept e) h = omega (arith, status_of e)
other_text next old new report other (long kept text consumed len e) h = omega (arith, status_of e)
other_text next old new report other (refused kept text n kind consumed whole e) h = omega (arith, status_of e)
other_text next old new report other (read kept text t consumed whole leads) h = (other t report leads).0 h

pub other_bound : (X : ℕ) (next : Entries → Report → Type 0) (old new : Giving) (report : Report) → ((t : Entries) (r : Report) → next t r → IsOther r)
    → LeadsWithBound X next old new report → report.status ≢ 2
other_bound X next old new report other (beyond outside same e) h = omega (arith, status_of e)
other_bound X next old new report other (within bounded leads) h = other_text next old new report other leads h

-- the source's bytes where it tells them, else those that were read
abbrev pub source_or : Option (List ℕ) → List ℕ → List ℕ
source_or None text = text
source_or (Some source) text = source

pub told_source : (left : Option (List ℕ)) (text source : List ℕ) → left ≡ Some source → source_or left text ≡ source
told_source None text source e = cc
told_source (Some xs) text source e = cc

-- they are those that were read, where the source was read to its end
pub ended : (text : List ℕ) (left left' : Option (List ℕ)) → Consumes left left' text → IsAtEnd left' → source_or left text ≡ text
ended text None left' c a = refl
ended text (Some xs) None c a = absurd c
ended text (Some xs) (Some ys) c a = c ∙ ap (λ l. text ++ l) a ∙ append-nil text

-- and else no fewer
pub no_longer : (text : List ℕ) (left left' : Option (List ℕ)) → Consumes left left' text → length text ≤ length (source_or left text)
no_longer text None left' c = omega arith
no_longer text (Some xs) None c = absurd c
no_longer text (Some xs) (Some ys) c =
    let l : length xs ≡ length (text ++ ys) = ap length c in
    omega (arith, l, Rattle.std.proofs.Common.length-append text ys)

pub of_short : (next : Entries → Report) (text : List ℕ) → length text ≤ 1048576 → of_text next text ≡ of_reading next (grammar.reading_of text)
unfolding of_text
of_short next text h = let e : nat_le (length text) 1048576 ≡ true = grind arith in rw e refl

pub of_long : (next : Entries → Report) (text : List ℕ) → 1048576 < length text → of_text next text ≡ text_too_long
unfolding of_text
of_long next text h = let e : nat_le (length text) 1048576 ≡ false = grind arith in rw e refl

-- the source's part of a job with a text
pub text_source : (run : Run) (next : Entries → Report → Type 0) (report : Report) → ((t : Entries) (r : Report) → next t r → IsOther r)
    → LeadsFromText next run.source_before run.source_after report
    → (report.status ≡ 8 → Rose run.source_before.faults run.source_after.faults) × ((run.source_after.faults ≡ run.source_before.faults) ⊎ (report.status ≡ 8))
unfolding read_fault text_too_long line_refused
text_source run next report other (failed rose e) = (λ h. rose, inr (ap (λ (r : Report). r.status) e))
text_source run next report other (wanting kept e) = (λ h. absurd (omega (arith, ap (λ (r : Report). r.status) e)), inl kept)
text_source run next report other (long kept text consumed len e) = (λ h. absurd (omega (arith, ap (λ (r : Report). r.status) e)), inl kept)
text_source run next report other (refused kept text n kind consumed whole e) = (λ h. absurd (omega (arith, ap (λ (r : Report). r.status) e)), inl kept)
text_source run next report other (read kept text t consumed whole leads) = (λ h. absurd ((other t report leads).1 h), inl kept)
