-- What `verify` says of the source and of the solutions.
use Rattle.std.proofs.Common.{◌≡◌, ◌≢◌, inl, inr, ℕ, ◌<◌, refl, sym, ap, ◌∙◌, subst, arith, length, List, true, nat_lt, Ok, Err}
use Rattle.airy_math.specs.declared.Family.TheVariants as family
use Rattle.amp_plan.specs.declared.cause.PlanCause.TheVariants as plan_cause
use Rattle.airy_json.specs.Reading.{Kind, named, text, AreOfKind, kind_tensors, Answer, Long, NoJson, BadForm, BadKind, BadBound, Unmade, Unplanned, BadCell, Gives, answer_of}
use Rattle.airymore.proofs.Words.{Giving, Taking, BelowDimLaw, Key, letter_of, Solves, planned, PlanLaw, ℚ, Tensors, SameEntries, Structure, IsSound, IsSolutionOf, letter_value, planned_tensors, Entries, looked_up, AreSound, Planning, tensors_of, keys_of, Limit, Within, PassesBound, PassesCells, PassesNeeds, JobUniquenessLaw, series_with, Report, Ends, out_of_memory, Run, structure_of, cause_report, read_fault, text_too_long, AnswersBy, Consumes, verified, SourceAnswers, answers_from_report, entries_self, text_planned, IsPlain, IsOther, plain_other, status_of, structure_of_kind}
use Rattle.airy_json.specs.Given.{IsGiven, IsWhole, ReadsDocument, HasCause}
use Rattle.airy_json.specs.declared.reading.Given.{Given}
use Rattle.airy_json.specs.declared.refusals.JsonErr.{JsonErr}
use Rattle.airy_json.specs.declared.refusals.JsonErr.TheVariants as json
use Rattle.airy_json.specs.declared.verify_ends.VerifyEnd.{VerifyEnd}
use Rattle.airy_json.specs.declared.verify_ends.VerifyEnd.TheVariants.{Solution, Over, Differs}
use Rattle.airy_json.specs.Verified.{AreNoSolution, JobVerified, JobVerifiedLaw, SameVerifiedLaw, job_series, values_series}
use Rattle.run_reports.proofs.CauseLemmas.{Stands, is_meant, at_fault, is_wanting}
use Rattle.run_reports.proofs.SourceLemmas.{source_or, told_source, ended, no_longer}
use Rattle.airymore.specs.Verify.{verified_report, limit_report, answer_report, verify_report, GivesSolution, GivesNoSolution, LeadsToVerified, LeadsFromDocument, failed, wanting, long, whole, EndsOfDocument, error_report}
use Rattle.airymore.proofs.DocumentLemmas.{kind_sound, values_headline}

-- ---- statuses

plain_end : (e : VerifyEnd) → IsPlain (verified_report e)
unfolding verified_report
plain_end Solution = record { is = inl refl }
plain_end (Over key i) = record { is = inr (omega arith, omega arith) }
plain_end (Differs key i v w) = record { is = inr (omega arith, omega arith) }

plain_limit : (l : Limit) → IsPlain (limit_report l)
unfolding limit_report
plain_limit Within = record { is = inr (omega arith, omega arith) }
plain_limit PassesBound = record { is = inr (omega arith, omega arith) }
plain_limit (PassesCells level) = record { is = inr (omega arith, omega arith) }
plain_limit (PassesNeeds key) = record { is = inr (omega arith, omega arith) }

pub plain_answer : (a : Answer) → IsPlain (answer_report a)
unfolding answer_report text_too_long
plain_answer Long = record { is = inr (omega arith, omega arith) }
plain_answer NoJson = record { is = inr (omega arith, omega arith) }
plain_answer BadForm = record { is = inr (omega arith, omega arith) }
plain_answer BadKind = record { is = inr (omega arith, omega arith) }
plain_answer (BadBound n) = record { is = inr (omega arith, omega arith) }
plain_answer (Unmade k) = record { is = inr (omega arith, omega arith) }
plain_answer (Unplanned l) = plain_limit l
plain_answer (BadCell place) = record { is = inr (omega arith, omega arith) }
plain_answer (Gives kind X vs) = plain_end (verified (kind_tensors kind X) X vs)

pub plain_verify : (bytes : List ℕ) → IsPlain (verify_report bytes)
unfolding verify_report
plain_verify bytes = plain_answer (answer_of bytes)

other_verified : (a : Answer) (r : Report) → LeadsToVerified a r → IsOther r
other_verified a r leads = subst IsOther (sym leads.said) (plain_other (plain_answer a))

-- ---- the source

pub no_word : (old new : Giving) (r : Report) → LeadsFromDocument old new r → r.status ≢ 2
unfolding read_fault text_too_long
no_word old new r (failed rose e) h = omega (arith, status_of e)
no_word old new r (wanting kept e) h = omega (arith, status_of e)
no_word old new r (long kept bytes consumed len e) h = omega (arith, status_of e)
no_word old new r (whole kept bytes consumed end short led) h = (other_verified (answer_of bytes) r led).0 h

pub answers_of_document : {no_text : Type 0} (run : Run) → (no_text → ⊥) → EndsOfDocument run.source_before run.source_after run.sink_before run.sink_after run.status
    → AnswersBy (LeadsFromDocument run.source_before run.source_after) no_text run
unfolding read_fault text_too_long
answers_of_document {no_text} run none ends = answers_from_report run ends.0 ends.1 (source ends.1) ends.2
  where
    source : LeadsFromDocument run.source_before run.source_after ends.0 → SourceAnswers no_text run ends.0
    source (failed rose e) = record { cause = λ h. rose; seen = inr (status_of e); untouched = λ h. absurd (none h) }
    source (wanting kept e) = record { cause = λ h. absurd (omega (arith, status_of e, h)); seen = inl kept; untouched = λ h. absurd (none h) }
    source (long kept bytes consumed len e) = record { cause = λ h. absurd (omega (arith, status_of e, h)); seen = inl kept; untouched = λ h. absurd (none h) }
    source (whole kept bytes consumed end short led) = record { cause = λ h. absurd ((other_verified (answer_of bytes) ends.0 led).1 h); seen = inl kept; untouched = λ h. absurd (none h) }

long_report : (bytes : List ℕ) → 16777216 < length bytes → verify_report bytes ≡ text_too_long
unfolding verify_report answer_of answer_report
long_report bytes h = let e : nat_lt 16777216 (length bytes) ≡ true = grind arith in rw e refl

pub document_stands : (run : Run) {means : List ℕ → Report → Type 0} {wants : Report → Type 0} → ((bytes : List ℕ) (r : Report) → r ≡ verify_report bytes → means bytes r) → wants out_of_memory
    → (report : Report) → LeadsFromDocument run.source_before run.source_after report → Stands run means wants report
unfolding read_fault verify_report
document_stands run is memory report (failed rose e) = at_fault (status_of e) rose
document_stands run {means} {wants} is memory report (wanting kept e) = is_wanting (subst wants (sym e) memory)
document_stands run is memory report (long kept bytes consumed len e) =
    is_meant (source_or run.source_before.left bytes) (told_source run.source_before.left bytes)
    (is _ report (e ∙ sym (long_report _ (omega (arith, len, no_longer bytes run.source_before.left run.source_after.left consumed)))))
document_stands run is memory report (whole kept bytes consumed end short led) =
    is_meant (source_or run.source_before.left bytes) (told_source run.source_before.left bytes)
    (is _ report (led.said ∙ ap (λ b. answer_report (answer_of b)) (sym (ended bytes run.source_before.left run.source_after.left consumed end))))

-- ---- the plan that is given

-- the plan's tensors are the kind's, as far as their indices go
same_entries : (kind : Kind) (X : ℕ) (u : Entries) → AreOfKind kind X u → SameEntries (looked_up u) (kind_tensors kind X)
unfolding AreOfKind kind_tensors
same_entries (named family.Wk) X u h = h.entries
same_entries (named family.Bgw) X u h = h.entries
same_entries (named family.Wp) X u h = h.entries
same_entries (text t) X u h = subst (λ (x : Entries). SameEntries (looked_up u) (looked_up x)) h (entries_self (looked_up u))

-- the kind's tensors are those of its structure's plan
kind_planned : (kind : Kind) (X : ℕ) → kind_tensors kind X ≡ planned_tensors (structure_of_kind kind) X
unfolding kind_tensors structure_of_kind structure_of planned_tensors
kind_planned (named family.Wk) X = refl
kind_planned (named family.Bgw) X = refl
kind_planned (named family.Wp) X = refl
kind_planned (text t) X = sym (text_planned t X)

-- ---- what an end says

-- the laws on a document's values
pub record VerifyLaws : Type 0 where
  pub planned : PlanLaw
  pub below : BelowDimLaw
  pub unique : JobUniquenessLaw
  pub job : JobVerifiedLaw
  pub same : SameVerifiedLaw

plan_sound : (kind : Kind) (p : Planning) → AreOfKind kind p.bound p.tensors → AreSound p.tensors → IsSound (structure_of_kind kind)
unfolding AreOfKind
plan_sound (named f) p of sound = kind_sound (named f) (λ t e. cc)
plan_sound (text t) p of sound = kind_sound (text t) (λ u e. let same : t ≡ u = cc in subst AreSound (of ∙ same) sound)

module _ (laws : VerifyLaws) (p : Planning) (vs : List ℚ) (bytes : List ℕ) (sound : AreSound p.tensors) (given : IsGiven p vs (answer_of bytes)) where
  abbrev kind : Kind
  kind = given.kind

  abbrev s : Structure
  s = structure_of_kind given.kind

  of_kind : AreOfKind given.kind p.bound p.tensors
  of_kind = given.plan_of.tensors_are

  same_keys : keys_of p ≡ planned (kind_tensors given.kind p.bound) p.bound
  unfolding keys_of tensors_of
  same_keys = (laws.below (looked_up p.tensors) (kind_tensors kind p.bound) (same_entries kind p.bound p.tensors of_kind)).plan p.bound

  full : length vs ≡ length (planned (kind_tensors given.kind p.bound) p.bound)
  full = given.one_each ∙ ap (λ (ks : List Key). length ks) same_keys

  same_end : verified (tensors_of p) p.bound vs ≡ verified (kind_tensors given.kind p.bound) p.bound vs
  unfolding tensors_of
  same_end = laws.same (looked_up p.tensors) (kind_tensors kind p.bound) (same_entries kind p.bound p.tensors of_kind) p.bound vs

  checked : JobVerified (structure_of_kind given.kind) p.bound vs
  checked = laws.job s p.bound (plan_sound kind p of_kind sound) given.some vs (full ∙ ap (λ (T : Tensors). length (planned T p.bound)) (kind_planned kind p.bound))

  end_planned : verified (kind_tensors given.kind p.bound) p.bound vs ≡ verified (planned_tensors (structure_of_kind given.kind) p.bound) p.bound vs
  end_planned = ap (λ (T : Tensors). verified T p.bound vs) (kind_planned kind p.bound)

  solution_given : verified (kind_tensors given.kind p.bound) p.bound vs ≡ Solution → GivesSolution (answer_of bytes)
  unfolding job_series
  solution_given e =
      let found = sym end_planned ∙ e in
      let is = checked.here.solution found in
      record {
        kind = kind;
        bound = p.bound;
        values = vs;
        gives = given.gives;
        headline = values_headline laws.unique laws.planned s p.bound (plan_sound kind p of_kind sound) given.some vs is.table
            (λ m v w. subst (λ t. IsSolutionOf s p.bound m v (series_with (letter_value s v) (planned_tensors s p.bound) p.bound t)) (sym is.table) (checked.solved found m v w));
      }

  none_given : (key : Key) (i : ℕ) (a b : ℚ) → verified (kind_tensors given.kind p.bound) p.bound vs ≡ Differs key i a b → GivesNoSolution (answer_of bytes) (verified_report (Differs key i a b)).bytes
  none_given key i a b e =
      let found = sym end_planned ∙ e in
      record {
        kind = kind;
        bound = p.bound;
        values = vs;
        gives = given.gives;
        key = key;
        pivot = i;
        sum = a;
        given = b;
        named = refl;
        found = e;
        nowhere = subst (λ (T : Tensors). AreNoSolution s p.bound (letter_of T.shape key) vs) (sym (kind_planned kind p.bound)) (checked.nowhere key i a b found);
        planned_too = subst (λ (T : Tensors). Solves T p.bound (values_series T p.bound vs) → ⊥) (sym (kind_planned kind p.bound)) (checked.here.no_solution key i a b found);
      }

  end_leads : (e : VerifyEnd) → verified (kind_tensors given.kind p.bound) p.bound vs ≡ e → LeadsToVerified (answer_of bytes) (verified_report e)
  unfolding answer_report verified_report
  end_leads e is = record { said = sym (ap answer_report given.gives ∙ ap verified_report is); solved = zero_of e is; unsolved = seven_of e is }
    where
      zero_of : (e : VerifyEnd) → verified (kind_tensors given.kind p.bound) p.bound vs ≡ e → (verified_report e).status ≡ 0 → GivesSolution (answer_of bytes)
      zero_of Solution is h = solution_given is
      zero_of (Over key i) is h = absurd (omega (arith, h))
      zero_of (Differs key i a b) is h = absurd (omega (arith, h))

      seven_of : (e : VerifyEnd) → verified (kind_tensors given.kind p.bound) p.bound vs ≡ e → (verified_report e).status ≡ 7 → GivesNoSolution (answer_of bytes) (verified_report e).bytes
      seven_of Solution is h = absurd (omega (arith, h))
      seven_of (Over key i) is h = absurd (omega (arith, h))
      seven_of (Differs key i a b) is h = none_given key i a b is

  pub given_leads : LeadsToVerified (answer_of bytes) (verified_report (verified (tensors_of p) p.bound vs))
  given_leads = subst (λ e. LeadsToVerified (answer_of bytes) (verified_report e)) (sym same_end) (end_leads _ refl)

-- ---- what the command ends with

-- a document that gives values
pub given_ends : (old new : Giving) (w w' : Taking) (status : ℕ) (laws : VerifyLaws) (given : Given) → AreSound given.plan.tensors
    → ReadsDocument old new (Ok given) → HasCause {T = Given} old.faults new.faults (Ok given)
    → Ends (verified_report (verified (tensors_of given.plan) given.plan.bound given.values.items)) w w' status → EndsOfDocument old new w w' status
given_ends old new w w' status laws given sound reads cause e = (
  verified_report (verified (tensors_of given.plan) given.plan.bound given.values.items),
  whole (cause.kept (λ h. cc)) reads.bytes reads.consumed reads.tells.ended reads.tells.short (given_leads laws given.plan given.values.items reads.bytes sound reads.tells.said),
  e,
)

-- and one that gives none: its answer is refused
refused_ends : (old new : Giving) (w w' : Taking) (status : ℕ) (bytes : List ℕ) (a : Answer) {why : JsonErr} → new.faults ≡ old.faults → Consumes old.left new.left bytes
    → IsWhole bytes new.left (Err why) → answer_of bytes ≡ a → (answer_report a).status ≢ 0 → (answer_report a).status ≢ 7 → Ends (answer_report a) w w' status → EndsOfDocument old new w w' status
refused_ends old new w w' status bytes a kept consumed tells said not_0 not_7 e =
    (answer_report a, whole kept bytes consumed tells.ended tells.short (record { said = ap answer_report (sym said); solved = λ h. absurd (not_0 h); unsolved = λ h. absurd (not_7 h) }), e)

pub refusal_ends : (old new : Giving) (w w' : Taking) (status : ℕ) (why : JsonErr) → ReadsDocument old new (Err why) → HasCause {T = Given} old.faults new.faults (Err why)
    → Ends (error_report why) w w' status → EndsOfDocument old new w w' status
unfolding error_report answer_report limit_report cause_report
refusal_ends old new w w' status json.ReadFault reads cause e = (read_fault, failed (cause.failed refl) refl, e)
refusal_ends old new w w' status json.TooLong reads cause e = (text_too_long, long (cause.kept (λ h. cc)) reads.bytes reads.consumed reads.tells.0 refl, e)
refusal_ends old new w w' status json.NotJson reads cause e = refused_ends old new w w' status reads.bytes NoJson (cause.kept (λ h. cc)) reads.consumed reads.tells reads.tells.said (λ h. omega arith) (λ h. omega arith) e
refusal_ends old new w w' status json.Form reads cause e = refused_ends old new w w' status reads.bytes BadForm (cause.kept (λ h. cc)) reads.consumed reads.tells reads.tells.said (λ h. omega arith) (λ h. omega arith) e
refusal_ends old new w w' status json.Kind reads cause e = refused_ends old new w w' status reads.bytes BadKind (cause.kept (λ h. cc)) reads.consumed reads.tells reads.tells.said (λ h. omega arith) (λ h. omega arith) e
refusal_ends old new w w' status (json.Bound got) reads cause e = refused_ends old new w w' status reads.bytes (BadBound got) (cause.kept (λ h. cc)) reads.consumed reads.tells reads.tells.said (λ h. omega arith) (λ h. omega arith) e
refusal_ends old new w w' status (json.Make k) reads cause e = refused_ends old new w w' status reads.bytes (Unmade k) (cause.kept (λ h. cc)) reads.consumed reads.tells reads.tells.said (λ h. omega arith) (λ h. omega arith) e
refusal_ends old new w w' status (json.Plan (plan_cause.Bound got)) reads cause e = absurd reads.tells.said
refusal_ends old new w w' status (json.Plan (plan_cause.Cells level)) reads cause e = refused_ends old new w w' status reads.bytes (Unplanned (PassesCells level)) (cause.kept (λ h. cc)) reads.consumed reads.tells reads.tells.said (λ h. omega arith) (λ h. omega arith) e
refusal_ends old new w w' status (json.Plan (plan_cause.Edges key)) reads cause e = refused_ends old new w w' status reads.bytes (Unplanned (PassesNeeds key)) (cause.kept (λ h. cc)) reads.consumed reads.tells reads.tells.said (λ h. omega arith) (λ h. omega arith) e
refusal_ends old new w w' status (json.Plan plan_cause.NoMemory) reads cause e = absurd reads.tells.said
refusal_ends old new w w' status (json.Cell place) reads cause e = refused_ends old new w w' status reads.bytes (BadCell place) (cause.kept (λ h. cc)) reads.consumed reads.tells reads.tells.said (λ h. omega arith) (λ h. omega arith) e
refusal_ends old new w w' status json.NoMemory reads cause e = (out_of_memory, wanting (cause.kept (λ h. cc)) refl, e)
