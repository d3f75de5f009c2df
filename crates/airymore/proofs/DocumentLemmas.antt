-- What the document of a structure's table says of the solutions.
use Rattle.std.proofs.Common.{◌≡◌, ◌≢◌, ◌⊎◌, inl, inr, ℕ, suc, ◌<◌, ◌≤◌, refl, sym, ap, ap₂, ◌∙◌, subst, arith, length, List, [], ◌∷◌, get_or, map, Option, Some, None, true, false, IsTrue}
use Rattle.run_reports.proofs.Names.{Taking, BelowDimLaw, planned, PlanLaw, key_at, ℚ, 0ℚ, Tensors, OwnTensorsLaw, Structure, IsSound, IsSolutionOf, letter_value, planned_tensors, tensors_at, NoOrdersLaw, Verdict, Closed, verdict, Entries, looked_up, AreSound, Planning, tensors_of, keys_of, Outcome, outcomes, full_table, value_of, value_of_cell, JobUniquenessLaw, Shown, series_with, SameTablesLaw, is_bound, MakeErr, Names, Report, Ends, EndsOrWants, bound_refused, out_of_memory, EndsBy, relations_report, of_relations, closed, in_place, formed_stored, verdict_of, ArePlanned, making_error, making_over, table_report, making_report, AreClosed, text_structure, HasTwoOrders}
use Rattle.amp_terms.specs.declared.Outcome.TheVariants.{Value, Blocked}
use Rattle.amp_terms.specs.declared.Outcome.TheVariants as outcome
use Rattle.airymore.proofs.Words.{length-outcomes, Kind, named, text, kind_text, as_table, JobLaws, shown_value, values_found, ends_by, IsPlain, plain_of, plain_table, status_of, refused_bound, stood_report, text_planned, text_stored, text_never, unsolvable_of, family_sound, whole_step, Said, text_sound, own_of, fails_by, structure_of_kind, table_document, json_report, text_document, ValuesHeadline, DocumentHeadline, LeadsToDocument, LeadsToTextDocument, stored_document, plan_document}
use Rattle.named_families.specs.declared.petersson.MakeErr.TheVariants as make
use Rattle.airy_json.specs.Document.{document_text, values_in}
use Rattle.airy_json.specs.Verified.{job_series}
use Rattle.airy_json.proofs.GivenLemmas.{length-table, value_listed}
use Rattle.run_reports.proofs.FormLemmas.{place_other, place_whole, place_status, plain_place}

pub plain_json : (kind : Kind) (X : ℕ) → IsPlain (json_report kind X)
unfolding json_report
plain_json kind X = plain_place _ _ (plain_table (structure_of_kind kind) X)

pub plain_text_document : (X : ℕ) (t : Entries) → IsPlain (text_document X t)
unfolding text_document
plain_text_document X t = plain_of t (json_report (text t) X) (plain_json (text t) X)

-- ---- what the values say

-- outcomes that all are Values are the table of these
all_values : (os : List Outcome) → ((r : ℕ) → r < length os → (w : ℚ) × (get_or os r outcome.Over ≡ Value w)) → os ≡ as_table (values_in (map Some os))
unfolding as_table values_in value_of_cell value_of
all_values [] h = refl
all_values (o ∷ os) h = by o (h 0 (omega arith)) (all_values os (λ r l. h (suc r) (omega arith)))
  where
    by : (o : Outcome) → (w : ℚ) × (o ≡ Value w) → os ≡ as_table (values_in (map Some os)) → (o ∷ os) ≡ as_table (values_in (map Some (o ∷ os)))
    by (Value v) k e = ap (λ t. Value v ∷ t) e
    by outcome.Over k e = let n : outcome.Over ≡ Value k.0 = k.1 in cc
    by (Blocked r) k e = let n : Blocked r ≡ Value k.0 = k.1 in cc

-- Values that are a structure's outcomes have the headline, where the table's series is a solution.
pub values_headline : JobUniquenessLaw → PlanLaw → (s : Structure) (X : ℕ) → IsSound s → 0 < X → (vs : List ℚ) → outcomes (planned_tensors s X) X ≡ as_table vs
    → ((m : ℕ) (v : ℚ) → (planned_tensors s X).dim ≤ m → IsSolutionOf s X m v (series_with (letter_value s v) (planned_tensors s X) X (outcomes (planned_tensors s X) X)))
    → ValuesHeadline s X vs
unfolding job_series
values_headline unique once s X sound some vs same solution = record {
  whole = long;
  shown = λ r h. shown_value s X X (λ m u f wide so. unique s X sound some m u f (record { wide = wide; solves = so })) (key_at (planned T X) r) (get_or vs r 0ℚ)
      (ap (λ n. get_or (outcomes T X) n outcome.Over) ((once T X).once r (omega (arith, h, long))) ∙ ap (λ t. get_or t r outcome.Over) same ∙ value_listed vs r 0ℚ h);
  unique = λ m v f so. subst (λ t. Shown X (letter_value s v) T (tensors_at s m v) t f) same (unique s X sound some m v f so);
  solution = λ m v w. subst (λ t. IsSolutionOf s X m v (series_with (letter_value s v) T X t)) same (solution m v w);
}
  where
    T : Tensors
    T = planned_tensors s X

    long : length vs ≡ length (planned T X)
    long = sym (length-table vs) ∙ ap (λ t. length t) (sym same) ∙ length-outcomes T X

-- ---- the document of a kind

pub kind_sound : (kind : Kind) → ((t : Entries) → kind ≡ text t → AreSound t) → IsSound (structure_of_kind kind)
unfolding structure_of_kind
kind_sound (named family) h = family_sound family
kind_sound (text t) h = text_sound t (h t refl)

module _ (laws : JobLaws) (kind : Kind) (X : ℕ) (sound : IsSound (structure_of_kind kind)) where
  abbrev s : Structure
  s = structure_of_kind kind

  document_headline : (json_report kind X).status ≡ 0 → DocumentHeadline kind X (json_report kind X).bytes
  unfolding json_report table_document full_table verdict_of
  document_headline e =
      let is_0 : (table_report s X).status ≡ 0 = sym (place_status _ (table_report s X)) ∙ e in
      let w = whole_step s X is_0 in
      let T : Tensors = planned_tensors s X in
      record {
        values = values_in (full_table T X);
        bytes_are = ap (λ (r : Report). r.bytes) (place_whole _ (table_report s X) is_0);
        headline = values_headline laws.unique laws.planned s X sound w.0 (values_in (full_table T X))
            (all_values (outcomes T X) (λ r h. values_found T X w.1 r (omega (arith, h, length-outcomes T X))))
            ((laws.checked s X sound w.0).solved w.1);
      }

  document_unsolvable : (json_report kind X).status ≡ 7 → HasTwoOrders (structure_of_kind kind) X (json_report kind X).bytes
  unfolding json_report
  document_unsolvable e =
      let is_7 : (table_report s X).status ≡ 7 = sym (place_status _ (table_report s X)) ∙ e in
      subst (λ (r : Report). HasTwoOrders s X r.bytes) (sym (place_other _ (table_report s X) (λ z. omega (arith, z, is_7)))) (unsolvable_of laws s X sound is_7)

  pub document_leads : (all : Report) → json_report kind X ≡ all → LeadsToDocument kind X all (json_report kind X)
  document_leads all same = record { said = inl same; headline = document_headline; unsolvable = document_unsolvable }

-- another report, that is neither that of a document nor that of two orders that differ
pub other_document : (kind : Kind) (X : ℕ) (all report : Report) → (report ≡ all) ⊎ (IsTrue (is_bound X) × (report ≡ out_of_memory)) → report.status ≢ 0 → report.status ≢ 7
    → LeadsToDocument kind X all report
other_document kind X all report said not_0 not_7 = record { said = said; headline = λ h. absurd (not_0 h); unsolvable = λ h. absurd (not_7 h) }

-- ---- what the code's parts write

-- stored tensors, in the words of a form
pub formed_document : (kind : List ℕ) (t : Entries) (X : ℕ) → formed_stored (plan_document kind) t X ≡ stored_document kind t X
unfolding stored_document tensors_of
formed_document kind t X = refl

-- the document of a whole table, in the words of a form
pub document_written : (kind : List ℕ) (p : Planning) (table : List (Option Outcome)) → table ≡ full_table (tensors_of p) p.bound
    → document_text kind p.bound (keys_of p) (values_in table) ≡ plan_document kind p
unfolding table_document keys_of
document_written kind p table full = ap (λ t. document_text kind p.bound (planned (tensors_of p) p.bound) (values_in t)) full

-- the document of stored tensors that are a family's
pub stood_document : (kind : Kind) (t : Entries) (X : ℕ) → PlanLaw → BelowDimLaw → SameTablesLaw → is_bound X ≡ true → making_over (structure_of_kind kind) X ≡ None → ArePlanned t (structure_of_kind kind) X
    → json_report kind X ≡ stored_document (kind_text kind) t X
unfolding json_report stored_document table_document full_table
stood_document kind t X once below tables bounded made stored =
    ap₂ in_place
    (sym (ap₂ (λ keys (os : List Outcome). document_text (kind_text kind) X keys (values_in (map Some os))) ((below (looked_up t) T stored.entries).plan X) (tables (looked_up t) T stored.entries X).outcomes))
    (stood_report s t X once below tables bounded made stored)
  where
    s : Structure
    s = structure_of_kind kind

    T : Tensors
    T = planned_tensors s X

-- that of a text's own tensors
pub text_stands : (t : Entries) (X : ℕ) → is_bound X ≡ true → json_report (text t) X ≡ stored_document (kind_text (text t)) t X
unfolding json_report stored_document structure_of_kind
text_stands t X bounded = ap₂ in_place (ap (λ (T : Tensors). table_document (kind_text (text t)) T X) (text_planned t X)) (text_stored t X bounded)

-- where a family's tensors aren't made
made_not : (s : Structure) (X : ℕ) (why : MakeErr) → is_bound X ≡ true → Names why (making_over s X) → ((making_error why ≡ table_report s X) × (making_error why).status ≢ 0) ⊎ (making_error why ≡ out_of_memory)
unfolding making_error making_report table_report Names
made_not s X (make.Over k) bounded e = inl (rw (bounded, e) refl, λ z. omega (arith, z))
made_not s X make.NoMemory bounded e = inr refl

pub document_error : (kind : Kind) (X : ℕ) (why : MakeErr) (before now : Taking) (result : ℕ) → is_bound X ≡ true → Names why (making_over (structure_of_kind kind) X)
    → Ends (making_error why) before now result → EndsOrWants (json_report kind X) before now result
unfolding json_report
document_error kind X why before now result bounded e h =
    ends_by (json_report kind X) (making_error why) before now result (by (made_not (structure_of_kind kind) X why bounded e)) h
  where
    bytes : List ℕ
    bytes = table_document (kind_text kind) (planned_tensors (structure_of_kind kind) X) X

    by : ((making_error why ≡ table_report (structure_of_kind kind) X) × (making_error why).status ≢ 0) ⊎ (making_error why ≡ out_of_memory)
        → (making_error why ≡ in_place bytes (table_report (structure_of_kind kind) X)) ⊎ (making_error why ≡ out_of_memory)
    by (inl k) = inl (sym (place_other bytes (making_error why) k.1) ∙ ap (in_place bytes) k.0)
    by (inr k) = inr k

-- a bound that is refused
pub document_bound : (kind : Kind) (X : ℕ) → is_bound X ≡ false → json_report kind X ≡ bound_refused X
unfolding json_report
document_bound kind X h = ap (in_place _) (refused_bound (structure_of_kind kind) X h) ∙ place_other _ (bound_refused X) (λ z. omega (arith, z))

-- ---- what the command ends with

-- of a family
pub family_ends : JobLaws → (kind : Kind) → IsSound (structure_of_kind kind) → (X : ℕ) (w w' : Taking) (status : ℕ)
    → Ends (json_report kind X) w w' status ⊎ (IsTrue (is_bound X) × Ends out_of_memory w w' status) → EndsBy (LeadsToDocument kind X (json_report kind X)) w w' status
family_ends laws kind sound X w w' status (inl e) = (json_report kind X, document_leads laws kind X sound (json_report kind X) refl, e)
family_ends laws kind sound X w w' status (inr e) =
    (out_of_memory, other_document kind X (json_report kind X) out_of_memory (inr (e.0, refl)) (λ h. omega arith) (λ h. omega arith), e.1)

-- the laws on the document of a text whose relations hold
pub record DocumentLaws : Type 0 where
  pub jobs : JobLaws
  pub own : OwnTensorsLaw
  pub orders : NoOrdersLaw

module _ (t : Entries) (X : ℕ) (w w' : Taking) (status : ℕ) where
  abbrev next : Report
  next = json_report (text t) X

  document_never : NoOrdersLaw → AreSound t → AreClosed t → (json_report (text t) X).status ≢ 7
  unfolding json_report structure_of_kind
  document_never law sound close e = text_never law t X sound close.own (sym (place_status _ (table_report (text_structure t) X)) ∙ e)

  -- where the relations hold
  pub closed_document : DocumentLaws → AreSound t → is_bound X ≡ true → Closed ≡ verdict (looked_up t) t.dim → AreClosed t
      → EndsOrWants (stored_document (kind_text (text t)) t X) w w' status → EndsBy (LeadsToTextDocument X t) w w' status
  unfolding relations_report of_relations text_document structure_of_kind
  closed_document laws sound bounded found close (inl e) =
      let same : next ≡ of_relations t next = ap (λ v. relations_report v next) found in (
        next,
        record {
          document = document_leads laws.jobs (text t) X (text_sound t sound) (of_relations t next) same;
          own = own_of laws.own X t;
          accepted = λ h. close;
          never = document_never laws.orders sound close;
        },
        subst (λ r. Ends r w w' status) (sym (text_stands t X bounded)) e,
      )
  closed_document laws sound bounded found close (inr e) = (
    out_of_memory,
    record {
      document = other_document (text t) X (of_relations t next) out_of_memory (inr (bounded, refl)) (λ h. omega arith) (λ h. omega arith);
      own = own_of laws.own X t;
      accepted = λ h. close;
      never = λ h. omega (arith, h);
    },
    e,
  )

  -- and where they fail first
  pub fails_document : OwnTensorsLaw → (v : Verdict) → v ≡ verdict (looked_up t) t.dim → (v ≡ Closed → ⊥) → Ends (relations_report v closed) w w' status → EndsBy (LeadsToTextDocument X t) w w' status
  unfolding text_document
  fails_document own v found fails e = fails_by t next w w' status v found fails (λ r said low high. record {
    document = other_document (text t) X (of_relations t next) r (inl said) (λ h. omega (arith, h, low)) (λ h. omega (arith, h, high));
    own = own_of own X t;
    accepted = λ h. absurd (omega (arith, h, low));
    never = λ h. omega (arith, h, high);
  }) e

-- ---- a document's report is that of its kind, or want of memory

pub json_said : (kind : Kind) (X : ℕ) → Said (LeadsToDocument kind X (json_report kind X)) (json_report kind X) (IsTrue (is_bound X))
json_said kind X = record { plain = plain_json kind X; said = λ r leads. leads.said }

pub text_document_said : (X : ℕ) (t : Entries) → Said (LeadsToTextDocument X t) (text_document X t) (IsTrue (is_bound X))
text_document_said X t = record { plain = plain_text_document X t; said = λ r leads. leads.document.said }
