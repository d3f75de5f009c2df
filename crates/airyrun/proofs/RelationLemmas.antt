-- What a check of the relations leads to.
use Rattle.std.proofs.Common.{◌≡◌, ◌≢◌, ◌⊎◌, inl, inr, ℕ, ◌+◌, ◌*◌, ◌≤◌, min, arith, refl, ◌∙◌, subst, None, List}
use Rattle.run_reports.proofs.Names.{ℚ, Family, wp_cut, BelowDimLaw, Close, Tensors, SameEntries, Entries, looked_up, Verdict, Closed, Differs, Over, SameVerdictLaw, verdict, Names, MakeErr, Taking, Report, Ends, out_of_memory, making_report, making_error, structure_of, has_letter, IsVerdict, relations_report, closed, text_relations, EndsBy}
use Rattle.run_reports.proofs.RelationLemmas.{no_four}
use Rattle.airy_math.specs.declared.Family.TheVariants.{Wk, Bgw, Wp}
use Rattle.airy_math.specs.Named.{wk, bgw}
use Rattle.airy_relations.specs.declared.verdict.Rel.{Rel}
use Rattle.airy_relations.specs.NoDifference.{FindsNoDifference}
use Rattle.named_families.specs.Closing.{MeetsRelations, WkCloses, BgwCloses, WpCloses}
use Rattle.named_families.specs.declared.petersson.MakeErr.TheVariants as make
use Rattle.airyrun.specs.Relations.{family_tensors, family_over, family_relations}
use Rattle.airyrun.specs.Run.{LeadsToRelations, LeadsToFamilyRelations, LeadsToTextRelations}

status_closed : (v : Verdict) → (relations_report v closed).status ≡ 0 → v ≡ Closed
unfolding relations_report closed
status_closed Closed e = refl
status_closed (Differs rel place left right) e = absurd (omega arith)
status_closed (Over rel place) e = absurd (omega arith)

status_differs : (v : Verdict) → (relations_report v closed).status ≡ 4 → (rel : Rel) × (place : List ℕ) × (left : ℚ) × (right : ℚ) × (v ≡ Differs rel place left right)
unfolding relations_report closed
status_differs Closed e = absurd (omega arith)
status_differs (Differs rel place left right) e = (rel, place, left, right, refl)
status_differs (Over rel place) e = absurd (omega arith)

-- the report of a verdict
verdict_leads : (T : Tensors) (N : ℕ) → IsVerdict T N → LeadsToRelations T N (relations_report (verdict T N) closed) (relations_report (verdict T N) closed)
verdict_leads T N tells = record {
  said = inl refl;
  holds = λ e. tells.holds (status_closed (verdict T N) e);
  fails = λ e. let d = status_differs (verdict T N) e in tells.fails d.0 d.1 d.2 d.3 d.4;
}

-- another report, that is neither that of relations that hold nor that of one that fails
other_leads : (T : Tensors) (N : ℕ) (whole report : Report) → (report ≡ whole) ⊎ (report ≡ out_of_memory) → report.status ≢ 0 → report.status ≢ 4 → LeadsToRelations T N whole report
other_leads T N whole report said zero four = record { said = said; holds = λ e. absurd (zero e); fails = λ e. absurd (four e) }

-- ---- texts

pub text_ends : (t : Entries) (N places : ℕ) (w w' : Taking) (status : ℕ) → places ≡ min N t.dim → IsVerdict (looked_up t) places
    → Ends (relations_report (verdict (looked_up t) places) closed) w w' status → EndsBy (LeadsToTextRelations N t) w w' status
unfolding text_relations
text_ends t N places w w' status same tells e =
    (text_relations N t, verdict_leads (looked_up t) (min N t.dim) (subst (IsVerdict (looked_up t)) same tells), subst (λ n. Ends (relations_report (verdict (looked_up t) n) closed) w w' status) same e)

-- ---- named structures

-- the tensors have the places below n
has_places : (f : Family) (n : ℕ) → (family_tensors f n).dim ≡ 2 * n + 1
unfolding family_tensors wk bgw wp_cut
has_places Wk n = omega arith
has_places Bgw n = omega arith
has_places Wp n = omega arith

-- stored tensors of a family
pub record AreBelow (t : Entries) (f : Family) (n : ℕ) : Type 0 where
  pub entries : SameEntries (looked_up t) (family_tensors f n)
  pub letter : t.letter ≡ has_letter (structure_of f)

stored_dim : (t : Entries) (f : Family) (n : ℕ) → AreBelow t f n → t.dim ≡ 2 * n + 1
unfolding looked_up
stored_dim t f n stored = stored.entries.dim ∙ has_places f n

pub stored_places : (t : Entries) (f : Family) (n : ℕ) → AreBelow t f n → n ≤ t.dim
stored_places t f n stored = omega (arith, stored_dim t f n stored)

-- the laws on relations of stored tensors
pub record StoredLaws : Type 0 where
  pub same : SameVerdictLaw
  pub below : BelowDimLaw
  pub wk : WkCloses
  pub bgw : BgwCloses
  pub wp : WpCloses

module _ (laws : StoredLaws) (f : Family) (n : ℕ) where
  meets : (t : Entries) → AreBelow t f n → MeetsRelations t n
  unfolding family_tensors has_letter structure_of
  meets t stored = by f stored (omega (arith, stored_dim t f n stored))
    where
      by : (f : Family) → AreBelow t f n → 2 * n + 1 ≤ t.dim → MeetsRelations t n
      by Wk stored h = laws.wk t (2 * n) n (record { entries = stored.entries; letter = stored.letter }) h
      by Bgw stored h = laws.bgw t (2 * n) n (record { entries = stored.entries; letter = stored.letter }) h
      by Wp stored h = laws.wp t (2 * n + 1) (2 * n + 1) n (record { entries = stored.entries; letter = stored.letter }) h (omega arith)

  same_found : (t : Entries) → AreBelow t f n → verdict (looked_up t) n ≡ verdict (family_tensors f n) n
  unfolding looked_up
  same_found t stored = laws.same (looked_up t) (family_tensors f n) stored.entries n (stored_places t f n stored)

  family_closes : (t : Entries) → AreBelow t f n → Close (family_tensors f n) n
  unfolding looked_up
  family_closes t stored = ((laws.below (looked_up t) (family_tensors f n) stored.entries).relations n (stored_places t f n stored)).0 (meets t stored).closes

  module _ (w w' : Taking) (status : ℕ) where
    -- the check of tensors that are made
    pub family_ends : (t : Entries) → AreBelow t f n → family_over f n ≡ None → Ends (relations_report (verdict (looked_up t) n) closed) w w' status
        → EndsBy (LeadsToFamilyRelations f n) w w' status
    unfolding family_relations making_report
    family_ends t stored made e =
        let found = same_found t stored in
        let T = family_tensors f n in
        let never = no_four (verdict T n) (subst FindsNoDifference found (meets t stored).found) in
        let said : relations_report (verdict T n) closed ≡ family_relations f n = rw made refl in (
          relations_report (verdict T n) closed,
          record {
            checked = record { said = inl said; holds = λ h. family_closes t stored; fails = λ h. absurd (never h) };
            never = never;
          },
          subst (λ v. Ends (relations_report v closed) w w' status) found e,
        )

    -- tensors that are not made
    pub unmade_ends : (why : MakeErr) → Names why (family_over f n) → Ends (making_error why) w w' status → EndsBy (LeadsToFamilyRelations f n) w w' status
    unfolding family_relations making_error Names making_report
    unmade_ends (make.Over k) named e =
        let said : making_error (make.Over k) ≡ family_relations f n = rw named refl in
        (making_error (make.Over k), record { checked = other_leads (family_tensors f n) n (family_relations f n) (making_error (make.Over k)) (inl said) (λ z. omega arith) (λ z. omega arith); never = λ z. omega arith }, e)
    unmade_ends make.NoMemory named e =
        (out_of_memory, record { checked = other_leads (family_tensors f n) n (family_relations f n) out_of_memory (inr refl) (λ z. omega arith) (λ z. omega arith); never = λ z. omega arith }, e)
