-- A table that is printed without a look at its pivots has the headline.
use Rattle.std.proofs.Common.{◌≡◌, ◌≢◌, ◌⊎◌, inl, inr, ℕ, ◌<◌, refl, sym, ap, ◌∙◌, subst, arith, length, zero, suc, map, List, [], ◌∷◌, get_or, true, Option, Some, None}
use Rattle.airymore.proofs.Words.{length-outcomes, headline_by, told_cause, bound_some, text_letter, text_planned, text_sound, own_of, fails_by, plan_quick, quick_cells, quick_report, quick_table, valued_report, LeadsToQuick}
use Rattle.run_reports.proofs.Names.{ℚ, Tensors, planned, Key, PlanLaw, key_at, key_text, Close, Structure, planned_tensors, OwnTensorsLaw, Taking, Verdict, Closed, verdict, Entries, looked_up, AreSound, Limit, Within, PassesBound, PassesCells, PassesNeeds, limit, limit_of, Planning, tensors_of, PlanCause, Outcome, outcomes, has_value, first_without, full_table, next_rank, JobSolutionLaw, JobUniquenessLaw, AllPivots, EveryPivotLaw, HasValues, Report, Ends, EndsOrWants, out_of_memory, EndsBy, cause_report, over_at, plan_report, rows_text, table_text, closed, of_relations, relations_report, text_structure, whole_table, AreClosed, Headline, is_bound}
use Rattle.amp_plan.specs.Limits.{Tells}
use Rattle.amp_plan.specs.Plans as plans
use Rattle.amp_terms.specs.declared.Outcome.TheVariants.{Value, Over, Blocked}
use Rattle.series_law.specs.First.{HaveValues}
use Rattle.airy_exists.specs.Agreement.{answer_at}
use Rattle.airy_exists.specs.declared.ends.Agreed.TheVariants.{Solution, NotValue}
use Rattle.command_words.proofs.ScriptLemmas.{bound_some}
use Rattle.amp_terms.proofs.TableLemmas.{values_there}

-- ---- what the plan leads to

pub quick_of_plan : (t : Entries) (X : ℕ) (p : Planning) → p ≡ record { tensors = t; bound = X } → limit_of (record { tensors = t; bound = X }) ≡ Within → quick_table X t ≡ plan_quick p
unfolding limit_of tensors_of plan_report quick_table
quick_of_plan t X p made within =
    ap (λ l. plan_report X l (quick_cells t.letter (looked_up t) X)) within ∙ ap (λ (q : Planning). quick_cells q.tensors.letter (looked_up q.tensors) q.bound) (sym made)

pub quick_of_cause : (t : Entries) (X : ℕ) (why : PlanCause) → Tells (record { tensors = t; bound = X }) why → (cause_report why ≡ quick_table X t) ⊎ (cause_report why ≡ out_of_memory)
unfolding limit_of tensors_of quick_table
quick_of_cause t X why tells = told_cause (record { tensors = t; bound = X }) why (quick_cells t.letter (looked_up t) X) tells

-- ---- what the answer on a filled table leads to

pub found_value : (p : Planning) (table : List (Option Outcome)) (key : Key) → table ≡ full_table (tensors_of p) p.bound → NotValue key ≡ answer_at p (first_without table)
    → plan_quick p ≡ over_at (key_text key)
unfolding quick_cells answer_at valued_report plans.key_at plans.keys_of
found_value p table key whole e = ap (λ t. valued_report p.tensors.letter (tensors_of p) p.bound (first_without t)) (sym whole) ∙ by (first_without table) e
  where
    by : (o : Option ℕ) → NotValue key ≡ answer_at p o → valued_report p.tensors.letter (tensors_of p) p.bound o ≡ over_at (key_text key)
    by None e = let clash : NotValue key ≡ Solution = e in cc
    by (Some r) e = let same : NotValue key ≡ NotValue (key_at (planned (tensors_of p) p.bound) r) = e in let k : key ≡ key_at (planned (tensors_of p) p.bound) r = cc in ap (λ k. over_at (key_text k)) (sym k)

pub found_whole : (p : Planning) (table : List (Option Outcome)) → table ≡ full_table (tensors_of p) p.bound → Solution ≡ answer_at p (first_without table)
    → plan_quick p ≡ record { status = 0; bytes = table_text p table }
unfolding quick_cells answer_at valued_report plans.keys_of tensors_of looked_up
found_whole p table whole e =
    ap (λ t. valued_report p.tensors.letter (tensors_of p) p.bound (first_without t)) (sym whole) ∙ by (first_without table) e
    ∙ ap (λ (t : List (Option Outcome)). record { status = 0; bytes = rows_text p.tensors.letter p.tensors.shape (planned (tensors_of p) p.bound) t }) (sym whole)
  where
    by : (o : Option ℕ) → Solution ≡ answer_at p o
        → valued_report p.tensors.letter (tensors_of p) p.bound o ≡ record { status = 0; bytes = rows_text p.tensors.letter (tensors_of p).shape (planned (tensors_of p) p.bound) (full_table (tensors_of p) p.bound) }
    by None e = refl
    by (Some r) e = let clash : Solution ≡ NotValue (plans.key_at p r) = e in cc

-- ---- the headline

-- the laws that it rests on
pub record QuickLaws : Type 0 where
  pub unique : JobUniquenessLaw
  pub solution : JobSolutionLaw
  pub planned : PlanLaw
  pub pivots : EveryPivotLaw
  pub own : OwnTensorsLaw

module _ (t : Entries) (X : ℕ) where
  abbrev s : Structure
  s = text_structure t

  lines_are : whole_table s X ≡ rows_text t.letter (looked_up t).shape (planned (looked_up t) X) (full_table (looked_up t) X)
  unfolding whole_table
  lines_are =
      ap (λ b. rows_text b (planned_tensors s X).shape (planned (planned_tensors s X) X) (full_table (planned_tensors s X) X)) (text_letter t)
      ∙ ap (λ (T : Tensors). rows_text t.letter T.shape (planned T X) (full_table T X)) (text_planned t X)

  there : first_without (full_table (looked_up t) X) ≡ None → (r : ℕ) → r < length (planned (looked_up t) X) → (w : ℚ) × (get_or (outcomes (looked_up t) X) r Over ≡ Value w)
  unfolding full_table
  there none r h = values_there (outcomes (looked_up t) X) none r (omega (arith, length-outcomes (looked_up t) X))

  values : first_without (full_table (looked_up t) X) ≡ None → HasValues (looked_up t) X
  unfolding HaveValues has_value
  values none r h = ap has_value (there none r h).1

  quick_headline : QuickLaws → AreSound t → is_bound X ≡ true → Close (looked_up t) t.dim → first_without (full_table (looked_up t) X) ≡ None
      → Headline s X (rows_text t.letter (looked_up t).shape (planned (looked_up t) X) (full_table (looked_up t) X))
  unfolding HaveValues looked_up
  quick_headline laws sound bounded close none =
      subst (Headline s X) lines_are
      (headline_by laws.unique laws.planned s X (text_sound t sound) (bound_some X bounded) planned_there (laws.solution s X (text_sound t sound) (bound_some X bounded) _ pivots))
    where
      planned_there : (r : ℕ) → r < length (planned (planned_tensors s X) X) → (w : ℚ) × (get_or (outcomes (planned_tensors s X) X) r Over ≡ Value w)
      planned_there = subst (λ (T : Tensors). (r : ℕ) → r < length (planned T X) → (w : ℚ) × (get_or (outcomes T X) r Over ≡ Value w)) (sym (text_planned t X)) (there none)

      pivots : AllPivots (planned_tensors s X) X (outcomes (planned_tensors s X) X)
      pivots = subst (λ (T : Tensors). AllPivots T X (outcomes T X)) (sym (text_planned t X)) (laws.pivots (looked_up t) sound.symmetric sound.graded close X (values none))

  -- ---- what a table leads to

  status_within : (l : Limit) (cells : Report) → (plan_report X l cells).status ≡ 0 → plan_report X l cells ≡ cells
  unfolding plan_report
  status_within Within cells e = refl
  status_within PassesBound cells e = absurd (omega arith)
  status_within (PassesCells level) cells e = absurd (omega arith)
  status_within (PassesNeeds key) cells e = absurd (omega arith)

  status_whole : (o : Option ℕ) → (valued_report t.letter (looked_up t) X o).status ≡ 0 → o ≡ None
  unfolding valued_report
  status_whole None e = refl
  status_whole (Some r) e = absurd (omega arith)

  valued_never : (o : Option ℕ) → (valued_report t.letter (looked_up t) X o).status ≢ 7
  unfolding valued_report
  valued_never None e = omega (arith, e)
  valued_never (Some r) e = omega (arith, e)

  table_never : (quick_table X t).status ≢ 7
  unfolding quick_table plan_report quick_cells
  table_never = by (limit (looked_up t) X)
    where
      by : (l : Limit) → (plan_report X l (quick_cells t.letter (looked_up t) X)).status ≢ 7
      by Within e = valued_never (first_without (full_table (looked_up t) X)) e
      by PassesBound e = omega (arith, e)
      by (PassesCells level) e = omega (arith, e)
      by (PassesNeeds key) e = omega (arith, e)

  table_headline : QuickLaws → AreSound t → is_bound X ≡ true → Close (looked_up t) t.dim → (quick_table X t).status ≡ 0 → Headline s X (quick_table X t).bytes
  unfolding quick_table quick_cells valued_report
  table_headline laws sound bounded close e =
      let cells = quick_cells t.letter (looked_up t) X in
      let same : quick_table X t ≡ cells = status_within (limit (looked_up t) X) cells e in
      let none = status_whole (first_without (full_table (looked_up t) X)) (sym (ap (λ (r : Report). r.status) same) ∙ e) in
      subst (λ (r : Report). Headline s X r.bytes) (sym (same ∙ ap (valued_report t.letter (looked_up t) X) none)) (quick_headline laws sound bounded close none)

  module _ (w w' : Taking) (status : ℕ) where
    -- where the relations hold
    pub quick_ends : QuickLaws → AreSound t → is_bound X ≡ true → Closed ≡ verdict (looked_up t) t.dim → AreClosed t
        → EndsOrWants (quick_table X t) w w' status → EndsBy (LeadsToQuick X t) w w' status
    unfolding relations_report of_relations quick_report
    quick_ends laws sound bounded found close (inl e) = (
      quick_table X t,
      record {
        said = inl (ap (λ v. relations_report v (quick_table X t)) found);
        headline = table_headline laws sound bounded close.own;
        own = own_of laws.own X t;
        accepted = λ h. close;
        never = table_never;
      },
      e,
    )
    quick_ends laws sound bounded found close (inr e) = (
      out_of_memory,
      record { said = inr (bounded, refl); headline = λ h. absurd (omega arith); own = own_of laws.own X t; accepted = λ h. close; never = λ h. omega (arith, h) },
      e,
    )

    -- and where they fail first
    pub quick_fails : OwnTensorsLaw → (v : Verdict) → v ≡ verdict (looked_up t) t.dim → (v ≡ Closed → ⊥) → Ends (relations_report v closed) w w' status → EndsBy (LeadsToQuick X t) w w' status
    unfolding quick_report
    quick_fails own v found fails e = fails_by t (quick_table X t) w w' status v found fails (λ r said low high. record {
      said = inl said;
      headline = λ h. absurd (omega (arith, h, low));
      own = own_of own X t;
      accepted = λ h. absurd (omega (arith, h, low));
      never = λ h. omega (arith, h, high);
    }) e
