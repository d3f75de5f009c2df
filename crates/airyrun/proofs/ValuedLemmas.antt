-- The table that a number is read off: that of stored tensors is the structure's, and in it each planned key has a Value.
use Rattle.std.proofs.Common.{◌≡◌, ◌⊎◌, inl, inr, ℕ, zero, suc, ◌<◌, refl, sym, ap, ◌∙◌, subst, arith, length, List, [], ◌∷◌, map, get_or, true, Option, Some, None, Result, Ok, Err, IfOk, IfErr}
use Rattle.run_reports.proofs.Names.{ℚ, Key, Structure, planned_tensors, Tensors, SameEntries, BelowDimLaw, PlanLaw, key_at, Limit, Within, limit_of, Planning, keys_of, tensors_of, PlanCause, key_text, Outcome, outcomes, full_table, first_without, next_rank, value_at, value_of, value_of_cell, Names, MakeErr, SameTablesLaw, Entries, looked_up, Taking, Report, Ends, bound_refused, out_of_memory, EndsBy, making_report, over_at, plan_report, cause_report, ArePlanned, is_bound, making_over, making_error}
use Rattle.amp_plan.specs.Limits.{Tells}
use Rattle.amp_plan.specs.declared.PlanCause.TheVariants as cause
use Rattle.amp_terms.specs.declared.Outcome.TheVariants.{Value, Over, Blocked}
use Rattle.named_families.specs.declared.petersson.MakeErr.TheVariants as make
use Rattle.amp_terms.proofs.OutcomeLemmas.{length-outcomes}
use Rattle.airyrun.specs.Numbers.{first_report, valued_report}
use Rattle.airyrun.specs.Valued.{IsFilled, IsStored, IsValued, Refuses, plan_valued, stored_valued}
use Rattle.run_reports.proofs.ReportLemmas.{not_whole}
use Rattle.run_reports.proofs.StoredLemmas.{same_limit}
use Rattle.amp_terms.proofs.TableLemmas.{values_there}

pub same_full : (t : Entries) (T : Tensors) (X : ℕ) → SameTablesLaw → SameEntries (looked_up t) T → full_table (looked_up t) X ≡ full_table T X
unfolding full_table
same_full t T X tables same = ap (map Some) (tables (looked_up t) T same X).outcomes

-- what comes behind the plan of a structure's stored tensors
pub valued_stored : (s : Structure) (t : Entries) (X : ℕ) → PlanLaw → BelowDimLaw → SameTablesLaw → is_bound X ≡ true → making_over s X ≡ None → ArePlanned t s X
    → (next : Report) → valued_report s X next ≡ stored_valued t X next
unfolding valued_report making_report
valued_stored s t X once below tables bounded made stored next =
    rw (bounded, made)
    (sym (joined (same_limit t (planned_tensors s X) X once below stored.entries) ((below (looked_up t) (planned_tensors s X) stored.entries).plan X)
    (ap first_without (same_full t (planned_tensors s X) X tables stored.entries))))
  where
    joined : {l m : Limit} {ks js : List Key} {o p : Option ℕ} → l ≡ m → ks ≡ js → o ≡ p → plan_report X l (first_report ks o next) ≡ plan_report X m (first_report js p next)
    joined a b c = cc

-- where the plan is within its limits, and each key has a Value, it is what comes next
pub stored_next : (t : Entries) (X : ℕ) → limit_of (record { tensors = t; bound = X }) ≡ Within → first_without (full_table (looked_up t) X) ≡ None
    → (next : Report) → stored_valued t X next ≡ next
unfolding limit_of tensors_of plan_report first_report
stored_next t X within valued next = rw (within, valued) refl

cause_said : (t : Entries) (X : ℕ) (why : PlanCause) → Tells (record { tensors = t; bound = X }) why
    → (cause_report why ≡ out_of_memory) ⊎ ((next : Report) → stored_valued t X next ≡ cause_report why)
unfolding Tells cause_report plan_report limit_of tensors_of
cause_said t X (cause.Bound got) tells = inr (λ next. rw tells.0 (ap bound_refused (sym tells.1)))
cause_said t X (cause.Cells level) tells = inr (λ next. rw tells refl)
cause_said t X (cause.Edges key) tells = inr (λ next. rw tells refl)
cause_said t X cause.NoMemory tells = inl refl

making_is : (s : Structure) (X : ℕ) (why : MakeErr) → is_bound X ≡ true → Names why (making_over s X) → Refuses (valued_report s X) (making_error why)
unfolding making_error Names making_report valued_report
making_is s X (make.Over k) bounded named = record { not_whole = λ z. omega (arith, z); said = inr (λ next. rw (bounded, named) refl) }
making_is s X make.NoMemory bounded named = record { not_whole = λ z. omega (arith, z); said = inl refl }

-- ---- refusals

pub ends_wanting : (leads : Report → Report) (before now : Taking) (result : ℕ) → Ends out_of_memory before now result → EndsBy (Refuses leads) before now result
ends_wanting leads before now result e = (out_of_memory, record { not_whole = λ z. omega (arith, z); said = inl refl }, e)

-- a key of the plan has no Value
pub first_refuses : (p : Planning) (r : ℕ) (before now : Taking) (result : ℕ) → first_without (full_table (tensors_of p) p.bound) ≡ Some r
    → Ends (over_at (key_text (key_at (keys_of p) r))) before now result → EndsBy (Refuses (plan_valued p)) before now result
unfolding first_report
first_refuses p r before now result first e =
    (over_at (key_text (key_at (keys_of p) r)), record { not_whole = λ z. omega (arith, z); said = inr (λ next. rw first refl) }, e)

-- the plan isn't made
pub cause_refuses : (t : Entries) (X : ℕ) (why : PlanCause) (before now : Taking) (result : ℕ) → Tells (record { tensors = t; bound = X }) why → Ends (cause_report why) before now result
    → EndsBy (Refuses (stored_valued t X)) before now result
cause_refuses t X why before now result tells e = (cause_report why, record { not_whole = not_whole why; said = cause_said t X why tells }, e)

-- the tensors aren't made
pub making_refuses : (s : Structure) (X : ℕ) (why : MakeErr) (before now : Taking) (result : ℕ) → is_bound X ≡ true → Names why (making_over s X) → Ends (making_error why) before now result
    → EndsBy (Refuses (valued_report s X)) before now result
making_refuses s X why before now result bounded named e = (making_error why, making_is s X why bounded named, e)

at_cell : (os : List Outcome) (r : ℕ) (w : ℚ) → r < length os → get_or os r Over ≡ Value w → value_of_cell (get_or (map Some os) r None) ≡ Some w
unfolding value_of_cell value_of
at_cell [] r w h e = absurd (omega arith)
at_cell (o ∷ os) zero w h e = ap value_of e
at_cell (o ∷ os) (suc r) w h e = at_cell os r w (omega arith) e

-- of a whole table in which no key lacks a Value: the Value at a rank, which its cell has
pub cell_there : (p : Planning) (cells : List (Option Outcome)) → cells ≡ full_table (tensors_of p) p.bound → first_without cells ≡ None → (r : ℕ) → r < length (keys_of p)
    → (w : ℚ) × (get_or (outcomes (tensors_of p) p.bound) r Over ≡ Value w) × (value_at cells r ≡ Some w)
unfolding full_table value_at keys_of
cell_there p cells whole valued r h =
    let os = outcomes (tensors_of p) p.bound in
    let long : r < length os = omega (arith, h, length-outcomes (tensors_of p) p.bound) in
    let v = values_there os (ap first_without (sym whole) ∙ valued) r long in
    (v.0, v.1, ap (λ t. value_of_cell (get_or t r None)) whole ∙ at_cell os r v.0 long v.1)

-- ---- what the steps answer

pub if_ok : {T E : Type 0} {P Q : T → Type 0} → ((x : T) → P x → Q x) → (r : Result T E) → IfOk r P → IfOk r Q
if_ok f (Ok x) h = f x h
if_ok f (Err e) h = tt

pub if_err : {T E : Type 0} {P Q : E → Type 0} → ((e : E) → P e → Q e) → (r : Result T E) → IfErr r P → IfErr r Q
if_err f (Ok x) h = tt
if_err f (Err e) h = f e h

stored_plan : (t : Entries) (X : ℕ) (p : Planning) → p ≡ record { tensors = t; bound = X } → limit_of (record { tensors = t; bound = X }) ≡ Within
    → (next : Report) → stored_valued t X next ≡ plan_valued p next
unfolding limit_of plan_report tensors_of keys_of
stored_plan t X p made within next = rw within (sym (ap (λ q. plan_valued q next) made))

module _ (t : Entries) (X : ℕ) (p : Planning) (made : p ≡ record { tensors = t; bound = X }) (within : limit_of (record { tensors = t; bound = X }) ≡ Within) where
  pub is_stored : (back : Planning) (cells : List (Option Outcome)) → IsFilled p back cells → IsStored t X back cells
  unfolding tensors_of
  is_stored back cells filled = by (subst (λ q. IsFilled q back cells) made filled)
    where
      by : IsFilled (record { tensors = t; bound = X }) back cells → IsStored t X back cells
      by f = record { filled = f; next = stored_next t X within (ap first_without (sym f.table) ∙ f.valued) }

  pub stored_refuses : (before now : Taking) (result : ℕ) → EndsBy (Refuses (plan_valued p)) before now result → EndsBy (Refuses (stored_valued t X)) before now result
  stored_refuses before now result ends = (ends.0, record { not_whole = ends.1.not_whole; said = elim ends.1.said [ inl e ↦ inl e | inr h ↦ inr (λ next. stored_is next ∙ h next) ] }, ends.2)
    where
      stored_is : (next : Report) → stored_valued t X next ≡ plan_valued p next
      stored_is next = stored_plan t X p made within next

module _ (s : Structure) (t : Entries) (X : ℕ) (once : PlanLaw) (below : BelowDimLaw) (tables : SameTablesLaw) (bounded : is_bound X ≡ true) (made : making_over s X ≡ None) (planned_as : ArePlanned t s X) where
  pub is_valued : (p : Planning) (cells : List (Option Outcome)) → IsStored t X p cells → IsValued s X p cells
  is_valued p cells stored = by p stored.filled.plan stored.filled.table
    where
      by : (q : Planning) → q ≡ record { tensors = t; bound = X } → cells ≡ full_table (tensors_of (record { tensors = t; bound = X })) X → IsValued s X q cells
      by q e whole = record {
        planned = subst (λ (r : Planning). ArePlanned r.tensors s X) (sym e) planned_as;
        bound = ap (λ (r : Planning). r.bound) e;
        table = whole ∙ ap (λ (r : Planning). full_table (tensors_of r) r.bound) (sym e);
        valued = stored.filled.valued;
        next = λ next. valued_stored s t X once below tables bounded made planned_as next ∙ stored.next next;
      }

  pub valued_refuses : (before now : Taking) (result : ℕ) → EndsBy (Refuses (stored_valued t X)) before now result → EndsBy (Refuses (valued_report s X)) before now result
  valued_refuses before now result ends = (
    ends.0,
    record {
      not_whole = ends.1.not_whole;
      said = elim ends.1.said [ inl e ↦ inl e | inr h ↦ inr (λ next. valued_stored s t X once below tables bounded made planned_as next ∙ h next) ];
    },
    ends.2,
  )
