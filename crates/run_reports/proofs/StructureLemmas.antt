-- What is printed of stored tensors is what is printed of those that they stand for.
use Rattle.std.proofs.Common.{◌≢◌, arith, ◌≡◌, ◌⊎◌, inl, inr, ℕ, refl, sym, ap₂, subst, ◌∙◌, false, cond, true, Bool, List, Some, None, Option}
use Rattle.run_reports.proofs.Names.{SameEntries, Key, Shape, Outcome, outcomes, planned, Structure, Lettered, planned_tensors, BelowDimLaw, PlanLaw, Tensors, SameTablesLaw, Entries, looked_up, Limit, limit, Within, PassesBound, PassesCells, PassesNeeds, full_table, check, FindsNoOrders, NoOrdersLaw, Close, AreSound, Taking, Report, Ends, EndsOrWants, out_of_memory, bound_refused, Names, MakeErr, checked_report, verdict_of, cells_report, plan_report, making_report, stored_report, is_bound, making_over, making_error, table_report, ArePlanned, text_structure, has_letter, Text}
use Rattle.series_law.specs.Check.{Verdict}
use Rattle.series_law.specs.Check as check
use Rattle.named_families.specs.declared.petersson.MakeErr.TheVariants as make
use Rattle.run_reports.proofs.ReportLemmas.{ends_by}
use Rattle.run_reports.proofs.StoredLemmas.{stored_same}

pub refused_bound : (s : Structure) (X : ℕ) → is_bound X ≡ false → table_report s X ≡ bound_refused X
unfolding table_report
refused_bound s X e = rw e refl

-- within the bound, and where its tensors are made: the plan's report, and what its cells give
pub planned_report : (s : Structure) (X : ℕ) → is_bound X ≡ true → making_over s X ≡ None → table_report s X ≡ plan_report X (limit (planned_tensors s X) X) (cells_report (has_letter s) (planned_tensors s X) X)
unfolding table_report making_report
planned_report s X e m = rw (e, m) refl

-- the report of stored tensors that are a structure's
pub stood_report : (s : Structure) (t : Entries) (X : ℕ) → PlanLaw → BelowDimLaw → SameTablesLaw → is_bound X ≡ true → making_over s X ≡ None → ArePlanned t s X → table_report s X ≡ stored_report t X
stood_report s t X once below tables bounded made stored =
    planned_report s X bounded made ∙ sym (stored_same t (planned_tensors s X) (has_letter s) X once below tables stored.entries stored.letter)

-- what holds of a text's structure, whether it carries the letter or not
pub by_letter : (t : Entries) (P : Bool → Structure → Type 0) → P true (Lettered (looked_up t)) → P false (Text (looked_up t)) → P t.letter (text_structure t)
unfolding text_structure
by_letter t P with_it without = by t.letter
  where
    by : (b : Bool) → P b (cond b (Lettered (looked_up t)) (Text (looked_up t)))
    by true = with_it
    by false = without

-- a text's own tensors and letter are those of its plan, and are always made
pub text_planned : (t : Entries) (X : ℕ) → planned_tensors (text_structure t) X ≡ looked_up t
unfolding planned_tensors
text_planned t X = by_letter t (λ b s. planned_tensors s X ≡ looked_up t) refl refl

pub text_letter : (t : Entries) → has_letter (text_structure t) ≡ t.letter
unfolding has_letter
text_letter t = by_letter t (λ b s. has_letter s ≡ b) refl refl

pub text_made : (t : Entries) (X : ℕ) → making_over (text_structure t) X ≡ None
unfolding making_over
text_made t X = by_letter t (λ b s. making_over s X ≡ None) refl refl

-- the report of a text's own tensors
pub text_stored : (t : Entries) (X : ℕ) → is_bound X ≡ true → table_report (text_structure t) X ≡ stored_report t X
unfolding stored_report
text_stored t X bounded =
    planned_report (text_structure t) X bounded (text_made t X)
    ∙ ap₂ (λ l (T : Tensors). plan_report X (limit T X) (cells_report l T X)) (text_letter t) (text_planned t X)

-- where a structure's tensors aren't made: the report of a number that leaves the range, or want of memory
pub error_ends : (s : Structure) (X : ℕ) (why : MakeErr) (before now : Taking) (result : ℕ) → is_bound X ≡ true → Names why (making_over s X)
    → Ends (making_error why) before now result → EndsOrWants (table_report s X) before now result
unfolding making_error Names making_report table_report
error_ends s X why before now result bounded named h = ends_by (table_report s X) (making_error why) before now result (said why named) h
  where
    said : (why : MakeErr) → Names why (making_over s X) → (making_error why ≡ table_report s X) ⊎ (making_error why ≡ out_of_memory)
    said (make.Over k) named = inl (rw (bounded, named) refl)
    said make.NoMemory named = inr refl

-- ---- where no two index orders differ

checked_never : (letter : Bool) (shape : Shape) (keys : List Key) (cells : List (Option Outcome)) (v : Verdict) → FindsNoOrders v → (checked_report letter shape keys cells v).status ≢ 7
unfolding checked_report FindsNoOrders
checked_never letter shape keys cells check.Solution n e = omega (arith, e)
checked_never letter shape keys cells (check.NotValue r) n e = omega (arith, e)
checked_never letter shape keys cells (check.Overflow key i) n e = omega (arith, e)
checked_never letter shape keys cells (check.Orders key i a j b) n e = absurd n

plan_never : (X : ℕ) (l : Limit) (cells : Report) → cells.status ≢ 7 → (plan_report X l cells).status ≢ 7
unfolding plan_report
plan_never X Within cells n e = n e
plan_never X PassesBound cells n e = omega (arith, e)
plan_never X (PassesCells level) cells n e = omega (arith, e)
plan_never X (PassesNeeds key) cells n e = omega (arith, e)

making_never : (k : Option ℕ) (next : Report) → next.status ≢ 7 → (making_report k next).status ≢ 7
unfolding making_report
making_never None next n e = n e
making_never (Some k) next n e = omega (arith, e)

-- the table of a structure is then never refused by two orders
pub table_never : (s : Structure) (X : ℕ) → FindsNoOrders (check (planned_tensors s X) X (outcomes (planned_tensors s X) X)) → (table_report s X).status ≢ 7
unfolding table_report cells_report verdict_of
table_never s X n = by (is_bound X)
  where
    next : Report
    next = making_report (making_over s X) (plan_report X (limit (planned_tensors s X) X) (cells_report (has_letter s) (planned_tensors s X) X))

    by : (b : Bool) → (cond b next (bound_refused X)).status ≢ 7
    by true e = making_never (making_over s X) _ (plan_never X (limit (planned_tensors s X) X) _ (checked_never (has_letter s) (planned_tensors s X).shape (planned (planned_tensors s X) X) (full_table (planned_tensors s X) X) _ n)) e
    by false e = omega (arith, e)

-- and that of a text whose relations hold
pub text_never : NoOrdersLaw → (t : Entries) (X : ℕ) → AreSound t → Close (looked_up t) t.dim → (table_report (text_structure t) X).status ≢ 7
unfolding looked_up
text_never law t X sound close =
    table_never (text_structure t) X
    (subst (λ (T : Tensors). FindsNoOrders (check T X (outcomes T X))) (sym (text_planned t X)) (law (looked_up t) sound.symmetric sound.graded close X))

pub entries_self : (T : Tensors) → SameEntries T T
entries_self T = record { dim = refl; shape = refl; A = λ i j k p q r. refl; B = λ i j k p q r. refl; C = λ i j k p q r. refl; D = λ i p. refl }
