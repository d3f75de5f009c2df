-- What is printed of a plan, and why there is none.
use Rattle.std.proofs.Common.{subst, arith, ◌≡◌, ◌≢◌, ◌⊎◌, inl, inr, ℕ, refl, sym, ap, ◌∙◌, List, length, Option, Some}
use Rattle.run_reports.proofs.Names.{Outcome, outcomes, planned, Entries, looked_up, Planning, keys_of, tensors_of, Within, limit_of, PlanCause, full_table, check, outcomes_of, Taking, Report, Ends, EndsOrWants, out_of_memory, bound_refused, checked_report, verdict_of, cells_report, plan_report, cause_report, stored_report, length-all}
use Rattle.std.proofs.lemmas.List.{length-map}
use Rattle.amp_plan.specs.Limits.{Tells}
use Rattle.amp_plan.specs.declared.PlanCause.TheVariants as cause
use Rattle.series_law.specs.Check.{Verdict}

-- what is printed of a table, by what its check finds
pub cells_at : (p : Planning) (table : List (Option Outcome)) (v : Verdict) → table ≡ full_table (tensors_of p) p.bound → check (tensors_of p) p.bound (outcomes_of p) ≡ v
    → cells_report p.tensors.letter (tensors_of p) p.bound ≡ checked_report p.tensors.letter p.tensors.shape (keys_of p) table v
unfolding cells_report verdict_of outcomes_of keys_of tensors_of looked_up
cells_at p table v whole found =
    ap (λ cells. checked_report p.tensors.letter p.tensors.shape (planned (tensors_of p) p.bound) cells (check (tensors_of p) p.bound (outcomes (tensors_of p) p.bound))) (sym whole)
    ∙ ap (checked_report p.tensors.letter p.tensors.shape (planned (tensors_of p) p.bound) table) found

-- the whole table has a cell for each key
pub full-length : (p : Planning) → length (full_table (tensors_of p) p.bound) ≡ length (keys_of p)
unfolding full_table
full-length p = length-map (outcomes (tensors_of p) p.bound) Some ∙ length-all p

-- a cause tells the report, or memory is wanting
pub told_cause : (p : Planning) (why : PlanCause) (cells : Report) → Tells p why → (cause_report why ≡ plan_report p.bound (limit_of p) cells) ⊎ (cause_report why ≡ out_of_memory)
unfolding Tells cause_report plan_report
told_cause p (cause.Bound got) cells t = inl (rw (t.0) (ap bound_refused t.1))
told_cause p (cause.Cells level) cells t = inl (rw t refl)
told_cause p (cause.Edges key) cells t = inl (rw t refl)
told_cause p cause.NoMemory cells t = inr refl

-- and no cause is that of a whole table
pub not_whole : (why : PlanCause) → (cause_report why).status ≢ 0
unfolding cause_report
not_whole (cause.Bound got) e = omega (arith, e)
not_whole (cause.Cells level) e = omega (arith, e)
not_whole (cause.Edges key) e = omega (arith, e)
not_whole cause.NoMemory e = omega (arith, e)

-- where a plan is made of stored tensors, it is what the plan's cells give
pub report_of_plan : (t : Entries) (X : ℕ) (p : Planning) → p ≡ record { tensors = t; bound = X } → limit_of (record { tensors = t; bound = X }) ≡ Within
    → stored_report t X ≡ cells_report p.tensors.letter (tensors_of p) p.bound
unfolding limit_of tensors_of plan_report stored_report
report_of_plan t X p made within =
    ap (λ l. plan_report X l (cells_report t.letter (looked_up t) X)) within ∙ ap (λ (q : Planning). cells_report q.tensors.letter (looked_up q.tensors) q.bound) (sym made)

-- where none is made, it is what the cause tells, or memory is wanting
pub report_of_cause : (t : Entries) (X : ℕ) (why : PlanCause) → Tells (record { tensors = t; bound = X }) why → (cause_report why ≡ stored_report t X) ⊎ (cause_report why ≡ out_of_memory)
unfolding limit_of tensors_of stored_report
report_of_cause t X why tells = told_cause (record { tensors = t; bound = X }) why (cells_report t.letter (looked_up t) X) tells

pub ends_by : (report other : Report) (before now : Taking) (result : ℕ) → (other ≡ report) ⊎ (other ≡ out_of_memory) → Ends other before now result → EndsOrWants report before now result
ends_by report other before now result (inl e) h = inl (subst (λ r. Ends r before now result) e h)
ends_by report other before now result (inr e) h = inr (subst (λ r. Ends r before now result) e h)
