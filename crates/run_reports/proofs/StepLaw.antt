-- The report of a table is that of its first step that refuses, or the whole table.
use Rattle.std.proofs.Common.{◌≡◌, ℕ, refl, sym, ◌∙◌, Option, Some, None, Bool, true, false, cond}
use Rattle.run_reports.proofs.Names.{Tensors, planned, planned_tensors, Limit, Within, PassesBound, PassesCells, PassesNeeds, limit, full_table, Report, bound_refused, making_report, checked_report, verdict_of, plan_report, cells_report, has_letter, whole_table, is_bound, making_over, table_report, Step, TableStepsLaw}
use Rattle.series_law.specs.Check as check
use Rattle.run_reports.specs.StructureTables as steps

pub table_steps : TableStepsLaw
unfolding table_report making_report cells_report plan_report checked_report whole_table
table_steps s X = by (is_bound X) refl (making_over s X) refl (limit T X) refl (verdict_of T X) refl
  where
    T : Tensors
    T = planned_tensors s X

    cells : check.Verdict → Report
    cells v = checked_report (has_letter s) T.shape (planned T X) (full_table T X) v

    by : (b : Bool) → is_bound X ≡ b → (o : Option ℕ) → making_over s X ≡ o → (l : Limit) → limit T X ≡ l → (v : check.Verdict) → verdict_of T X ≡ v
        → Step s X (cond b (making_report o (plan_report X l (cells v))) (bound_refused X))
    by false e o m l f v g = steps.outside e refl
    by true e (Some k) m l f v g = steps.unmade e k m refl
    by true e None m Within f check.Solution g = steps.whole (record { bounded = e; made = m; within = f }) g refl
    by true e None m Within f (check.NotValue r) g = steps.blank (record { bounded = e; made = m; within = f }) r g refl
    by true e None m Within f (check.Overflow key i) g = steps.over (record { bounded = e; made = m; within = f }) key i g refl
    by true e None m Within f (check.Orders key i a j b) g = steps.orders (record { bounded = e; made = m; within = f }) key i a j b g refl
    by true e None m PassesBound f v g = steps.limited e m (λ u. let clash : PassesBound ≡ Within = sym f ∙ u in cc) refl
    by true e None m (PassesCells level) f v g = steps.limited e m (λ u. let clash : PassesCells level ≡ Within = sym f ∙ u in cc) refl
    by true e None m (PassesNeeds key) f v g = steps.limited e m (λ u. let clash : PassesNeeds key ≡ Within = sym f ∙ u in cc) refl
