-- The statuses of the reports that a job leads to where no end fails and memory is not wanting.
use Rattle.std.proofs.Common.{◌≡◌, ◌≢◌, ◌⊎◌, inl, inr, ℕ, ◌≤◌, arith, refl, sym, subst, ap, length, Option, Some, None, Bool, true, false, cond, List, nat_le}
use Rattle.run_reports.proofs.Names.{planned, Tensors, Structure, planned_tensors, Limit, Within, PassesBound, PassesCells, PassesNeeds, limit, has_letter, making_over, table_report, full_table, Entries, looked_up, TextReading, Read, Refused, reading_of, Verdict, Closed, Differs, Over, verdict, Report, bound_refused, out_of_memory, making_report, plan_report, cells_report, checked_report, verdict_of, is_bound, text_too_long, line_refused, relations_report, of_relations, closed, of_reading, of_text}
use Rattle.series_law.specs.Check as check

-- a status that is 0, or one from 3 to 7
pub record IsPlain (report : Report) : Type 0 where
  pub is : (report.status ≡ 0) ⊎ ((3 ≤ report.status) × (report.status ≤ 7))

-- neither that of a word that is refused, nor that of a failed source
abbrev pub IsOther : Report → Type 0
IsOther report = (report.status ≢ 2) × (report.status ≢ 8)

pub plain_other : {r : Report} → IsPlain r → IsOther r
plain_other {r} plain = by plain.is
  where
    by : (r.status ≡ 0) ⊎ ((3 ≤ r.status) × (r.status ≤ 7)) → IsOther r
    by (inl e) = (λ k. omega arith, λ k. omega arith)
    by (inr h) = (λ k. omega (arith, h.0, h.1), λ k. omega (arith, h.0, h.1))

-- and not that of want of memory
pub plain_ample : {r : Report} → IsPlain r → r.status ≢ 10
plain_ample {r} plain = by plain.is
  where
    by : (r.status ≡ 0) ⊎ ((3 ≤ r.status) × (r.status ≤ 7)) → r.status ≢ 10
    by (inl e) = λ k. omega arith
    by (inr h) = λ k. omega (arith, h.0, h.1)

pub other_wanting : IsOther out_of_memory
other_wanting = (λ e. omega arith, λ e. omega arith)

-- of a report that is the whole one, or, where something else holds, says that memory is wanting
pub other_said : {A : Type 0} {report whole : Report} → IsPlain whole → (report ≡ whole) ⊎ (A × (report ≡ out_of_memory)) → IsOther report
other_said plain (inl e) = subst IsOther (sym e) (plain_other plain)
other_said plain (inr e) = subst IsOther (sym e.1) other_wanting

-- those of the relations
pub plain_closed : IsPlain closed
unfolding closed
plain_closed = record { is = inl refl }

pub plain_relations : (v : Verdict) (next : Report) → IsPlain next → IsPlain (relations_report v next)
unfolding relations_report
plain_relations Closed next h = h
plain_relations (Differs rel place left right) next h = record { is = inr (omega arith, omega arith) }
plain_relations (Over rel place) next h = record { is = inr (omega arith, omega arith) }

pub plain_of : (t : Entries) (next : Report) → IsPlain next → IsPlain (of_relations t next)
unfolding of_relations
plain_of t next h = plain_relations (verdict (looked_up t) t.dim) next h

pub plain_making : (o : Option ℕ) (next : Report) → IsPlain next → IsPlain (making_report o next)
unfolding making_report
plain_making None next h = h
plain_making (Some k) next h = record { is = inr (omega arith, omega arith) }

-- those of a text, and of a bound
pub plain_text : (next : Entries → Report) → ((t : Entries) → IsPlain (next t)) → (text : List ℕ) → IsPlain (of_text next text)
unfolding of_text of_reading text_too_long line_refused
plain_text next h text = by (nat_le (length text) 1048576) (reading_of text)
  where
    by : (short : Bool) (r : TextReading) → IsPlain (cond short (of_reading next r) text_too_long)
    by false r = record { is = inr (omega arith, omega arith) }
    by true (Refused n kind) = record { is = inr (omega arith, omega arith) }
    by true (Read t) = h t

pub plain_bound : (X : ℕ) (next : Report) → IsPlain next → IsPlain (cond (is_bound X) next (bound_refused X))
plain_bound X next h = by (is_bound X)
  where
    by : (b : Bool) → IsPlain (cond b next (bound_refused X))
    by false = record { is = inr (omega arith, omega arith) }
    by true = h

-- those of a plan
pub plain_plan : (X : ℕ) (l : Limit) (next : Report) → IsPlain next → IsPlain (plan_report X l next)
unfolding plan_report
plain_plan X Within next h = h
plain_plan X PassesBound next h = record { is = inr (omega arith, omega arith) }
plain_plan X (PassesCells level) next h = record { is = inr (omega arith, omega arith) }
plain_plan X (PassesNeeds key) next h = record { is = inr (omega arith, omega arith) }

-- and those of its cells
pub plain_cells : (letter : Bool) (T : Tensors) (X : ℕ) → IsPlain (cells_report letter T X)
unfolding cells_report checked_report
plain_cells letter T X = by (verdict_of T X)
  where
    by : (v : check.Verdict) → IsPlain (checked_report letter T.shape (planned T X) (full_table T X) v)
    by check.Solution = record { is = inl refl }
    by (check.NotValue r) = record { is = inr (omega arith, omega arith) }
    by (check.Overflow key i) = record { is = inr (omega arith, omega arith) }
    by (check.Orders key i a j b) = record { is = inr (omega arith, omega arith) }

-- the report of each table
pub plain_table : (s : Structure) (X : ℕ) → IsPlain (table_report s X)
unfolding table_report
plain_table s X =
    let T = planned_tensors s X in
    plain_bound X _ (plain_making (making_over s X) _ (plain_plan X (limit T X) _ (plain_cells (has_letter s) T X)))

-- ---- what follows

pub status_of : {report whole : Report} → report ≡ whole → report.status ≡ whole.status
status_of e = ap (λ (r : Report). r.status) e
