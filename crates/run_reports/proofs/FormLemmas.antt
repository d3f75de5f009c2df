-- A table in the form that is asked for: its refusals are those of every form.
use Rattle.std.proofs.Common.{◌≡◌, ◌≢◌, ◌⊎◌, inl, inr, ℕ, zero, suc, ◌<◌, ◌≤◌, ◌-◌, refl, sym, ap, ap₂, ◌∙◌, subst, arith, length, List, [], ◌∷◌, ◌++◌, take, get_or, map, Bool, true, false, cond, nat_eq, codes, Option, Some, None, Result, Ok, Err}
use Rattle.run_reports.proofs.Names.{Taking, Writes, AppendsPrefix, Key, Shape, planned, Limit, Within, PassesBound, PassesCells, PassesNeeds, limit, limit_of, Planning, keys_of, tensors_of, PlanCause, Outcome, outcomes, outcomes_of, check, first_without, next_rank, full_table, value_at, value_of_cell, Entries, looked_up, Report, Overflow, Orders, out_of_memory, cause_report, cells_report, checked_report, plan_report, verdict_of, plan_cells, stored_report, count_text, in_place, formed_cells, formed_stored, last_of, last_text, plan_rest, plan_summary, summary_text, Appends-trans, Appends, AppendsPrefix-more}
use Rattle.std.proofs.lemmas.List.{take-append-le, length-append}
use Rattle.amp_plan.specs.Limits.{Tells}
use Rattle.amp_plan.specs.Needs.{edges_of}
use Rattle.series_law.specs.Check.{Verdict, NotValue, Solution}
use Rattle.airy_math.specs.Rational.{ℚ}
use Rattle.amp_terms.specs.declared.Outcome.TheVariants.{Value, Blocked}
use Rattle.amp_terms.specs.declared.Outcome.TheVariants as outcome
use Rattle.amp_terms.proofs.OutcomeLemmas.{length-outcomes}
use Rattle.run_reports.specs.Forms.{plan_rows}
use Rattle.run_reports.proofs.LineLemmas.{values_found}
use Rattle.run_reports.proofs.StatusLemmas.{IsPlain}
use Rattle.run_reports.proofs.ReportLemmas.{not_whole, report_of_plan, report_of_cause}

-- ---- two texts, one behind the other

pub writes_then : {T U E : Type 0} (x y : List ℕ) (a b c : Taking) (u : U) (r : Result T E) → Writes {E = E} x a b (Ok u) → Writes y b c r → Writes (x ++ y) a c r
writes_then x y a b c u (Ok v) h k = record { written = Appends-trans _ _ _ _ _ h.written k.written; prefix = tt; cause = rw (← h.cause.kept) k.cause }
writes_then x y a b c u (Err e) h k = record {
  written = tt;
  prefix = longer a.taken c.taken (x ++ (y ++ [])) (x ++ y) (ap (λ z. x ++ z) (Rattle.std.proofs.Common.append-nil y)) (AppendsPrefix-more a.taken b.taken c.taken x y [] h.written k.prefix);
  cause = rw (← h.cause.kept) k.cause;
}
  where
    longer : (p q : Option (List ℕ)) (xs ys : List ℕ) → xs ≡ ys → AppendsPrefix p q xs → AppendsPrefix p q ys
    longer p q xs ys e h = subst (AppendsPrefix p q) e h

pub writes_cut : {T U E : Type 0} (x y : List ℕ) (a b : Taking) (e : E) → Writes {T = U} x a b (Err e) → Writes {T = T} (x ++ y) a b (Err e)
writes_cut x y a b e h = record {
  written = tt;
  prefix =
      let p = h.prefix in
      (p.0, omega (arith, p.1, length-append x y), subst (λ l. Appends a.taken b.taken l) (sym (take-append-le p.0 x y p.1)) p.2);
  cause = record { later = h.cause.later; failed = h.cause.failed; kept = tt };
}

-- where a table has no keys, there is no last one
pub last-none : (letter : Bool) (shape : Shape) (keys : List Key) (cells : List (Option Outcome)) → length keys ≡ 0 → length cells ≡ length keys → last_of letter shape keys cells ≡ []
unfolding last_of last_text value_at value_of_cell
last-none letter shape [] [] e l = refl
last-none letter shape [] (c ∷ cells) e l = absurd (omega arith)
last-none letter shape (key ∷ keys) cells e l = absurd (omega arith)

-- ---- refusals

pub place_other : (bytes : List ℕ) (r : Report) → r.status ≢ 0 → in_place bytes r ≡ r
unfolding in_place
place_other bytes r n = let e : nat_eq r.status 0 ≡ false = grind (arith, n) in rw e refl

pub place_whole : (bytes : List ℕ) (r : Report) → r.status ≡ 0 → in_place bytes r ≡ record { status = 0; bytes = bytes }
unfolding in_place
place_whole bytes r h = let e : nat_eq r.status 0 ≡ true = grind (arith, h) in rw e refl

pub place_status : (bytes : List ℕ) (r : Report) → (in_place bytes r).status ≡ r.status
unfolding in_place
place_status bytes r = by (nat_eq r.status 0) refl
  where
    by : (b : Bool) → nat_eq r.status 0 ≡ b → (cond b (record { status = 0; bytes = bytes }) r).status ≡ r.status
    by true e = let h : r.status ≡ 0 = grind arith in sym h
    by false e = refl

pub plain_place : (bytes : List ℕ) (r : Report) → IsPlain r → IsPlain (in_place bytes r)
plain_place bytes r h = record { is = subst (λ (n : ℕ). (n ≡ 0) ⊎ ((3 ≤ n) × (n ≤ 7))) (sym (place_status bytes r)) h.is }

module _ (bytes : Planning → List ℕ) where
  pub cells_refused : (p : Planning) (report : Report) → plan_cells p ≡ report → report.status ≢ 0 → formed_cells bytes p ≡ report
  cells_refused p report e n = ap (in_place (bytes p)) e ∙ place_other (bytes p) report n

  pub cells_whole : (p : Planning) (report : Report) → plan_cells p ≡ report → report.status ≡ 0 → formed_cells bytes p ≡ record { status = 0; bytes = bytes p }
  cells_whole p report e n = ap (in_place (bytes p)) e ∙ place_whole (bytes p) report n

  -- stored tensors whose plan is made
  pub formed_of_plan : (t : Entries) (X : ℕ) (p : Planning) → p ≡ record { tensors = t; bound = X } → limit_of (record { tensors = t; bound = X }) ≡ Within
      → formed_stored bytes t X ≡ formed_cells bytes p
  formed_of_plan t X p made within = ap₂ in_place (ap bytes (sym made)) (report_of_plan t X p made within)

  -- and of which none is
  pub formed_of_cause : (t : Entries) (X : ℕ) (why : PlanCause) → Tells (record { tensors = t; bound = X }) why
      → (cause_report why ≡ formed_stored bytes t X) ⊎ (cause_report why ≡ out_of_memory)
  formed_of_cause t X why tells = by (report_of_cause t X why tells)
    where
      all : List ℕ
      all = bytes (record { tensors = t; bound = X })

      by : (cause_report why ≡ stored_report t X) ⊎ (cause_report why ≡ out_of_memory) → (cause_report why ≡ formed_stored bytes t X) ⊎ (cause_report why ≡ out_of_memory)
      by (inl e) = inl (sym (place_other all (cause_report why) (not_whole why)) ∙ ap (in_place all) e)
      by (inr e) = inr e

-- a table in which the check finds nothing has a Value at each rank
none_without : (os : List Outcome) → ((r : ℕ) → r < length os → (w : ℚ) × (get_or os r outcome.Over ≡ Value w)) → first_without (map Some os) ≡ None
unfolding first_without next_rank
none_without [] h = refl
none_without (o ∷ os) h = by o (h 0 (omega arith)) (none_without os (λ r l. h (suc r) (omega arith)))
  where
    by : (o : Outcome) → (w : ℚ) × (o ≡ Value w) → first_without (map Some os) ≡ None → first_without (map Some (o ∷ os)) ≡ None
    by (Value v) k e = ap next_rank e
    by outcome.Over k e = let n : outcome.Over ≡ Value k.0 = k.1 in cc
    by (Blocked r) k e = let n : Blocked r ≡ Value k.0 = k.1 in cc

pub values_there : (p : Planning) (table : List (Option Outcome)) → table ≡ full_table (tensors_of p) p.bound → check (tensors_of p) p.bound (outcomes_of p) ≡ Solution → first_without table ≡ None
unfolding full_table outcomes_of verdict_of
values_there p table full found =
    ap first_without full ∙ none_without (outcomes (tensors_of p) p.bound) (λ r h. values_found (tensors_of p) p.bound found r (omega (arith, h, length-outcomes (tensors_of p) p.bound)))

-- the lines in the place of the lines
pub rows_again : (t : Entries) (X : ℕ) → formed_stored plan_rows t X ≡ stored_report t X
unfolding stored_report cells_report checked_report plan_report in_place keys_of tensors_of full_table looked_up planned
rows_again t X = by (limit (looked_up t) X)
  where
    all : List ℕ
    all = plan_rows (record { tensors = t; bound = X })

    cells : Report
    cells = cells_report t.letter (looked_up t) X

    found : (v : Verdict) → in_place all (checked_report t.letter (looked_up t).shape (planned (looked_up t) X) (full_table (looked_up t) X) v) ≡ checked_report t.letter (looked_up t).shape (planned (looked_up t) X) (full_table (looked_up t) X) v
    found Solution = refl
    found (NotValue r) = refl
    found (Overflow key i) = refl
    found (Orders key i a j b) = refl

    by : (l : Limit) → in_place all (plan_report X l cells) ≡ plan_report X l cells
    by Within = found (verdict_of (looked_up t) X)
    by PassesBound = refl
    by (PassesCells level) = refl
    by (PassesNeeds key) = refl

-- ---- the summary, line by line

pub summary_is : (p : Planning) (cells : List (Option Outcome)) → cells ≡ full_table (tensors_of p) p.bound
    → plan_summary p ≡ count_text (codes "cells ") (length (keys_of p)) ++ plan_rest p cells
unfolding summary_text keys_of edges_of tensors_of looked_up
summary_is p cells e =
    ap (λ t. count_text (codes "cells ") (length (keys_of p)) ++ (count_text (codes "needs ") (edges_of p) ++ (last_of p.tensors.letter p.tensors.shape (keys_of p) t ++ codes "solution\n"))) (sym e)
