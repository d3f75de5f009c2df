-- What a large structure's stored tensors lead to is what is meant by its seed and dim.
use Rattle.std.proofs.Common.{◌≡◌, ◌≢◌, ◌⊎◌, inl, inr, ℕ, zero, suc, ◌-◌, refl, sym, ap, ap₂, ◌∙◌, subst, arith, length, List, ◌++◌, Bool, true, false, cond, IsTrue, nat_eq, codes, decimal, Option, Some}
use Rattle.run_reports.proofs.Names.{Key, total, Shape, Close, PlanLaw, BelowDimLaw, Tensors, SameEntries, IsSound, planned_tensors, Verdict, Closed, Differs, Over, verdict, SameVerdictLaw, Outcome, NoOrdersLaw, SameTablesLaw, Entries, looked_up, Taking, Report, Ends, EndsOrWants, bound_refused, out_of_memory, refusal, EndsBy, IsVerdict, closed, relations_report, stored_report, ArePlanned, is_bound, making_over, table_report, has_letter, count_text, formed_stored, last_of, summary_text, summed, in_place, plan_summary, tensors_of}
use Rattle.airy_math.specs.Jobs.{Bulk}
use Rattle.bulk_tensors.specs.Bulk.{after, bulk, bulk_refusal, diagonal, NamesStep, StandsForBulk}
use Rattle.bulk_tensors.specs.Change.{changed, gains}
use Rattle.bulk_tensors.specs.declared.full_tensors.BulkErr.{BulkErr}
use Rattle.bulk_tensors.specs.declared.full_tensors.BulkErr.TheVariants as error
use Rattle.std.proofs.Math.Nat.{le_refl}
use Rattle.run_reports.proofs.FormLemmas.{place_status}
use Rattle.airyrun.specs.Bulks.{LeadsToBulk, bulk_error, bulk_report, changes_report, closed_summary}
use Rattle.run_reports.proofs.HeadlineLemmas.{JobLaws}
use Rattle.run_reports.proofs.TableHeadline.{whole_of}
use Rattle.amp_plan.proofs.SameLimits.{counts_same}
use Rattle.run_reports.proofs.StructureLemmas.{stood_report, table_never}
use Rattle.airyrun.proofs.ValuedLemmas.{same_full}
use Rattle.bulk_tensors.proofs.BulkLaw.{after_dim}

-- the laws that a large structure rests on
pub record BulkLaws : Type 0 where
  pub jobs : JobLaws
  pub below : BelowDimLaw
  pub tables : SameTablesLaw
  pub verdicts : SameVerdictLaw
  pub orders : NoOrdersLaw

-- the summary of stored tensors is that of those that they stand for
same_summary : (t : Entries) (T : Tensors) (letter : Bool) (X : ℕ) → PlanLaw → BelowDimLaw → SameTablesLaw → SameEntries (looked_up t) T
    → summary_text letter (looked_up t) X ≡ summary_text letter T X
unfolding summary_text
same_summary t T letter X once below tables same =
    joined ((below (looked_up t) T same).plan X) (counts_same (looked_up t) T X once (below (looked_up t) T same)) same.shape (same_full t T X tables same)
  where
    joined : {ks js : List Key} {cs ds : List ℕ} {s s' : Shape} {os ps : List (Option Outcome)} → ks ≡ js → cs ≡ ds → s ≡ s' → os ≡ ps
        → count_text (codes "cells ") (length ks) ++ (count_text (codes "needs ") (total cs) ++ (last_of letter s ks os ++ codes "solution\n"))
        ≡ count_text (codes "cells ") (length js) ++ (count_text (codes "needs ") (total ds) ++ (last_of letter s' js ps ++ codes "solution\n"))
    joined a b c d = cc

bulk_dim : (seed dim : ℕ) → (bulk seed dim).dim ≡ dim
unfolding bulk
bulk_dim seed dim = after_dim seed dim (dim - 1)

module _ (laws : BulkLaws) (seed dim X : ℕ) (t : Entries) (stands : StandsForBulk seed dim t) (bounded : is_bound X ≡ true) where
  planned_bulk : ArePlanned t (Bulk (bulk seed dim)) X
  unfolding planned_tensors has_letter
  planned_bulk = record { entries = stands.entries; letter = stands.letter }

  stored_is : stored_report t X ≡ table_report (Bulk (bulk seed dim)) X
  unfolding making_over
  stored_is = sym (stood_report (Bulk (bulk seed dim)) t X laws.jobs.planned laws.below laws.tables bounded refl planned_bulk)

  summed_is : formed_stored plan_summary t X ≡ summed false (bulk seed dim) X (table_report (Bulk (bulk seed dim)) X)
  unfolding tensors_of
  summed_is =
      ap₂ in_place (ap (λ l. summary_text l (looked_up t) X) stands.letter ∙ same_summary t (bulk seed dim) false X laws.jobs.planned laws.below laws.tables stands.entries) stored_is

  found_is : verdict (looked_up t) t.dim ≡ verdict (bulk seed dim) dim
  unfolding looked_up
  found_is = laws.verdicts (looked_up t) (bulk seed dim) stands.entries t.dim (le_refl t.dim) ∙ ap (verdict (bulk seed dim)) (stands.entries.dim ∙ bulk_dim seed dim)

  pub summary_is : closed_summary t X ≡ bulk_report seed dim X
  unfolding closed_summary bulk_report changes_report
  summary_is = rw (bounded, stands.obtained) (ap₂ relations_report found_is summed_is)

-- ---- what the report says

-- a report other than the summary and that of two orders
pub other_bulk_leads : (seed dim X : ℕ) (report : Report) → (report ≡ bulk_report seed dim X) ⊎ (IsTrue (is_bound X) × (report ≡ out_of_memory)) → report.status ≢ 0 → report.status ≢ 7
    → LeadsToBulk seed dim X report
other_bulk_leads seed dim X report said not_zero seven =
    record { said = said; headline = λ e. absurd (not_zero e); accepted = λ e. absurd (not_zero e); never = seven }

-- the bound is refused
pub beyond_bulk : (seed dim X : ℕ) (before now : Taking) (result : ℕ) → is_bound X ≡ false → Ends (bound_refused X) before now result → EndsBy (LeadsToBulk seed dim X) before now result
unfolding bulk_report
beyond_bulk seed dim X before now result out e =
    (bound_refused X, other_bulk_leads seed dim X (bound_refused X) (inl (rw out refl)) (λ h. omega arith) (λ h. omega arith), e)

-- memory is wanting
pub wanting_bulk : (seed dim X : ℕ) (before now : Taking) (result : ℕ) → is_bound X ≡ true → Ends out_of_memory before now result → EndsBy (LeadsToBulk seed dim X) before now result
wanting_bulk seed dim X before now result bounded e =
    (out_of_memory, other_bulk_leads seed dim X out_of_memory (inr (bounded, refl)) (λ h. omega arith) (λ h. omega arith), e)

-- a step of a change leaves the range
refused_change : (seed dim X q : ℕ) (before now : Taking) (result : ℕ) → is_bound X ≡ true → bulk_refusal seed dim ≡ Some q
    → Ends (record { status = 6; bytes = refusal (codes "over in change ") (decimal q) }) before now result → EndsBy (LeadsToBulk seed dim X) before now result
unfolding bulk_report changes_report
refused_change seed dim X q before now result bounded named e = (
  record { status = 6; bytes = refusal (codes "over in change ") (decimal q) },
  other_bulk_leads seed dim X (record { status = 6; bytes = refusal (codes "over in change ") (decimal q) }) (inl (rw (bounded, named) refl)) (λ h. omega arith) (λ h. omega arith),
  e,
)

-- the statuses behind the relations
behind_relations : (v : Verdict) (next : Report) → (relations_report v next).status ≡ 0 → (v ≡ Closed) × (next.status ≡ 0)
unfolding relations_report
behind_relations Closed next e = (refl, e)
behind_relations (Differs rel place left right) next e = absurd (omega (arith, e))
behind_relations (Over rel place) next e = absurd (omega (arith, e))

seven_behind : (v : Verdict) (next : Report) → (relations_report v next).status ≡ 7 → (v ≡ Closed) × (next.status ≡ 7)
unfolding relations_report
seven_behind Closed next e = (refl, e)
seven_behind (Differs rel place left right) next e = absurd (omega (arith, e))
seven_behind (Over rel place) next e = absurd (omega (arith, e))

module _ (laws : BulkLaws) (seed dim X : ℕ) (t : Entries) (stands : StandsForBulk seed dim t) (bounded : is_bound X ≡ true) (tells : IsVerdict (looked_up t) t.dim) where
  report_is : bulk_report seed dim X ≡ relations_report (verdict (bulk seed dim) dim) (summed false (bulk seed dim) X (table_report (Bulk (bulk seed dim)) X))
  unfolding bulk_report changes_report
  report_is = rw (bounded, stands.obtained) refl

  close_is : Close (looked_up t) t.dim → Close (bulk seed dim) dim
  unfolding looked_up
  close_is h =
      subst (Close (bulk seed dim)) (stands.entries.dim ∙ bulk_dim seed dim)
      (((laws.below (looked_up t) (bulk seed dim) stands.entries).relations t.dim (le_refl t.dim)).0 h)

  said_whole : LeadsToBulk seed dim X (bulk_report seed dim X)
  unfolding planned_tensors IsSound
  said_whole = record {
    said = inl refl;
    headline = λ e.
        (whole_of laws.jobs (Bulk (bulk seed dim)) X stands.sound (sym (place_status _ _) ∙ (behind_relations (verdict (bulk seed dim) dim) _ (sym (ap (λ (r : Report). r.status) report_is) ∙ e)).1)).1;
    accepted = λ e.
        let closed = (behind_relations (verdict (bulk seed dim) dim) _ (sym (ap (λ (r : Report). r.status) report_is) ∙ e)).0 in
        close_is (tells.holds (found_is laws seed dim X t stands bounded ∙ closed));
    never = λ e.
        let behind = seven_behind (verdict (bulk seed dim) dim) _ (sym (ap (λ (r : Report). r.status) report_is) ∙ e) in
        let close = close_is (tells.holds (found_is laws seed dim X t stands bounded ∙ behind.0)) in
        let orders = laws.orders (bulk seed dim) stands.sound.0 stands.sound.1 (subst (Close (bulk seed dim)) (sym (bulk_dim seed dim)) close) X in
        table_never (Bulk (bulk seed dim)) X orders (sym (place_status _ _) ∙ behind.1);
  }

  pub bulk_ends : (before now : Taking) (result : ℕ) → EndsOrWants (closed_summary t X) before now result → EndsBy (LeadsToBulk seed dim X) before now result
  bulk_ends before now result (inl e) = (bulk_report seed dim X, said_whole, subst (λ r. Ends r before now result) (summary_is laws seed dim X t stands bounded) e)
  bulk_ends before now result (inr e) = wanting_bulk seed dim X before now result bounded e

-- why the tensors aren't made
pub error_bulk : (seed dim X : ℕ) (why : BulkErr) (before now : Taking) (result : ℕ) → is_bound X ≡ true → NamesStep why (bulk_refusal seed dim) → Ends (bulk_error why) before now result
    → EndsBy (LeadsToBulk seed dim X) before now result
unfolding bulk_error NamesStep
error_bulk seed dim X (error.Over q) before now result bounded named e = refused_change seed dim X q before now result bounded named e
error_bulk seed dim X error.NoMemory before now result bounded named e = wanting_bulk seed dim X before now result bounded e

-- ---- stored tensors, by what the check of their relations finds

other_next : (v : Verdict) (next other : Report) → (v ≡ Closed → ⊥) → relations_report v next ≡ relations_report v other
unfolding relations_report
other_next Closed next other fails = absurd (fails refl)
other_next (Differs rel place left right) next other fails = refl
other_next (Over rel place) next other fails = refl

pub summary_ends : (t : Entries) (X : ℕ) (before now : Taking) (result : ℕ) → Closed ≡ verdict (looked_up t) t.dim → EndsOrWants (formed_stored plan_summary t X) before now result
    → EndsOrWants (closed_summary t X) before now result
unfolding closed_summary relations_report
summary_ends t X before now result found h = rw (← found) h

pub fails_summary : (t : Entries) (X : ℕ) (v : Verdict) (before now : Taking) (result : ℕ) → v ≡ verdict (looked_up t) t.dim → (v ≡ Closed → ⊥) → Ends (relations_report v closed) before now result
    → EndsOrWants (closed_summary t X) before now result
unfolding closed_summary
fails_summary t X v before now result found fails h = inl (subst (λ r. Ends r before now result) (other_next v closed (formed_stored plan_summary t X) fails ∙ ap (λ w. relations_report w (formed_stored plan_summary t X)) found) h)
