-- What the check of a job's table says of the job's solutions.
use Rattle.std.proofs.Common.{ℕ, suc, ◌≡◌, sym, ◌∙◌}
use Rattle.airy_math.specs.Rational.{ℚ}
use Rattle.airy_math.specs.RationalLaws.{0ℚ}
use Rattle.airy_math.specs.Keys.{Key}
use Rattle.airy_math.specs.Series.{Series}
use Rattle.airy_math.specs.Cuts.{letter_of, power}
use Rattle.airy_math.specs.Tensors.{Tensors, IsSymmetric, IsGraded}
use Rattle.airy_math.specs.Families.{top_wk, top_bgw}
use Rattle.airy_math.specs.Jobs.{Structure, Wk, Bgw, Wp, Bulk, Text, Lettered, IsSolutionOf, IsSound, letter_value, planned_tensors, tensors_at}
use Rattle.airy_math.proofs.FamilyLaw.{wk_graded, wk_symmetric, bgw_graded, bgw_symmetric, wp_cut_graded, wp_cut_symmetric}
use Rattle.airy_math.proofs.FamilyPlans.{le_self}
use Rattle.airy_math.proofs.JobCutLaw.{ready}
use Rattle.airy_math.proofs.PowerLemmas.{power_not_zero, power_none}
use Rattle.amp_terms.specs.Outcomes.{outcomes}
use Rattle.series_law.specs.Check.{check, Checks, Orders}
use Rattle.series_law.specs.Jobs.{JobCheckedLaw}
use Rattle.series_law.proofs.CheckLaw.{check_law, two_orders}
use Rattle.series_law.proofs.PivotsLaw.{cut_orders}
use Rattle.series_law.proofs.JobLaw.{job_solution}

-- The tensors of a job's plan are symmetric and keep the grading.
pub record ArePlanned (T : Tensors) : Type 0 where
  pub symmetric : IsSymmetric T
  pub graded : IsGraded T

pub plan_sound : (s : Structure) (X : ℕ) → IsSound s → ArePlanned (planned_tensors s X)
unfolding planned_tensors IsSound
plan_sound Wk X h = record { symmetric = wk_symmetric (top_wk X); graded = wk_graded (top_wk X) }
plan_sound Bgw X h = record { symmetric = bgw_symmetric (top_bgw X); graded = bgw_graded (top_bgw X) }
plan_sound Wp X h = record { symmetric = wp_cut_symmetric (suc (top_wk X)) (top_wk X); graded = wp_cut_graded (suc (top_wk X)) (top_wk X) }
plan_sound (Bulk T) X h = record { symmetric = h.0; graded = h.1 }
plan_sound (Text T) X h = record { symmetric = h.0; graded = h.1 }
plan_sound (Lettered T) X h = record { symmetric = h.0; graded = h.1 }

pub job_checked : JobCheckedLaw
job_checked s X h x = record {
  solved = λ e m v w. job_solution s X h x (outcomes T X) (checks.passed e) m v w;
  unsolvable = λ key i j a b e f so. checks.no_solution key i j a b e f so;
  nowhere = λ key i j a b e. record {
    but_zero = λ m v f some so. no_series key i j a b e m v f (power_not_zero (letter_value s v) (letter_of T.shape key) some) so;
    zero_too = λ none m v f so. no_series key i j a b e m v f (power_none (letter_value s v) (letter_of T.shape key) none) so;
  };
}
  where
    T : Tensors
    T = planned_tensors s X

    sound : ArePlanned T
    sound = plan_sound s X h

    checks : Checks T X
    checks = check_law T X sound.symmetric sound.graded

    no_series : (key : Key) (i j : ℕ) (a b : ℚ) → check T X (outcomes T X) ≡ Orders key i a j b → (m : ℕ) (v : ℚ) (f : Series) → (power (letter_value s v) (letter_of T.shape key) ≡ 0ℚ → ⊥) → IsSolutionOf s X m v f → ⊥
    no_series key i j a b e m v f some so =
        let o = two_orders T X sound.graded key i j a b e in
        let r = ready s X X m v h x (le_self X) so.wide in
        cut_orders X (letter_value s v) T (tensors_at s m v) r.graded r.symmetric' r.graded' r.cut o.full key o.listed i j o.stands.0 o.stands.1 (λ same. o.differ (o.sums.0 ∙ same ∙ sym o.sums.1)) some f so.solves
