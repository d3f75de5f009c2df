-- What verifying the values of a job's keys says of the job's solutions.
use Rattle.std.proofs.Common.{ℕ, ◌≡◌, subst}
use Rattle.airy_json.proofs.Common.{ℚ, 0ℚ, Key, Tensors, letter_of, power, power_none, series_with, as_table, verified, Says, power_not_zero, Shown, job_solution, job_uniqueness, JobVerifiedLaw, job_series}
use Rattle.airy_math.specs.Jobs.{IsSolutionOf, letter_value, planned_tensors, tensors_at}
use Rattle.airy_math.proofs.FamilyPlans.{le_self}
use Rattle.airy_math.proofs.JobCutLaw.{ready}
use Rattle.airy_json.specs.declared.verify_ends.VerifyEnd.TheVariants.{Differs}
use Rattle.airy_json.proofs.VerifiedLaw.{verified_law, none_greater}
use Rattle.series_law.proofs.JobCheckLaw.{ArePlanned, plan_sound}

pub job_verified : JobVerifiedLaw
unfolding job_series
job_verified s X h x vs long = record {
  here = here;
  solved = λ e m v w. job_solution s X h x (as_table vs) (here.solution e).pivots m v w;
  unique = λ e m v f so. subst (λ t. Shown X (letter_value s v) T (tensors_at s m v) t f) (here.solution e).table (job_uniqueness s X h x m v f so);
  nowhere = λ key i a b e. record {
    but_zero = λ m v some so. none key i a b e m v (power_not_zero (letter_value s v) (letter_of T.shape key) some) so;
    zero_too = λ zero m v so. none key i a b e m v (power_none (letter_value s v) (letter_of T.shape key) zero) so;
  };
}
  where
    T : Tensors
    T = planned_tensors s X

    sound : ArePlanned T
    sound = plan_sound s X h

    here : Says T X vs (verified T X vs)
    here = verified_law T X vs sound.symmetric sound.graded long

    none : (key : Key) (i : ℕ) (a b : ℚ) → verified T X vs ≡ Differs key i a b → (m : ℕ) (v : ℚ) → (power (letter_value s v) (letter_of T.shape key) ≡ 0ℚ → ⊥)
        → IsSolutionOf s X m v (series_with (letter_value s v) T X (as_table vs)) → ⊥
    none key i a b e m v some so =
        let r = ready s X X m v h x (le_self X) so.wide in
        none_greater X (letter_value s v) T (tensors_at s m v) r.graded r.symmetric' r.graded' r.cut vs long key i a b e some so.solves
