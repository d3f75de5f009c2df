-- What a verdict tells.
use Rattle.std.proofs.Common.{◌≡◌, ◌≢◌, ℕ, ◌∙◌, subst, arith}
use Rattle.run_reports.proofs.Names.{Close, Tensors, Verdict, Closed, Differs, Over, closed, relations_report, verdict, IsVerdict}
use Rattle.airy_relations.specs.NoDifference.{FindsNoDifference}
use Rattle.airy_relations.specs.Numbers.{Fails, TellsFailure}

-- a verdict that a check answered
pub verdict_tells : (T : Tensors) (N : ℕ) (v : Verdict) → v ≡ verdict T N → (v ≡ Closed → Close T N) → TellsFailure T N v → IsVerdict T N
unfolding TellsFailure
verdict_tells T N v e closes differs = record {
  holds = λ h. closes (e ∙ h);
  fails = λ rel place left right h close. let failed : Fails T N rel place left right = subst (TellsFailure T N) (e ∙ h) differs in failed.not_closed close;
}

-- where no relation fails, no report says so
pub no_four : (v : Verdict) → FindsNoDifference v → (relations_report v closed).status ≢ 4
unfolding FindsNoDifference relations_report closed
no_four Closed d = λ e. omega arith
no_four (Differs rel place left right) d = absurd d
no_four (Over rel place) d = λ e. omega arith
