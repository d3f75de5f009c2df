use Rattle.std.proofs.Common.{◌∙◌, ap, length, subst, List}
use Rattle.airymore.proofs.VerifyLemmas.{given_ends, refusal_ends}
use Rattle.airymore.proofs.Words.{ℚ, AreSound, tensors_of, Ends, verified, verified_report}
use Rattle.airymore.proofs.verify.verify.Goals as goal

pub verify_given-requires : goal.verify_given-requires
verify_given-requires g c = ap (λ (vs : List ℚ). length vs) c.as_slice.ensures.value ∙ c.in-Ok.ensures.read.tells.said.one_each

pub returns-in-Ok : goal.returns-in-Ok
returns-in-Ok g c =
    given_ends _ _ _ _ _ (record { planned = c.planned_once.ensures; below = c.below_dim.ensures; unique = c.job_uniqueness.ensures; job = c.verified_job.ensures; same = c.same_verified.ensures })
    c.in-Ok.given (subst AreSound c.tensors.ensures c.soundness_fact.ensures) c.in-Ok.ensures.read c.in-Ok.ensures.cause
    (subst (λ (vs : List ℚ). Ends (verified_report (verified (tensors_of c.in-Ok.given.plan) c.in-Ok.given.plan.bound vs)) (g.W.Sink.state c.args.out.now) (g.W.Sink.state c.verify_given.new.out) c.verify_given.result)
    c.as_slice.ensures.value c.verify_given.ensures)

pub returns-in-Err : goal.returns-in-Err
returns-in-Err g c = refusal_ends _ _ _ _ _ c.in-Err.refusal c.in-Err.ensures.read c.in-Err.ensures.cause c.refuse_document.ensures
