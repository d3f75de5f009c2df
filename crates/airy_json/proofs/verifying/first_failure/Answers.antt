use Rattle.std.proofs.Common.{sym, ap, ◌∙◌, arith}
use Rattle.airy_json.proofs.Common.{ℚ, Key, Planning, tensors_of, keys_of, number_at, listed, every, given_to, said, verified, rank_at}
use Rattle.amp_terms.specs.Outcomes.{value_in}
use Rattle.constraint_check.specs.Pivots.{numbers_shown, failing_from}
use Rattle.constraint_check.proofs.StepLemmas.{no_keys}
use Rattle.airy_json.proofs.GivenLemmas.{has_listed, said_failed}
use Rattle.airy_json.proofs.verifying.first_failure.Goals as goal

pub first_failing-requires-clause-shows : goal.first_failing-requires-clause-shows
first_failing-requires-clause-shows c = record { within = λ r h. omega (arith, h, c.requires); values = λ r h. has_listed c.args.values.now r (omega (arith, h, c.requires)) }

pub returns-in-None : goal.returns-in-None
unfolding verified said failing_from numbers_shown number_at given_to value_in rank_at keys_of listed
returns-in-None c =
    let p : Planning = c.args.plan.now in let F : Key → ℚ = given_to (tensors_of p) p.bound c.args.values.now in
    sym (ap (said F) (c.in-None.ensures ∙ no_keys (tensors_of p) F every (keys_of p) c.len.result (omega (arith, c.len.ensures))))

pub returns-in-Some : goal.returns-in-Some
unfolding verified failing_from numbers_shown number_at given_to value_in rank_at keys_of listed
returns-in-Some c =
    let p : Planning = c.args.plan.now in let F : Key → ℚ = given_to (tensors_of p) p.bound c.args.values.now in let f = c.in-Some.ensures in
    sym (ap (said F) (f.passed ∙ f.fails) ∙ said_failed F c.failed.result c.in-Some.failure c.failed.ensures f.value)
