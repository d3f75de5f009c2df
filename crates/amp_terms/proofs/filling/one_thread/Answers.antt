use Rattle.std.proofs.Common.{arith, sym, ap, subst, ◌∙◌, ◌+◌, [], replicate, None}
use Rattle.amp_plan.specs.Plans.{tensors_of, keys_of, key_at}
use Rattle.amp_terms.specs.Outcomes.{outcomes, outcomes_after}
use Rattle.amp_terms.specs.Tables.{full_table}
use Rattle.amp_terms.proofs.FillingLemmas.{IsUnderway, underway-start, underway-next, underway-all, length-underway, underway-lower}
use Rattle.amp_terms.proofs.filling.one_thread.Goals as goal

pub loop-rank-init : goal.loop-rank-init
loop-rank-init c =
    let T = tensors_of c.args.plan.now in
    let plan = keys_of c.args.plan.now in
    let e = c.in_ok-table.ensures ∙ ap (λ n. replicate n None) c.len.ensures in
    subst (IsUnderway T plan (outcomes_after T plan [] plan) 0) (sym e) (underway-start T plan)

pub outcome_at-outcome-requires-clause-lower : goal.outcome_at-outcome-requires-clause-lower
outcome_at-outcome-requires-clause-lower c =
    let T = tensors_of c.args.plan.now in
    let plan = keys_of c.args.plan.now in
    underway-lower T plan (outcomes_after T plan [] plan) c.loop-rank.rank c.loop-rank.table c.loop-rank.invariant (omega (arith, c.len-rank-end.ensures, c.loop-rank-test.true))

pub set-requires : goal.set-requires
set-requires c =
    let T = tensors_of c.args.plan.now in
    let plan = keys_of c.args.plan.now in
    let e = length-underway T plan (outcomes_after T plan [] plan) c.loop-rank.rank c.loop-rank.table c.loop-rank.invariant (omega (arith, c.len-rank-end.ensures, c.loop-rank-test.true)) in
    omega (arith, e, c.len-rank-end.ensures, c.loop-rank-test.true)

pub loop-rank-preserved : goal.loop-rank-preserved
unfolding key_at
loop-rank-preserved c =
    let T = tensors_of c.args.plan.now in
    let plan = keys_of c.args.plan.now in
    let goal = outcomes_after T plan [] plan in
    subst (IsUnderway T plan goal (c.loop-rank.rank + 1)) (sym c.set.ensures)
    (underway-next T plan goal c.loop-rank.rank c.loop-rank.table c.outcome_at-outcome.result c.loop-rank.invariant (omega (arith, c.len-rank-end.ensures, c.loop-rank-test.true)) c.outcome_at-outcome.ensures)

pub returns-clause-table : goal.returns-clause-table
unfolding full_table outcomes keys_of
returns-clause-table c =
    let T = tensors_of c.args.plan.now in
    let plan = keys_of c.args.plan.now in
    underway-all T plan (outcomes_after T plan [] plan) c.loop-rank.rank c.loop-rank.table c.loop-rank.invariant (omega (arith, c.len-rank-end.ensures, c.loop-rank-test.false))

pub returns-clause-len : goal.returns-clause-len
returns-clause-len c =
    let T = tensors_of c.args.plan.now in
    let plan = keys_of c.args.plan.now in
    length-underway T plan (outcomes_after T plan [] plan) c.loop-rank.rank c.loop-rank.table c.loop-rank.invariant (omega (arith, c.len-rank-end.ensures))
