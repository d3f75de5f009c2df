use Rattle.std.proofs.Common.{ℕ, ◌<◌, rules, arith, refl, sym, ap, subst, ◌≡◌, ◌∙◌, ◌+◌, length, drop, [], ◌∷◌, List, slice_index_or}
use Rattle.airy_index.proofs.Words.{drop_more, nil_from_length, Run}
use Rattle.airy_index.proofs.ChosenLemmas.{IsBuilt, Fits, built_none, built_more, next_fits, built_all}
use Rattle.airy_index.proofs.splits.chosen.Goals as goal

pub loop-run-init : goal.loop-run-init
loop-run-init c = rw (c.new.ensures, c.new-2.ensures) (built_none c.args.runs.now c.requires)

-- the run at a place
abbrev run_at : List Run → ℕ → Run
run_at rs i = slice_index_or rs i (record { index = 0; count = 0; taken = 0 })

at_run : (part rest : List ℕ) (weight : ℕ) (rs : List Run) (i : ℕ) → i < length rs → IsBuilt part rest weight (drop i rs) rs → IsBuilt part rest weight (run_at rs i ∷ drop (i + 1) rs) rs
at_run part rest weight rs i h b = subst (λ l. IsBuilt part rest weight l rs) (drop_more rs i (record { index = 0; count = 0; taken = 0 }) h) b

fits : (part rest : List ℕ) (weight : ℕ) (rs : List Run) (i : ℕ) → i < length rs → IsBuilt part rest weight (drop i rs) rs → Fits part rest weight (run_at rs i)
fits part rest weight rs i h b = next_fits part rest weight (run_at rs i) (drop (i + 1) rs) rs (at_run part rest weight rs i h b)

pub push_times-requires : goal.push_times-requires
push_times-requires c =
    let f = fits _ _ _ c.args.runs.now c.loop-run.run-index c.loop-run-test.true c.loop-run.invariant in
    omega (arith, f.choice, f.room)

pub overflow_sub-run : goal.overflow_sub-run
overflow_sub-run c = (fits _ _ _ c.args.runs.now c.loop-run.run-index c.loop-run-test.true c.loop-run.invariant).choice

pub push_times-requires-in-loop-run : goal.push_times-requires-in-loop-run
push_times-requires-in-loop-run c =
    let f = fits _ _ _ c.args.runs.now c.loop-run.run-index c.loop-run-test.true c.loop-run.invariant in
    omega (arith, f.choice, f.room)

pub binomial-requires-clause-all : goal.binomial-requires-clause-all
binomial-requires-clause-all c = (fits _ _ _ c.args.runs.now c.loop-run.run-index c.loop-run-test.true c.loop-run.invariant).choice

pub binomial-requires-clause-short : goal.binomial-requires-clause-short
binomial-requires-clause-short c =
    let f = fits _ _ _ c.args.runs.now c.loop-run.run-index c.loop-run-test.true c.loop-run.invariant in
    omega (arith, f.room)

pub overflow_mul-split : goal.overflow_mul-split
overflow_mul-split c =
    let f = fits _ _ _ c.args.runs.now c.loop-run.run-index c.loop-run-test.true c.loop-run.invariant in
    rw c.binomial.ensures (omega (arith, f.small))

pub loop-run-preserved : goal.loop-run-preserved
loop-run-preserved c =
    let b = at_run _ _ _ c.args.runs.now c.loop-run.run-index c.loop-run-test.true c.loop-run.invariant in
    rw (c.push_times.ensures, c.push_times-in-loop-run.ensures, c.binomial.ensures) (built_more _ _ _ _ _ c.args.runs.now b)

pub returns : goal.returns
returns c =
    let none : drop c.loop-run.run-index c.args.runs.now ≡ [] = nil_from_length _ (omega (arith, c.loop-run-test.false, Rattle.std.proofs.Common.length-drop c.loop-run.run-index c.args.runs.now)) in
    built_all _ _ _ _ c.args.runs.now c.loop-run.invariant none
