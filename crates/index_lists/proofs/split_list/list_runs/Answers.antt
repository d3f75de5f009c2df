use Rattle.std.proofs.Common.{rules, arith, ◌≡◌, ◌+◌, ◌-◌, ◌<◌, ◌∷◌, [], length, take, drop, ap, subst, ◌∙◌, to_z, of_z, w64, true, ℤ}
use lib.ListN.{get_or}
use Rattle.std.proofs.lemmas.List.{drop_more}
use Rattle.index_lists.proofs.Words.{all_listed, going_on, full, no_split, take_more}
use Rattle.index_lists.specs.Parts.{listed}
use Rattle.index_lists.proofs.SplitListLemmas.{AreRunsListed, run-short, runs-begun, runs-next}
use Rattle.index_lists.proofs.split_list.list_runs.Goals as goal

pub loop-left-init : goal.loop-left-init
loop-left-init g c = runs-begun (to_z w64 (of_z w64 c.args.per_n)) c.args.runs.now c.args.listed.now

pub list_run-requires : goal.list_run-requires
list_run-requires g c =
    let same : to_z w64 (of_z w64 c.args.per_n) ≡ c.args.per_n = search rules in
    let short = run-short c.args.runs.now (c.loop-left.left - 1) (0, 0) (omega (arith, c.loop-left-test.true, c.loop-left.invariant.within)) in
    (search rules, (rw same c.requires.law, (search rules, omega (arith, short, c.requires.few))))

pub loop-left-preserved : goal.loop-left-preserved
loop-left-preserved g c =
    let per = to_z w64 (of_z w64 c.args.per_n) in
    let i = c.loop-left.left - 1 in
    let next : c.loop-left.left ≡ i + 1 = omega (arith, c.loop-left-test.true) in
    let within : i < length c.args.runs.now = omega (arith, c.loop-left-test.true, c.loop-left.invariant.within) in
    let all : c.list_run.result ≡ true = search rules in
    runs-next (get_or c.args.runs.now i (0, 0)) (subst (λ n. AreRunsListed per c.args.runs.now n c.args.listed.now c.loop-left.listed) next c.loop-left.invariant) (take_more c.args.runs.now i (0, 0) within) (drop_more c.args.runs.now i (0, 0) within)
    (c.list_run.ensures all)

pub returns : goal.returns
unfolding full no_split listed
returns g c = λ done whole.
    let same : to_z w64 (of_z w64 c.args.per_n) ≡ c.args.per_n = search rules in
    let none : c.loop-left.left ≡ 0 = omega (arith, c.loop-left-test.false) in
    let is = subst (λ (z : ℤ). c.args.listed.now ≡ all_listed z (full c.args.runs.now ∷ []) → c.loop-left.listed ≡ all_listed z (going_on (full (take c.loop-left.left c.args.runs.now)) (drop c.loop-left.left c.args.runs.now) 0)) same c.loop-left.invariant.is in
    is whole ∙ ap (λ n. all_listed c.args.per_n (going_on (full (take n c.args.runs.now)) (drop n c.args.runs.now) 0)) none
