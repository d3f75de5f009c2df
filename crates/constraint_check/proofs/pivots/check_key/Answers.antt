use Rattle.std.proofs.Common.{◌≤◌, ℕ, List, length, drop, sym, ap, subst, ◌∙◌, inl, inr}
use Rattle.airy_math.specs.Rational.{ℚ}
use Rattle.airy_math.specs.Keys.{Key}
use Rattle.airy_math.specs.Tensors.{Tensors}
use Rattle.amp_plan.specs.Plans.{tensors_of}
use Rattle.series_law.specs.Scans.{failing_pivot}
use Rattle.constraint_check.specs.Pivots.{ShowsValues, numbers_shown, looks}
use Rattle.constraint_check.proofs.StepLemmas.{stands, passes, skipped, no_pivots, pivot_fails, pivot_agrees}
use Rattle.constraint_check.proofs.pivots.check_key.Goals as goal
use Rattle.constraint_check.proofs.pivots.check_key.Goals.{then-is_pivot+then-is_last+in_default, else-is_pivot, else-is_pivot-via-then-is_pivot+else-is_last, else-is_pivot-via-else-is_pivot}

pub check_pivot-requires-clause-pivot : goal.check_pivot-requires-clause-pivot
check_pivot-requires-clause-pivot g c = stands (tensors_of c.args.plan.now) (numbers_shown c.args.plan.now (g.S.Seen.shown c.args.seen.now)) (looks c.args.pivots) c.args.key.now c.idx-indices.result.now c.idx-indices.ensures c.loop-at.at c.loop-at-test.true

pub returns-in-Some-clause-fails : goal.returns-in-Some-clause-fails
returns-in-Some-clause-fails g c =
    let T : Tensors = tensors_of c.args.plan.now in let F : Key → ℚ = numbers_shown c.args.plan.now (g.S.Seen.shown c.args.seen.now) in
    let key : Key = c.args.key.now in let xs : List ℕ = c.idx-indices.result.now in let at : ℕ = c.loop-at.at in
    sym (sym c.loop-at.invariant.left ∙ ap (λ ys. failing_pivot T F (looks c.args.pivots) key (drop at ys)) (sym c.idx-indices.ensures)
    ∙ pivot_fails T F (looks c.args.pivots) key xs at c.loop-at-test.true (sym c.is_pivot.ensures ∙ c.if-is_pivot.true) c.args.value c.requires.value _ (ap (numbers_shown c.args.plan.now) c.loop-at.invariant.same) c.check_pivot.result c.check_pivot.ensures.fails c.in-Some.failing c.in-Some.is)

pub loop-at-preserved : goal.loop-at-preserved
loop-at-preserved g c =
    let p = c.args.plan.now in let T : Tensors = tensors_of p in let F : Key → ℚ = numbers_shown p (g.S.Seen.shown c.args.seen.now) in
    let key : Key = c.args.key.now in let xs : List ℕ = c.idx-indices.result.now in let at : ℕ = c.loop-at.at in
    let next = passes T F (looks c.args.pivots) key xs c.idx-indices.ensures at c.loop-at-test.true in
    let skip = skipped T F (looks c.args.pivots) key xs at c.loop-at-test.true in
    elim c.if-is_pivot.branch [
      | then-is_pivot+then-is_last+in_default w ↦ record {
        shows = subst (λ s. ShowsValues p (g.S.Seen.has s) (g.S.Seen.shown s)) (sym w.seen-is) w.check_pivot.ensures.shows;
        same = ap g.S.Seen.shown w.seen-is ∙ w.check_pivot.ensures.same ∙ c.loop-at.invariant.same;
        left = sym (next (pivot_agrees T F (looks c.args.pivots) key xs at c.loop-at-test.true (sym c.is_pivot.ensures ∙ w.if-is_pivot.true) c.args.value c.requires.value _ (ap (numbers_shown p) c.loop-at.invariant.same) w.check_pivot.result w.check_pivot.ensures.fails w.in_default.is)) ∙ c.loop-at.invariant.left;
      }
      | else-is_pivot w ↦ record {
        shows = subst (λ s. ShowsValues p (g.S.Seen.has s) (g.S.Seen.shown s)) (sym w.seen-is) c.loop-at.invariant.shows;
        same = ap g.S.Seen.shown w.seen-is ∙ c.loop-at.invariant.same;
        left = sym (next (skip (elim w.else-is_pivot.branch [
          | else-is_pivot-via-then-is_pivot+else-is_last w' ↦ inr (w'.is_last.ensures w'.if-is_last.false)
          | else-is_pivot-via-else-is_pivot w' ↦ inl (sym c.is_pivot.ensures ∙ w'.if-is_pivot.false)
        ]))) ∙ c.loop-at.invariant.left;
      }
    ]

pub returns-clause-fails : goal.returns-clause-fails
returns-clause-fails g c =
    let T : Tensors = tensors_of c.args.plan.now in let F : Key → ℚ = numbers_shown c.args.plan.now (g.S.Seen.shown c.args.seen.now) in
    sym (sym c.loop-at.invariant.left ∙ no_pivots T F (looks c.args.pivots) c.args.key.now c.args.key.now.idx c.loop-at.at (subst (λ (xs : List ℕ). length xs ≤ c.loop-at.at) c.idx-indices.ensures c.loop-at-test.false))
