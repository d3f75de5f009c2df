use Rattle.std.proofs.Common.{◌+◌, sym, ap, ap₂, subst, ◌∙◌, arith}
use Rattle.airy_math.specs.Rational.{ℚ}
use Rattle.airy_math.specs.Keys.{Key}
use Rattle.airy_math.specs.Planned.{IsPlanned}
use Rattle.amp_plan.specs.Plans.{Planning, tensors_of, keys_of, key_at}
use Rattle.series_law.specs.Scans.{of_key}
use Rattle.constraint_check.specs.Pivots.{numbers_shown, looks, failing_from}
use Rattle.constraint_check.proofs.StepLemmas.{key_decides}
use Rattle.constraint_check.proofs.pivots.first_failing.Goals as goal

pub check_key-requires-clause-planned : goal.check_key-requires-clause-planned
unfolding keys_of key_at
check_key-requires-clause-planned g c =
    let p : Planning = c.args.plan.now in
    subst (IsPlanned (tensors_of p) p.bound) (sym c.key-key.ensures) ((c.planned_once.ensures (tensors_of p) p.bound).only c.loop-rank.rank (omega (arith, c.loop-rank-test.true, c.requires.to)))

pub returns-in-Some : goal.returns-in-Some
unfolding failing_from key_at of_key
returns-in-Some g c =
    let p : Planning = c.args.plan.now in let F : Key → ℚ = numbers_shown p (g.S.Seen.shown c.args.seen.now) in
    let same = ap (numbers_shown p) (c.shown_value-value.ensures.same ∙ c.loop-rank.invariant.same) in
    record {
      low = c.loop-rank.auto.rank;
      high = c.loop-rank-test.true;
      passed = c.loop-rank.invariant.left;
      fails = key_decides (tensors_of p) F (looks c.args.pivots) (keys_of p) c.loop-rank.rank (omega (arith, c.loop-rank-test.true, c.requires.to)) c.key-key.result c.key-key.ensures _ same c.check_key.result c.check_key.ensures.fails
          ∙ ap (λ o. of_key c.key-key.result o (failing_from p F (looks c.args.pivots) (c.loop-rank.rank + 1))) c.in-Some.is;
      value = c.shown_value-value.ensures.value ∙ ap₂ (λ G k. G k) (ap (numbers_shown p) c.loop-rank.invariant.same) (sym c.key-key.ensures);
    }

pub loop-rank-preserved : goal.loop-rank-preserved
unfolding failing_from key_at of_key
loop-rank-preserved g c =
    let p : Planning = c.args.plan.now in let F : Key → ℚ = numbers_shown p (g.S.Seen.shown c.args.seen.now) in
    let same = c.shown_value-value.ensures.same ∙ c.loop-rank.invariant.same in
    record {
      shows = c.check_key.ensures.shows;
      same = c.check_key.ensures.same ∙ same;
      left = c.loop-rank.invariant.left
          ∙ key_decides (tensors_of p) F (looks c.args.pivots) (keys_of p) c.loop-rank.rank (omega (arith, c.loop-rank-test.true, c.requires.to)) c.key-key.result c.key-key.ensures _ (ap (numbers_shown p) same) c.check_key.result c.check_key.ensures.fails
          ∙ ap (λ o. of_key c.key-key.result o (failing_from p F (looks c.args.pivots) (c.loop-rank.rank + 1))) c.in_default.is;
    }
