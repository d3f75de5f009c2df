use Rattle.amp_plan.specs.Plans.{Planning, tensors_of, keys_of}
use Rattle.series_law.specs.Check.{Checks}
use Rattle.constraint_check.specs.Ends.{outcomes_of, values_of}
use Rattle.constraint_check.proofs.EndLaws.{at_solution, at_orders, checks_of}
use Rattle.constraint_check.proofs.keys.check_passed.Goals as goal

pub returns : goal.returns
unfolding outcomes_of values_of keys_of
returns c =
    let p : Planning = c.args.plan.now in
    let law : Checks (tensors_of p) p.bound = checks_of p c.check.ensures c.tensors.result.now c.tensors.ensures c.soundness_fact.ensures in
    let end = c.first_failure in
    record {
      verdict = end.ensures.verdict;
      over = end.ensures.over;
      passes = at_solution p end.result _ _ end.ensures.verdict law.passed;
      solves = at_solution p end.result _ _ end.ensures.verdict law.solves;
      sums = at_orders p end.result _ _ end.ensures.verdict law.sums;
      differ = at_orders p end.result _ _ end.ensures.verdict law.differ;
      unsolvable = at_orders p end.result _ _ end.ensures.verdict law.no_solution;
    }
