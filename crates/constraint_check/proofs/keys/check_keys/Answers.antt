use Rattle.std.proofs.Common.{◌∙◌, arith}
use Rattle.amp_plan.specs.Plans.{tensors_of, keys_of}
use Rattle.series_law.specs.Check.{said}
use Rattle.series_law.specs.Scans.{above_least}
use Rattle.constraint_check.specs.Ends.{Tells}
use Rattle.constraint_check.specs.Pivots.{failing_from}
use Rattle.constraint_check.proofs.EndLaws.{verdict_is, tells_failed}
use Rattle.constraint_check.proofs.FullTables.{shows_plan}
use Rattle.constraint_check.proofs.StepLemmas.{no_keys}
use Rattle.constraint_check.proofs.keys.check_keys.Goals as goal

pub first_failing-requires-clause-shows : goal.first_failing-requires-clause-shows
first_failing-requires-clause-shows c = (shows_plan c.args.plan.now c.args.table.now c.requires.values).shows

pub returns-in-None-clause-verdict : goal.returns-in-None-clause-verdict
unfolding Tells said failing_from
returns-in-None-clause-verdict c =
    let p = c.args.plan.now in let t = shows_plan p c.args.table.now c.requires.values in
    verdict_is p _ t.numbers c.args.from _ (c.in-None.ensures ∙ no_keys (tensors_of p) _ above_least (keys_of p) c.len.result (omega (arith, c.len.ensures)))

pub returns-in-Some-clause-verdict : goal.returns-in-Some-clause-verdict
returns-in-Some-clause-verdict c =
    let p = c.args.plan.now in let t = shows_plan p c.args.table.now c.requires.values in let f = c.in-Some.ensures in
    tells_failed p _ c.failed.result c.in-Some.failure c.failed.ensures f.value _ (verdict_is p _ t.numbers c.args.from _ (f.passed ∙ f.fails))
