use Rattle.std.proofs.Common.{sym, ◌∙◌, le_refl, le_of_lt, refl}
use Rattle.constraint_check.proofs.EndLaws.{verdict_is}
use Rattle.constraint_check.proofs.FullTables.{shows_plan}
use Rattle.constraint_check.proofs.crew.pass.Goals as goal

pub first_failing-requires-clause-shows : goal.first_failing-requires-clause-shows
first_failing-requires-clause-shows c = (shows_plan c.args.plan.now c.args.table.now c.requires.values).shows

pub returns-in-None : goal.returns-in-None
returns-in-None c =
    let p = c.args.plan.now in let t = shows_plan p c.args.table.now c.requires.values in
    record { low = c.requires.from; high = le_refl _; passed = verdict_is p _ t.numbers c.args.from _ c.in-None.ensures ∙ sym (verdict_is p _ t.numbers c.args.to _ refl) }

pub returns-in-Some : goal.returns-in-Some
returns-in-Some c =
    let p = c.args.plan.now in let t = shows_plan p c.args.table.now c.requires.values in let f = c.in-Some.ensures in
    record { low = f.low; high = le_of_lt f.high; passed = verdict_is p _ t.numbers c.args.from _ f.passed ∙ sym (verdict_is p _ t.numbers _ _ refl) }
