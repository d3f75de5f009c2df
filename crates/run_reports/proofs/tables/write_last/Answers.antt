use Rattle.std.proofs.Common.{◌≡◌, ◌-◌, rules, length}
use Rattle.run_reports.proofs.Names.{keys_of, last_of}
use Rattle.amp_plan.specs.Plans.{key_at}
use Rattle.run_reports.proofs.FormLemmas.{last-none}
use Rattle.run_reports.proofs.tables.write_last.Goals as goal
use Rattle.tensor_text.proofs.WriteLemmas.{writes_nothing}

pub returns-in-Some : goal.returns-in-Some
unfolding last_of key_at
returns-in-Some g c =
    let last : length (keys_of c.args.plan.now) - 1 ≡ c.in-Some.last = search rules in
    rw last c.write_last_rank.ensures

pub returns-in-None : goal.returns-in-None
returns-in-None g c =
    let none : length (keys_of c.args.plan.now) ≡ 0 = search rules in
    rw (last-none c.args.plan.now.tensors.letter c.args.plan.now.tensors.shape (keys_of c.args.plan.now) c.args.table.now none c.requires)
    (writes_nothing (g.W.Sink.state c.args.out.now) tt)
