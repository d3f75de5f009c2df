use Rattle.std.proofs.Common.{◌≡◌, rules, Some, None}
use Rattle.run_reports.proofs.Names.{value_at, row_text}
use Rattle.run_reports.proofs.tables.write_rank.Goals as goal
use Rattle.tensor_text.proofs.WriteLemmas.{writes_nothing}

pub returns-in-Some : goal.returns-in-Some
returns-in-Some g c =
    let some : value_at c.args.table.now c.args.rank ≡ Some c.in-Some.value = search rules in
    rw some c.write_row.ensures

pub returns-in-None : goal.returns-in-None
unfolding row_text
returns-in-None g c =
    let none : value_at c.args.table.now c.args.rank ≡ None = search rules in
    rw none (writes_nothing (g.W.Sink.state c.args.out.now) tt)
