use Rattle.std.proofs.Common.{◌≡◌, take}
use Rattle.run_reports.proofs.Names.{keys_of, rows_text, Appends}
use Rattle.run_reports.proofs.tables.write_rows.Given as goal

abbrev pub invariant-loop-rank : goal.invariant-loop-rank
invariant-loop-rank g l = record {
  written : Appends (g.W.Sink.state l.initial.out).taken (g.W.Sink.state l.out).taken (rows_text l.plan.tensors.letter l.plan.tensors.shape (take l.rank (keys_of l.plan)) (take l.rank l.table));
  kept : (g.W.Sink.state l.out).faults ≡ (g.W.Sink.state l.initial.out).faults;
}
