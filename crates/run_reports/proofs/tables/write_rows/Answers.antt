use Rattle.std.proofs.Common.{◌≡◌, ◌<◌, ◌≤◌, rules, arith, length}
use Rattle.run_reports.proofs.Names.{keys_of, rows_text, Appends-trans, err_from_is_err_and}
use Rattle.amp_plan.specs.Plans.{key_at}
use Rattle.run_reports.proofs.RowLemmas.{rows-more, rows-cut, rows-done}
use Rattle.run_reports.proofs.tables.write_rows.Goals as goal

pub loop-rank-init : goal.loop-rank-init
unfolding rows_text
loop-rank-init g c = search rules

pub loop-rank-preserved : goal.loop-rank-preserved
unfolding key_at
loop-rank-preserved g c =
    let planned : c.loop-rank.rank < length (keys_of c.args.plan.now) = omega arith in
    let long : length c.args.table.now ≡ length (keys_of c.args.plan.now) = c.requires in record {
      written = rw rows-more (Appends-trans _ _ _ _ _ c.loop-rank.invariant.written c.in_ok-write_rank.ensures.written);
      kept = search rules;
    }

pub returns-in_err-write_rank : goal.returns-in_err-write_rank
unfolding key_at
returns-in_err-write_rank g c =
    let planned : c.loop-rank.rank < length (keys_of c.args.plan.now) = omega arith in
    let p = err_from_is_err_and c.from_residual.result c.from_residual.ensures.1 in
    rw (p.1, p.2) (rows-cut c.args.plan.now.tensors.letter c.args.plan.now.tensors.shape (keys_of c.args.plan.now) c.args.table.now c.loop-rank.rank
    (g.W.Sink.state c.args.out.now) (g.W.Sink.state c.loop-rank.out) (g.W.Sink.state c.write_rank.new.out) _ planned c.requires
    c.loop-rank.invariant.written c.loop-rank.invariant.kept c.in_err-write_rank.ensures)

pub returns : goal.returns
returns g c =
    let done : length (keys_of c.args.plan.now) ≤ c.loop-rank.rank = omega arith in
    rows-done c.args.plan.now.tensors.letter c.args.plan.now.tensors.shape (keys_of c.args.plan.now) c.args.table.now c.loop-rank.rank
    (g.W.Sink.state c.args.out.now) (g.W.Sink.state c.loop-rank.out) tt done c.requires c.loop-rank.invariant.written c.loop-rank.invariant.kept
