use Rattle.std.proofs.Common.{arith, refl}
use Rattle.std.proofs.lemmas.Result.{err_from_is_err_and}
use Rattle.tensor_text.specs.Pieces.{row_piece, plane_piece}
use Rattle.tensor_text.proofs.WriteLemmas.{writing_begins, writing_next, writing_cut, writing_ends}
use Rattle.tensor_text.proofs.writing.write_plane.Goals as goal

pub loop-j-init : goal.loop-j-init
loop-j-init g c = writing_begins (row_piece c.args.letter c.args.t.now c.args.i) 0 c.args.t.now.dim 0 (g.W.Sink.state c.args.out.now) refl

pub returns-in_err-write_row : goal.returns-in_err-write_row
unfolding plane_piece
returns-in_err-write_row g c =
    let p = err_from_is_err_and c.from_residual.result c.from_residual.ensures.1 in
    rw (p.1, p.2) (writing_cut (row_piece c.args.letter c.args.t.now c.args.i) 0 c.args.t.now.dim c.loop-j.j (g.W.Sink.state c.args.out.now) (g.W.Sink.state c.loop-j.out) c.loop-j.invariant (g.W.Sink.state c.write_row.new.out) _ (omega arith) c.in_err-write_row.ensures)

pub loop-j-preserved : goal.loop-j-preserved
loop-j-preserved g c =
    writing_next (row_piece c.args.letter c.args.t.now c.args.i) 0 c.args.t.now.dim c.loop-j.j (g.W.Sink.state c.args.out.now) (g.W.Sink.state c.loop-j.out) c.loop-j.invariant (g.W.Sink.state c.write_row.new.out) _ (omega arith) c.in_ok-write_row.ensures

pub returns : goal.returns
unfolding plane_piece
returns g c =
    writing_ends (row_piece c.args.letter c.args.t.now c.args.i) 0 c.args.t.now.dim c.loop-j.j (g.W.Sink.state c.args.out.now) (g.W.Sink.state c.loop-j.out) c.loop-j.invariant tt (omega arith)
