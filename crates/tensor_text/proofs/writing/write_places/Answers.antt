use Rattle.std.proofs.Common.{arith, refl}
use Rattle.std.proofs.lemmas.Result.{err_from_is_err_and}
use Rattle.tensor_text.specs.Pieces.{plane_piece, places_piece}
use Rattle.tensor_text.proofs.WriteLemmas.{writing_begins, writing_next, writing_cut, writing_ends}
use Rattle.tensor_text.proofs.writing.write_places.Goals as goal

pub loop-i-init : goal.loop-i-init
loop-i-init g c = writing_begins (plane_piece c.args.letter c.args.t.now) 0 c.args.t.now.dim 0 (g.W.Sink.state c.args.out.now) refl

pub returns-in_err-write_plane : goal.returns-in_err-write_plane
unfolding places_piece
returns-in_err-write_plane g c =
    let p = err_from_is_err_and c.from_residual.result c.from_residual.ensures.1 in
    rw (p.1, p.2) (writing_cut (plane_piece c.args.letter c.args.t.now) 0 c.args.t.now.dim c.loop-i.i (g.W.Sink.state c.args.out.now) (g.W.Sink.state c.loop-i.out) c.loop-i.invariant (g.W.Sink.state c.write_plane.new.out) _ (omega arith) c.in_err-write_plane.ensures)

pub loop-i-preserved : goal.loop-i-preserved
loop-i-preserved g c =
    writing_next (plane_piece c.args.letter c.args.t.now) 0 c.args.t.now.dim c.loop-i.i (g.W.Sink.state c.args.out.now) (g.W.Sink.state c.loop-i.out) c.loop-i.invariant (g.W.Sink.state c.write_plane.new.out) _ (omega arith) c.in_ok-write_plane.ensures

pub returns : goal.returns
unfolding places_piece
returns g c =
    writing_ends (plane_piece c.args.letter c.args.t.now) 0 c.args.t.now.dim c.loop-i.i (g.W.Sink.state c.args.out.now) (g.W.Sink.state c.loop-i.out) c.loop-i.invariant tt (omega arith)
