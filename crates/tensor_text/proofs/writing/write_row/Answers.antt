use Rattle.std.proofs.Common.{arith, ◌-◌}
use Rattle.std.proofs.lemmas.Result.{err_from_is_err_and}
use Rattle.tensor_text.specs.Pieces.{first_in, place_piece, row_piece}
use Rattle.tensor_text.proofs.WriteLemmas.{writing_begins, writing_next, writing_cut, writing_ends, first_within}
use Rattle.tensor_text.proofs.writing.write_row.Goals as goal

pub loop-k-init : goal.loop-k-init
loop-k-init g c = writing_begins (place_piece c.args.letter c.args.t.now c.args.i c.args.j) (first_in c.args.letter c.args.j) (c.args.t.now.dim - first_in c.args.letter c.args.j) c.first_in-k.result (g.W.Sink.state c.args.out.now) c.first_in-k.ensures

pub returns-in_err-write_place : goal.returns-in_err-write_place
unfolding row_piece
returns-in_err-write_place g c =
    let low = first_within c.args.letter c.args.j in
    let p = err_from_is_err_and c.from_residual.result c.from_residual.ensures.1 in
    rw (p.1, p.2) (writing_cut (place_piece c.args.letter c.args.t.now c.args.i c.args.j) (first_in c.args.letter c.args.j) (c.args.t.now.dim - first_in c.args.letter c.args.j) c.loop-k.k (g.W.Sink.state c.args.out.now) (g.W.Sink.state c.loop-k.out) c.loop-k.invariant (g.W.Sink.state c.write_place.new.out) _ (omega arith) c.in_err-write_place.ensures)

pub loop-k-preserved : goal.loop-k-preserved
loop-k-preserved g c =
    let low = first_within c.args.letter c.args.j in
    writing_next (place_piece c.args.letter c.args.t.now c.args.i c.args.j) (first_in c.args.letter c.args.j) (c.args.t.now.dim - first_in c.args.letter c.args.j) c.loop-k.k (g.W.Sink.state c.args.out.now) (g.W.Sink.state c.loop-k.out) c.loop-k.invariant (g.W.Sink.state c.write_place.new.out) _ (omega arith) c.in_ok-write_place.ensures

pub returns : goal.returns
unfolding row_piece
returns g c =
    let low = first_within c.args.letter c.args.j in
    writing_ends (place_piece c.args.letter c.args.t.now c.args.i c.args.j) (first_in c.args.letter c.args.j) (c.args.t.now.dim - first_in c.args.letter c.args.j) c.loop-k.k (g.W.Sink.state c.args.out.now) (g.W.Sink.state c.loop-k.out) c.loop-k.invariant tt (omega arith)
