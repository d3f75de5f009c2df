use Rattle.std.proofs.Common.{◌++◌}
use Rattle.std.proofs.lemmas.Result.{err_from_is_err_and}
use Rattle.tensor_text.specs.Canonical.{header_text, dim_text, shape_text, first_text}
use Rattle.tensor_text.proofs.WriteLemmas.{cut_first, written_behind}
use Rattle.tensor_text.proofs.writing.write_first.Goals as goal

pub returns-in_err-write_header : goal.returns-in_err-write_header
unfolding first_text
returns-in_err-write_header g c =
    let p = err_from_is_err_and c.from_residual.result c.from_residual.ensures.1 in
    rw (p.1, p.2)
    (cut_first (header_text c.args.t.now.shape) (dim_text c.args.t.now.dim ++ shape_text c.args.t.now.shape c.args.t.now.letter) (g.W.Sink.state c.args.out.now) (g.W.Sink.state c.write_header.new.out) _ c.in_err-write_header.ensures)

pub returns-in_err-write_dim : goal.returns-in_err-write_dim
unfolding first_text
returns-in_err-write_dim g c =
    let p = err_from_is_err_and c.from_residual-in_err-write_dim.result c.from_residual-in_err-write_dim.ensures.1 in
    rw (p.1, p.2)
    (written_behind (header_text c.args.t.now.shape) (dim_text c.args.t.now.dim ++ shape_text c.args.t.now.shape c.args.t.now.letter) (g.W.Sink.state c.args.out.now) (g.W.Sink.state c.write_header.new.out) (g.W.Sink.state c.write_dim.new.out) _ c.in_ok-write_header.ensures.written c.in_ok-write_header.ensures.cause.kept
    (cut_first (dim_text c.args.t.now.dim) (shape_text c.args.t.now.shape c.args.t.now.letter) (g.W.Sink.state c.write_header.new.out) (g.W.Sink.state c.write_dim.new.out) _ c.in_err-write_dim.ensures))

pub returns : goal.returns
unfolding first_text
returns g c =
    written_behind (header_text c.args.t.now.shape) (dim_text c.args.t.now.dim ++ shape_text c.args.t.now.shape c.args.t.now.letter) (g.W.Sink.state c.args.out.now) (g.W.Sink.state c.write_header.new.out) (g.W.Sink.state c.write_shape.new.out) _ c.in_ok-write_header.ensures.written c.in_ok-write_header.ensures.cause.kept
    (written_behind (dim_text c.args.t.now.dim) (shape_text c.args.t.now.shape c.args.t.now.letter) (g.W.Sink.state c.write_header.new.out) (g.W.Sink.state c.write_dim.new.out) (g.W.Sink.state c.write_shape.new.out) _ c.in_ok-write_dim.ensures.written c.in_ok-write_dim.ensures.cause.kept
    (c.write_shape.ensures))
