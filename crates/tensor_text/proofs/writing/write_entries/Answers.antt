use Rattle.std.proofs.Common.{codes}
use Rattle.std.proofs.lemmas.Result.{err_from_is_err_and}
use Rattle.tensor_text.specs.Pieces.{places_piece, indices_piece}
use Rattle.sparse_tensor.specs.declared.parts.Part.TheVariants.{A, B, C}
use Rattle.tensor_text.proofs.WriteLemmas.{cut_first, written_behind}
use Rattle.tensor_text.proofs.CanonicalLaw.{entries_pieces, from_b, from_c, from_d}
use Rattle.tensor_text.proofs.writing.write_entries.Goals as goal

pub returns-in_err-write_places : goal.returns-in_err-write_places
returns-in_err-write_places g c =
    let p = err_from_is_err_and c.from_residual.result c.from_residual.ensures.1 in
    rw (p.1, p.2, entries_pieces c.args.t.now c.soundness_fact.ensures.entries)
    (cut_first (places_piece A c.args.t.now) (from_b c.args.t.now) (g.W.Sink.state c.args.out.now) (g.W.Sink.state c.write_places.new.out) _ c.in_err-write_places.ensures)

pub returns-in_err-write_places-2 : goal.returns-in_err-write_places-2
returns-in_err-write_places-2 g c =
    let p = err_from_is_err_and c.from_residual-in_err-write_places-2.result c.from_residual-in_err-write_places-2.ensures.1 in
    rw (p.1, p.2, entries_pieces c.args.t.now c.soundness_fact.ensures.entries)
    (written_behind (places_piece A c.args.t.now) (from_b c.args.t.now) (g.W.Sink.state c.args.out.now) (g.W.Sink.state c.write_places.new.out) (g.W.Sink.state c.write_places-2.new.out) _ c.in_ok-write_places.ensures.written c.in_ok-write_places.ensures.cause.kept
    (cut_first (places_piece B c.args.t.now) (from_c c.args.t.now) (g.W.Sink.state c.write_places.new.out) (g.W.Sink.state c.write_places-2.new.out) _ c.in_err-write_places-2.ensures))

pub returns-in_err-write_places-3 : goal.returns-in_err-write_places-3
returns-in_err-write_places-3 g c =
    let p = err_from_is_err_and c.from_residual-in_err-write_places-3.result c.from_residual-in_err-write_places-3.ensures.1 in
    rw (p.1, p.2, entries_pieces c.args.t.now c.soundness_fact.ensures.entries)
    (written_behind (places_piece A c.args.t.now) (from_b c.args.t.now) (g.W.Sink.state c.args.out.now) (g.W.Sink.state c.write_places.new.out) (g.W.Sink.state c.write_places-3.new.out) _ c.in_ok-write_places.ensures.written c.in_ok-write_places.ensures.cause.kept
    (written_behind (places_piece B c.args.t.now) (from_c c.args.t.now) (g.W.Sink.state c.write_places.new.out) (g.W.Sink.state c.write_places-2.new.out) (g.W.Sink.state c.write_places-3.new.out) _ c.in_ok-write_places-2.ensures.written c.in_ok-write_places-2.ensures.cause.kept
    (cut_first (places_piece C c.args.t.now) (from_d c.args.t.now) (g.W.Sink.state c.write_places-2.new.out) (g.W.Sink.state c.write_places-3.new.out) _ c.in_err-write_places-3.ensures)))

pub returns-in_err-write_indices : goal.returns-in_err-write_indices
returns-in_err-write_indices g c =
    let p = err_from_is_err_and c.from_residual-in_err-write_indices.result c.from_residual-in_err-write_indices.ensures.1 in
    rw (p.1, p.2, entries_pieces c.args.t.now c.soundness_fact.ensures.entries)
    (written_behind (places_piece A c.args.t.now) (from_b c.args.t.now) (g.W.Sink.state c.args.out.now) (g.W.Sink.state c.write_places.new.out) (g.W.Sink.state c.write_indices.new.out) _ c.in_ok-write_places.ensures.written c.in_ok-write_places.ensures.cause.kept
    (written_behind (places_piece B c.args.t.now) (from_c c.args.t.now) (g.W.Sink.state c.write_places.new.out) (g.W.Sink.state c.write_places-2.new.out) (g.W.Sink.state c.write_indices.new.out) _ c.in_ok-write_places-2.ensures.written c.in_ok-write_places-2.ensures.cause.kept
    (written_behind (places_piece C c.args.t.now) (from_d c.args.t.now) (g.W.Sink.state c.write_places-2.new.out) (g.W.Sink.state c.write_places-3.new.out) (g.W.Sink.state c.write_indices.new.out) _ c.in_ok-write_places-3.ensures.written c.in_ok-write_places-3.ensures.cause.kept
    (cut_first (indices_piece c.args.t.now) (codes "end\n") (g.W.Sink.state c.write_places-3.new.out) (g.W.Sink.state c.write_indices.new.out) _ c.in_err-write_indices.ensures))))

pub returns : goal.returns
returns g c =
    rw (entries_pieces c.args.t.now c.soundness_fact.ensures.entries)
    (written_behind (places_piece A c.args.t.now) (from_b c.args.t.now) (g.W.Sink.state c.args.out.now) (g.W.Sink.state c.write_places.new.out) (g.W.Sink.state c.write_all.new.out) _ c.in_ok-write_places.ensures.written c.in_ok-write_places.ensures.cause.kept
    (written_behind (places_piece B c.args.t.now) (from_c c.args.t.now) (g.W.Sink.state c.write_places.new.out) (g.W.Sink.state c.write_places-2.new.out) (g.W.Sink.state c.write_all.new.out) _ c.in_ok-write_places-2.ensures.written c.in_ok-write_places-2.ensures.cause.kept
    (written_behind (places_piece C c.args.t.now) (from_d c.args.t.now) (g.W.Sink.state c.write_places-2.new.out) (g.W.Sink.state c.write_places-3.new.out) (g.W.Sink.state c.write_all.new.out) _ c.in_ok-write_places-3.ensures.written c.in_ok-write_places-3.ensures.cause.kept
    (written_behind (indices_piece c.args.t.now) (codes "end\n") (g.W.Sink.state c.write_places-3.new.out) (g.W.Sink.state c.write_indices.new.out) (g.W.Sink.state c.write_all.new.out) _ c.in_ok-write_indices.ensures.written c.in_ok-write_indices.ensures.cause.kept
    (c.write_all.ensures)))))
