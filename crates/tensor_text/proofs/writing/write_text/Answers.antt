use Rattle.std.proofs.lemmas.Result.{err_from_is_err_and}
use Rattle.tensor_text.specs.Canonical.{first_text, entries_text, canonical_text}
use Rattle.tensor_text.proofs.WriteLemmas.{cut_first, written_behind}
use Rattle.tensor_text.proofs.writing.write_text.Goals as goal

pub returns-in_err-write_first : goal.returns-in_err-write_first
unfolding canonical_text
returns-in_err-write_first g c =
    let p = err_from_is_err_and c.from_residual.result c.from_residual.ensures.1 in
    rw (p.1, p.2)
    (cut_first (first_text c.args.t.now) (entries_text c.args.t.now) (g.W.Sink.state c.args.out.now) (g.W.Sink.state c.write_first.new.out) _ c.in_err-write_first.ensures)

pub returns : goal.returns
unfolding canonical_text
returns g c =
    written_behind (first_text c.args.t.now) (entries_text c.args.t.now) (g.W.Sink.state c.args.out.now) (g.W.Sink.state c.write_first.new.out) (g.W.Sink.state c.write_entries.new.out) _ c.in_ok-write_first.ensures.written c.in_ok-write_first.ensures.cause.kept
    (c.write_entries.ensures)
