use Rattle.tensor_text.specs.Pieces.{row_piece}
use Rattle.tensor_text.proofs.WriteLemmas.{IsWriting}
use Rattle.tensor_text.proofs.writing.write_plane.Given as goal

abbrev pub invariant-loop-j : goal.invariant-loop-j
invariant-loop-j g l = IsWriting (row_piece l.letter l.t l.i) 0 l.t.dim l.j (g.W.Sink.state l.fn.out) (g.W.Sink.state l.out)
