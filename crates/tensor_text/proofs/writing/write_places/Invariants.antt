use Rattle.tensor_text.specs.Pieces.{plane_piece}
use Rattle.tensor_text.proofs.WriteLemmas.{IsWriting}
use Rattle.tensor_text.proofs.writing.write_places.Given as goal

abbrev pub invariant-loop-i : goal.invariant-loop-i
invariant-loop-i g l = IsWriting (plane_piece l.letter l.t) 0 l.t.dim l.i (g.W.Sink.state l.fn.out) (g.W.Sink.state l.out)
