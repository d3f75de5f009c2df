use Rattle.std.proofs.Common.{◌-◌}
use Rattle.tensor_text.specs.Pieces.{first_in, place_piece}
use Rattle.tensor_text.proofs.WriteLemmas.{IsWriting}
use Rattle.tensor_text.proofs.writing.write_row.Given as goal

abbrev pub invariant-loop-k : goal.invariant-loop-k
invariant-loop-k g l = IsWriting (place_piece l.letter l.t l.i l.j) (first_in l.letter l.j) (l.t.dim - first_in l.letter l.j) l.k (g.W.Sink.state l.fn.out) (g.W.Sink.state l.out)
