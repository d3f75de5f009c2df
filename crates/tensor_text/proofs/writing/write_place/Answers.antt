use Rattle.std.proofs.Common.{rules, ◌≡◌}
use Rattle.airy_math.specs.RationalLaws.{0ℚ}
use Rattle.tensor_text.specs.Pieces.{place_piece, value_in}
use Rattle.tensor_text.proofs.WriteLemmas.{writes_nothing}
use Rattle.tensor_text.proofs.writing.write_place.Goals as goal
use Rattle.sparse_tensor.proofs.SoundLaw.{is_zero-some, is_zero-of}

pub returns-then-is_zero : goal.returns-then-is_zero
unfolding place_piece
returns-then-is_zero g c =
    let none : (value_in c.args.letter c.args.t.now c.args.i c.args.j c.args.k) ≡ 0ℚ = search rules in
    let test = is_zero-of (value_in c.args.letter c.args.t.now c.args.i c.args.j c.args.k) none in
    rw test (writes_nothing (g.W.Sink.state c.args.out.now) tt)

pub returns : goal.returns
unfolding place_piece
returns g c =
    let some : ((value_in c.args.letter c.args.t.now c.args.i c.args.j c.args.k) ≡ 0ℚ → ⊥) = search rules in
    let test = is_zero-some (value_in c.args.letter c.args.t.now c.args.i c.args.j c.args.k) some in
    rw (test, ← c.value_in-v.ensures) c.write_entry.ensures
