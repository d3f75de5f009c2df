use Rattle.std.proofs.Common.{rules, ◌≡◌}
use Rattle.airy_math.specs.RationalLaws.{0ℚ}
use Rattle.sparse_tensor.specs.Entries.{looked_up}
use Rattle.tensor_text.specs.Pieces.{index_piece}
use Rattle.tensor_text.proofs.WriteLemmas.{writes_nothing}
use Rattle.tensor_text.proofs.writing.write_index.Goals as goal
use Rattle.sparse_tensor.proofs.SoundLaw.{is_zero-some, is_zero-of}

pub returns-then-is_zero : goal.returns-then-is_zero
unfolding index_piece
returns-then-is_zero g c =
    let none : ((looked_up c.args.t.now).D c.args.i) ≡ 0ℚ = search rules in
    let test = is_zero-of ((looked_up c.args.t.now).D c.args.i) none in
    rw test (writes_nothing (g.W.Sink.state c.args.out.now) tt)

pub returns : goal.returns
unfolding index_piece
returns g c =
    let some : (((looked_up c.args.t.now).D c.args.i) ≡ 0ℚ → ⊥) = search rules in
    let test = is_zero-some ((looked_up c.args.t.now).D c.args.i) some in
    rw (test, ← c.d-v.ensures) c.write_index_entry.ensures
