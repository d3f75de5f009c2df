use Rattle.std.proofs.Common.{◌<◌, sym, ap, ◌∙◌, arith}
use Rattle.airy_math.specs.RationalLaws.{0ℚ}
use Rattle.sparse_tensor.specs.Entries.{Entries, looked_up, value_at}
use Rattle.sparse_tensor.specs.Grades.{keeps_b}
use Rattle.sparse_tensor.proofs.EntryLemmas.{value_at-outside}
use Rattle.sparse_tensor.proofs.tensors.Tensors.b.Goals as goal
use Rattle.sparse_tensor.proofs.tensors.Tensors.b.Goals.{else-i-self-via-then-i-self+else-j-self, else-i-self-via-else-i-self}

pub returns-then-j-self : goal.returns-then-j-self
unfolding looked_up
returns-then-j-self c =
    c.value.ensures ∙ ap (λ (t : Entries). value_at t.b c.args.i c.args.j c.args.k) c.self.view_is

pub returns-else-i-self : goal.returns-else-i-self
unfolding looked_up 0ℚ
returns-else-i-self c =
    let out : c.args.i < c.self.inside.dim → c.args.j < c.self.inside.dim → c.args.k < c.self.inside.dim → ⊥ = λ p q r. elim c.else-i-self.branch [
      | else-i-self-via-then-i-self+else-j-self w ↦ omega (arith, w.if-j-self)
      | else-i-self-via-else-i-self w ↦ omega (arith, w.if-i-self)
    ] in
    c.whole.ensures
    ∙ sym (value_at-outside (keeps_b c.self.inside.shape) c.self.inside.dim c.self.inside.b.entries c.args.i c.args.j c.args.k c.self.invariant.entries.b.stored out)
    ∙ ap (λ (t : Entries). value_at t.b c.args.i c.args.j c.args.k) c.self.view_is
