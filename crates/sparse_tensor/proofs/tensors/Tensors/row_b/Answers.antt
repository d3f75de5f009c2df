use Rattle.std.proofs.Common.{◌<◌, sym, ap, ◌∙◌, arith}
use Rattle.airy_math.specs.Tensors.{row_b}
use Rattle.sparse_tensor.specs.Entries.{Entries, looked_up}
use Rattle.sparse_tensor.proofs.RowLaw.{row_b-is, row_b-outside}
use Rattle.sparse_tensor.proofs.tensors.Tensors.row_b.Goals as goal
use Rattle.sparse_tensor.proofs.tensors.Tensors.row_b.Goals.{else-i-self-via-then-i-self+else-j-self, else-i-self-via-else-i-self}

pub returns-then-j-self : goal.returns-then-j-self
returns-then-j-self c =
    c.row.ensures
    ∙ row_b-is _ c.args.i c.args.j c.self.invariant.entries
    ∙ ap (λ (t : Entries). row_b (looked_up t) c.args.i c.args.j) c.self.view_is

pub returns-else-i-self : goal.returns-else-i-self
returns-else-i-self c =
    let out : c.args.i < c.self.inside.dim → c.args.j < c.self.inside.dim → ⊥ = λ p q. elim c.else-i-self.branch [
      | else-i-self-via-then-i-self+else-j-self w ↦ omega (arith, w.if-j-self)
      | else-i-self-via-else-i-self w ↦ omega (arith, w.if-i-self)
    ] in
    sym (row_b-outside _ c.args.i c.args.j c.self.invariant.entries out)
    ∙ ap (λ (t : Entries). row_b (looked_up t) c.args.i c.args.j) c.self.view_is
