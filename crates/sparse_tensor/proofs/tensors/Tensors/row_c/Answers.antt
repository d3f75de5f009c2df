use Rattle.std.proofs.Common.{sym, ap, ◌∙◌, arith}
use Rattle.airy_math.specs.Tensors.{row_c}
use Rattle.sparse_tensor.specs.Entries.{Entries, looked_up}
use Rattle.sparse_tensor.proofs.RowLaw.{row_c-is, row_c-outside}
use Rattle.sparse_tensor.proofs.tensors.Tensors.row_c.Goals as goal

pub returns-then-i-self : goal.returns-then-i-self
returns-then-i-self c =
    c.row.ensures
    ∙ row_c-is _ c.args.i c.self.invariant.entries
    ∙ ap (λ (t : Entries). row_c (looked_up t) c.args.i) c.self.view_is

pub returns-else-i-self : goal.returns-else-i-self
returns-else-i-self c =
    sym (row_c-outside _ c.args.i c.self.invariant.entries (λ l. omega arith))
    ∙ ap (λ (t : Entries). row_c (looked_up t) c.args.i) c.self.view_is
