use Rattle.std.proofs.Common.{sym, ap, ap₂, ◌∙◌, arith, min, max}
use Rattle.airy_math.specs.RationalLaws.{0ℚ}
use Rattle.sparse_tensor.specs.Entries.{Entries, looked_up, value_at}
use Rattle.sparse_tensor.specs.Grades.{keeps_a}
use Rattle.sparse_tensor.proofs.EntryLemmas.{value_at-outside}
use Rattle.sparse_tensor.proofs.tensors.Tensors.a.Goals as goal

pub returns-then-i-self : goal.returns-then-i-self
unfolding looked_up
returns-then-i-self c =
    c.value.ensures
    ∙ ap₂ (value_at c.self.inside.a.entries c.args.i) c.min.ensures c.max.ensures
    ∙ ap (λ (t : Entries). value_at t.a c.args.i (min c.args.j c.args.k) (max c.args.j c.args.k)) c.self.view_is

pub returns-else-i-self : goal.returns-else-i-self
unfolding looked_up 0ℚ
returns-else-i-self c =
    c.whole.ensures
    ∙ sym (value_at-outside (keeps_a c.self.inside.shape) c.self.inside.dim c.self.inside.a.entries c.args.i (min c.args.j c.args.k) (max c.args.j c.args.k) c.self.invariant.entries.a.stored (λ l m n. omega arith))
    ∙ ap (λ (t : Entries). value_at t.a c.args.i (min c.args.j c.args.k) (max c.args.j c.args.k)) c.self.view_is
