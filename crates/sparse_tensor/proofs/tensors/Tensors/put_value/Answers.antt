use Rattle.std.proofs.Common.{sym, ap, ◌∙◌, Ok}
use Rattle.sparse_tensor.specs.Puts.{putting_d}
use Rattle.sparse_tensor.proofs.PutLaw.{refused, skipped, admitted, put, with_d-zero}
use Rattle.sparse_tensor.proofs.tensors.Tensors.put_value.Goals as goal

pub returns-in-Err : goal.returns-in-Err
unfolding putting_d
returns-in-Err c = refused _ _ _ _ c.in-Err.why _ _ (sym c.admitted_d.ensures ∙ c.in-Err.is)

pub returns-in-Ok-true : goal.returns-in-Ok-true
unfolding putting_d
returns-in-Ok-true c =
    let ok = admitted _ _ _ (sym c.admitted_d.ensures ∙ c.in-Ok-true.is ∙ ap Ok c.in-Ok-true.field-0-test) in
    rw c.stored.ensures (put _ _ _ _ c.store_d.result _ _ _ ok c.store_d.ensures)

pub returns-in-Ok-false : goal.returns-in-Ok-false
unfolding putting_d
returns-in-Ok-false c = skipped _ _ _ _ _ _ (sym c.admitted_d.ensures ∙ c.in-Ok-false.is ∙ ap Ok c.in-Ok-false.field-0-test) (with_d-zero c.args.self.now c.args.i c.args.v)
