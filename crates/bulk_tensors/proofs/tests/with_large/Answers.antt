use Rattle.std.proofs.Common.{arith, ◌≡◌, ap, ◌∙◌}
use Rattle.bulk_tensors.specs.Full.{Lists, zero_lists}
use Rattle.bulk_tensors.proofs.tests.with_large.Goals as goal

pub set_diagonal-requires-2 : goal.set_diagonal-requires-2
unfolding zero_lists
set_diagonal-requires-2 c =
    let two : c.in-Ok.full.dim ≡ 2 = ap (λ (t : Lists). t.dim) c.in-Ok.ensures in
    omega (arith, c.set_diagonal.ensures.dim, two)

pub returns : goal.returns
unfolding zero_lists
returns c =
    let two : c.in-Ok.full.dim ≡ 2 = ap (λ (t : Lists). t.dim) c.in-Ok.ensures in
    c.set_diagonal-2.ensures.dim ∙ c.set_diagonal.ensures.dim ∙ two
