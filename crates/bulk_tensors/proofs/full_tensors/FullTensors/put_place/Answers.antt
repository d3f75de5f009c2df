use Rattle.std.proofs.Common.{◌≡◌, ◌+◌, ◌*◌, ap, arith}
use Rattle.bulk_tensors.specs.Full.{Lists}
use Rattle.bulk_tensors.proofs.FilledLemmas.{filled_past}
use Rattle.bulk_tensors.proofs.full_tensors.FullTensors.put_place.Goals as goal

pub returns-else-j-k : goal.returns-else-j-k
returns-else-j-k c =
    let from = c.args.self.now in
    let dim : c.self.inside.dim ≡ from.dim = ap (λ (u : Lists). u.dim) c.self.view_is in
    filled_past c.args.i c.args.j c.args.k (64 * c.args.i + 8 * c.args.j + c.args.k + 1) 0 from c.put_b.new.tensors (omega arith) c.requires.second c.requires.third c.if-j-k.false c.in_ok-put_b.ensures
