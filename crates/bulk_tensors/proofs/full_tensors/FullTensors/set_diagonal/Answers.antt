use Rattle.std.proofs.Common.{◌≡◌, ◌+◌, ◌*◌, ap, rules, slice_set, set}
use Rattle.bulk_tensors.specs.Full.{Lists, with_diagonal}
use Rattle.bulk_tensors.proofs.full_tensors.FullTensors.set_diagonal.Goals as goal

pub returns-clause-entries : goal.returns-clause-entries
unfolding with_diagonal
returns-clause-entries c =
    let t = c.args.self.now in
    let i = c.args.i in
    let dim : c.self.inside.dim ≡ t.dim = ap (λ (t : Lists). t.dim) c.self.view_is in
    let a : c.set.new.self ≡ set t.a (64 * i + 8 * i + i) c.args.a = search rules in
    let b : c.set-2.new.self ≡ set t.b (64 * i + 8 * i + i) c.args.b = search rules in
    let e : c.set-3.new.self ≡ set t.c (64 * i + 8 * i + i) c.args.c = search rules in
    let d : slice_set c.self.inside.d c.from-i.result c.args.d ≡ set t.d i c.args.d = search rules in
    λ n. record { dim = dim n; a = a n; b = b n; c = e n; d = d n }
