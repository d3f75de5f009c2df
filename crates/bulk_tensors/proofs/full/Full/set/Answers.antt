use Rattle.std.proofs.Common.{◌+◌, ◌*◌, refl, arith}
use Rattle.bulk_tensors.proofs.FullLemmas.{entry-set_same}
use Rattle.bulk_tensors.proofs.full.Full.set.Goals as goal

pub returns-clause-here : goal.returns-clause-here
returns-clause-here c =
    entry-set_same c.self.inside.entries.items (64 * c.args.i + 8 * c.args.j + c.args.k) c.args.v c.args.i c.args.j c.args.k (omega (arith, c.self.invariant)) refl
