use Rattle.std.proofs.Common.{arith}
use Rattle.airy_math.specs.Named.{bgw}
use Rattle.sparse_tensor.specs.Entries.{looked_up}
use Rattle.airy_curve.proofs.ClosingLemmas.{meets}
use Rattle.named_families.proofs.laws.bgw_closes.Goals as goal

pub returns : goal.returns
unfolding looked_up bgw
returns c = λ t M N stands h.
    meets c.below_dim.ensures c.no_difference.ensures t (bgw M) N stands.entries (omega arith) (c.bgw_relations.ensures M N (omega (arith, stands.entries.dim)))
