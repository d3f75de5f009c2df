use Rattle.std.proofs.Common.{arith}
use Rattle.airy_math.specs.Named.{wk}
use Rattle.sparse_tensor.specs.Entries.{looked_up}
use Rattle.airy_curve.proofs.ClosingLemmas.{meets}
use Rattle.named_families.proofs.laws.wk_closes.Goals as goal

pub returns : goal.returns
unfolding looked_up wk
returns c = λ t M N stands h.
    meets c.below_dim.ensures c.no_difference.ensures t (wk M) N stands.entries (omega arith) (c.wk_relations.ensures M N (omega (arith, stands.entries.dim)))
