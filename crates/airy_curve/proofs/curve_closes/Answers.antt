use Rattle.std.proofs.Common.{arith}
use Rattle.sparse_tensor.specs.Entries.{looked_up}
use Rattle.airy_math.specs.Curves.{curve}
use Rattle.airy_curve.proofs.ClosingLemmas.{meets}
use Rattle.airy_curve.proofs.curve_closes.Goals as goal

pub returns : goal.returns
unfolding looked_up curve
returns c = λ t f dim most N first same h p. meets c.below_dim.ensures c.no_difference.ensures t (curve f dim most) N same (omega arith) (c.curve_relations.ensures f dim most N first (omega (arith, same.dim)) p)
