use Rattle.std.proofs.Common.{ap, replicate}
use Rattle.airy_math.specs.RationalLaws.{0ℚ}
use Rattle.bulk_tensors.specs.Full.{zero_lists}
use Rattle.bulk_tensors.proofs.full_tensors.FullTensors.zero.Goals as goal

pub returns : goal.returns
unfolding zero_lists 0ℚ
returns c = λ i. record { dim = c.args.dim; a = c.in_ok-zero.ensures i; b = c.in_ok-zero-2.ensures i; c = c.in_ok-zero-3.ensures i; d = ap (replicate 8) c.whole.ensures i }
