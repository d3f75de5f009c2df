use Rattle.std.proofs.Common.{arith}
use Rattle.std.proofs.lemmas.List.{get_or_default}
use Rattle.airy_math.specs.RationalLaws.{0ℚ}
use Rattle.airy_curve.specs.Numbers.{held}
use Rattle.airy_curve.proofs.numbers.number_at.Goals as goal

pub returns : goal.returns
unfolding held
returns c = get_or_default c.args.numbers.now c.args.k c.index-numbers-k.result 0ℚ (omega (arith, c.type_inv.numbers))
