use Rattle.std.proofs.Common.{rules}
use Rattle.airy_math.specs.Obtained.{both_obtained, ◌⊛◌}
use Rattle.running_sum.proofs.unreduced.long_product.Goals.{in_default-2-via-in-Some+in_default, in_default-2-via-in_default}
use Rattle.running_sum.proofs.unreduced.long_product.Goals as goal

pub returns-in-Some-Some : goal.returns-in-Some-Some
unfolding ◌⊛◌ both_obtained
returns-in-Some-Some c = search rules

pub returns-in_default-2 : goal.returns-in_default-2
unfolding ◌⊛◌ both_obtained
returns-in_default-2 c = elim c.in_default-2.branch [ in_default-2-via-in-Some+in_default w ↦ search rules | in_default-2-via-in_default w ↦ search rules ]
