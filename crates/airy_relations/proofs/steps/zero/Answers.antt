use Rattle.std.proofs.Common.{rules}
use Rattle.airy_math.specs.RationalLaws.{0ℚ}
use Rattle.airy_relations.proofs.steps.zero.Goals as goal

pub returns : goal.returns
unfolding 0ℚ
returns c = search rules
