use Rattle.std.proofs.Common.{rules}
use Rattle.airy_math.specs.RationalLaws.{half}
use Rattle.airy_relations.proofs.steps.half.Goals as goal

pub returns : goal.returns
unfolding half
returns c = search rules
