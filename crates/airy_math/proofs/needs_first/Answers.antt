use Rattle.airy_math.proofs.NeedsLaw.{needs_first}
use Rattle.airy_math.proofs.needs_first.Goals as goal

pub returns : goal.returns
returns c = needs_first
