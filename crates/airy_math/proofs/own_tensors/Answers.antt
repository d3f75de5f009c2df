use Rattle.airy_math.proofs.OwnTensorsLaw.{own_tensors}
use Rattle.airy_math.proofs.own_tensors.Goals as goal

pub returns : goal.returns
returns c = own_tensors
