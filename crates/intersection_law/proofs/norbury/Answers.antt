use Rattle.intersection_law.proofs.NorburyLaw as law
use Rattle.intersection_law.proofs.norbury.Goals as goal

pub returns : goal.returns
returns c = law.norbury
