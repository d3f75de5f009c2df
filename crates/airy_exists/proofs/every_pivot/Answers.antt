use Rattle.airy_exists.proofs.TableLaw as law
use Rattle.airy_exists.proofs.every_pivot.Goals as goal

pub returns : goal.returns
returns c = law.every_pivot
