use Rattle.curve_law.proofs.TableLaw.{curve_tables}
use Rattle.curve_law.proofs.curve_tables.Goals as goal

-- the law itself
pub returns : goal.returns
returns c = curve_tables
