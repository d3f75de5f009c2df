use Rattle.series_law.proofs.SameTablesLaw.{same_tables}
use Rattle.series_law.proofs.same_tables.Goals as goal

pub returns : goal.returns
returns c = same_tables
