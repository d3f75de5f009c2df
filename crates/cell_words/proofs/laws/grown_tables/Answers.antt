use Rattle.cell_words.proofs.GrowLemmas.{grown_tables}
use Rattle.cell_words.proofs.laws.grown_tables.Goals as goal

pub returns : goal.returns
returns c = grown_tables
