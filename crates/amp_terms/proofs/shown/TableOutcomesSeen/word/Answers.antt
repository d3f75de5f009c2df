use Rattle.amp_terms.proofs.TableLemmas.{shown-word}
use Rattle.std.proofs.Common.{get_or, None}
use Rattle.amp_terms.specs.Tables.{shown_in}
use Rattle.amp_terms.proofs.shown.TableOutcomesSeen.word.Goals as goal

pub returns-clause-word : goal.returns-clause-word
unfolding shown_in
returns-clause-word c = shown-word (get_or c.args.self.now.table.now c.args.rank None) c.word.result c.word.ensures
