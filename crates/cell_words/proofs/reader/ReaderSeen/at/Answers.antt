use Rattle.std.proofs.Common.{sym, ◌∙◌, lt-ltb, ltb}
use Rattle.cell_words.proofs.Names.{outcome_at, lower_outcomes, Over, when}
use Rattle.cell_words.proofs.reader.ReaderSeen.at.Goals as goal

pub returns-clause-outcome : goal.returns-clause-outcome
unfolding lower_outcomes
returns-clause-outcome c =
    let s = c.args.self.now in
    c.outcome.ensures.outcome ∙ sym (when (ltb c.args.rank s.rank) (outcome_at s.board.now.base.plan c.args.rank) Over (lt-ltb c.args.rank s.rank c.requires.2))
