use Rattle.cell_words.proofs.Names.{code_of, outcome_at}
use Rattle.cell_words.proofs.countdown.Countdown.outcome.Goals as goal

pub decode-requires : goal.decode-requires
unfolding code_of
decode-requires c = record {
  outcome = outcome_at c.args.self.now.base.plan c.args.rank;
  sized = c.word-a.ensures.sized;
  first = c.word-a.ensures.value;
  second = c.word-b.ensures.value;
  third = c.word-c.ensures.value;
  fourth = c.word-d.ensures.value;
}

pub returns-clause-outcome : goal.returns-clause-outcome
unfolding code_of
returns-clause-outcome c = c.decode.ensures (outcome_at c.args.self.now.base.plan c.args.rank) c.word-a.ensures.sized c.word-a.ensures.value c.word-b.ensures.value c.word-c.ensures.value c.word-d.ensures.value
