use Rattle.std.proofs.Common.{rules, arith}
use Rattle.tensor_text.proofs.ValueLemmas.{short_is, long_is}
use Rattle.tensor_text.proofs.values.read_short.Goals as goal

pub returns-then-word-gt2-clause-value : goal.returns-then-word-gt2-clause-value
returns-then-word-gt2-clause-value c = long_is c.args.word.now (omega (arith, c.if-word-gt2.true))

pub returns-in_err-number-clause-value : goal.returns-in_err-number-clause-value
returns-in_err-number-clause-value c = rw (← short_is c.args.word.now (omega (arith, c.if-word-gt2.false))) (search rules)

pub returns-clause-value : goal.returns-clause-value
returns-clause-value c = rw (← short_is c.args.word.now (omega (arith, c.if-word-gt2.false))) (search rules)
