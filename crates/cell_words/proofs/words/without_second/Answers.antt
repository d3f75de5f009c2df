use Rattle.std.proofs.Common.{arith}
use Rattle.cell_words.proofs.WordLemmas.{blocked_back}
use Rattle.cell_words.proofs.words.without_second.Goals as goal

pub returns : goal.returns
returns c = λ o s e z. blocked_back o c.args.a s e z (grind (arith, c.if-a-eq0.false))
