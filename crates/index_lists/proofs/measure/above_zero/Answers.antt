use Rattle.std.proofs.Common.{arith, rules, sym, to_z, of_z, w64}
use Rattle.index_lists.proofs.WindowLemmas.{natural_none, natural_some}
use Rattle.std.proofs.lemmas.Int.{ints}
use Rattle.index_lists.proofs.measure.above_zero.Goals as goal

pub returns-then-number-lt0 : goal.returns-then-number-lt0
returns-then-number-lt0 c = sym (natural_none c.args.number (omega (arith, ints, c.if-number-lt0.true)))

pub returns : goal.returns
returns c = natural_some c.args.number (to_z w64 (of_z w64 c.args.number)) (omega (arith, ints, c.if-number-lt0.false)) (search rules)
