use Rattle.std.proofs.Common.{rules, arith, to_z, of_z, w64}
use Rattle.std.proofs.lemmas.Int.{ints}
use Rattle.index_lists.proofs.WindowLemmas.{up_to_at, up_to_none, up_to_most, as_natural}
use Rattle.index_lists.proofs.window.Window.up_to.Goals as goal

pub returns-then-sum-lt0 : goal.returns-then-sum-lt0
returns-then-sum-lt0 c = λ s h. up_to_none c.args.sum s (omega (arith, ints))

pub returns-then-sum-gt65535 : goal.returns-then-sum-gt65535
returns-then-sum-gt65535 c = λ s h. up_to_most c.args.sum s h (omega (arith, ints))

pub returns : goal.returns
returns c = λ s h. up_to_at c.args.sum _ s (as_natural c.args.sum (to_z w64 (of_z w64 c.args.sum)) (omega (arith, ints)) (search rules))
