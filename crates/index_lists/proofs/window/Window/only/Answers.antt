use Rattle.std.proofs.Common.{rules, arith, to_z, of_z, w64}
use Rattle.std.proofs.lemmas.Int.{ints}
use Rattle.index_lists.proofs.WindowLemmas.{only_at, only_below, only_above, as_natural}
use Rattle.index_lists.proofs.window.Window.only.Goals as goal

pub returns-then-sum-lt0 : goal.returns-then-sum-lt0
returns-then-sum-lt0 c = λ s h. only_below c.args.sum s (omega (arith, ints))

pub returns-then-sum-gt65535 : goal.returns-then-sum-gt65535
returns-then-sum-gt65535 c = λ s h. only_above c.args.sum s h (omega (arith, ints))

pub returns : goal.returns
returns c = λ s h. only_at c.args.sum _ (as_natural c.args.sum (to_z w64 (of_z w64 c.args.sum)) (omega (arith, ints)) (search rules)) s
