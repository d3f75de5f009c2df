use Rattle.std.proofs.Common.{arith}
use Rattle.correlators.proofs.ListLemmas.{at_most-total}
use Rattle.correlators.proofs.lists.doubled.Goals as goal

pub overflow_mul-d : goal.overflow_mul-d
overflow_mul-d c = omega (arith, at_most-total c.args.list.now c.loop-d.d-index, c.requires.small)
