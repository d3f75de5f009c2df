use Rattle.std.proofs.Common.{arith, ap, length}
use Rattle.amp_plan.proofs.ranking.Ranking.len.Goals as goal

pub overflow_cast-result : goal.overflow_cast-result
overflow_cast-result c =
    omega (arith, c.self.invariant.few, ap length c.self.invariant.keys, ap length c.keys.ensures)
