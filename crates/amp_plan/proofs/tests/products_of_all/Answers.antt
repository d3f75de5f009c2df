use Rattle.std.proofs.Common.{arith, sym, subst, ◌<◌, length}
use Rattle.airy_math.specs.Planned.{IsPlanned}
use Rattle.amp_plan.specs.Plans.{tensors_of, keys_of, key_at}
use Rattle.amp_plan.proofs.tests.products_of_all.Goals as goal

pub walked-count-requires-clause-planned : goal.walked-count-requires-clause-planned
unfolding keys_of key_at
walked-count-requires-clause-planned c =
    let p = c.args.plan.now in
    let h : c.loop-rank.rank < length (keys_of p) = omega (arith, c.loop-rank-test.true, c.len-rank-end.ensures) in
    subst (IsPlanned (tensors_of p) p.bound) (sym c.key-key.ensures) ((c.planned_once.ensures (tensors_of p) p.bound).only c.loop-rank.rank h)
