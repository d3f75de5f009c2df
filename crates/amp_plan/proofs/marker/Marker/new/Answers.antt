use Rattle.std.proofs.Common.{arith, sym, ap, subst, ◌∙◌, ◌≡◌, length}
use lib.ListN.{length-replicate}
use Rattle.amp_plan.proofs.Words.{vec_capacity, IsMarked}
use Rattle.amp_plan.proofs.MarkLemmas.{marked-none, zeros-small}
use Rattle.amp_plan.proofs.marker.Marker.new.Goals as goal

pub invariant_of-result : goal.invariant_of-result
invariant_of-result c =
    let long : length c.in_ok-stamps.stamps.items ≡ c.args.size = ap length c.in_ok-stamps.ensures ∙ length-replicate c.args.size 0 in
    subst (IsMarked c.in_ok-stamps.stamps.items 1 (vec_capacity c.in_ok-row.row)) (sym c.in_ok-row.ensures.items)
    (marked-none c.in_ok-stamps.stamps.items 0 1 (vec_capacity c.in_ok-row.row) (omega arith) (zeros-small c.in_ok-stamps.stamps.items c.args.size c.in_ok-stamps.ensures) (omega (arith, long, c.in_ok-row.ensures.exact)))
