use Rattle.std.proofs.Common.{arith, sym, subst, ◌<◌}
use Rattle.amp_plan.proofs.Words.{vec_capacity, IsMarked}
use Rattle.amp_plan.proofs.MarkLemmas.{marked-none}
use Rattle.amp_plan.proofs.marker.Marker.begin.Goals as goal

pub invariant_of-self : goal.invariant_of-self
invariant_of-self c =
    let before : c.self.inside.stamp < c.args.stamp = subst (λ m. m.stamp < c.args.stamp) (sym c.self.view_is) c.requires in
    subst (IsMarked c.self.inside.stamps.items c.args.stamp (vec_capacity c.clear.new.self)) (sym c.clear.ensures.items)
    (marked-none c.self.inside.stamps.items c.self.inside.stamp c.args.stamp (vec_capacity c.clear.new.self) before c.self.invariant.old (omega (arith, c.clear.ensures.capacity, c.self.invariant.room)))
