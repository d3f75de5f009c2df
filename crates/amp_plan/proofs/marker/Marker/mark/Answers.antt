use Rattle.std.proofs.Common.{arith, sym, ap, subst, ◌∙◌, ◌≡◌, ◌<◌, ◌++◌, ◌∷◌, [], length, set, length-set, true, false, eq-eqb, ne_eqb}
use Rattle.amp_plan.proofs.Words.{vec_capacity, get_or_read, has, Marks, IsMarked, marked}
use Rattle.amp_plan.proofs.MarkLemmas.{marked-room, marked-more, marked-new, marked-same}
use Rattle.amp_plan.proofs.marker.Marker.mark.Goals as goal

pub push_reserved-requires : goal.push_reserved-requires
push_reserved-requires c =
    let small : c.args.rank < length c.self.inside.stamps.items = subst (λ m. c.args.rank < m.size) (sym c.self.view_is) c.requires in
    let stamp = get_or_read c.self.inside.stamps.items c.args.rank c.index.result.now small c.index.ensures 0 in
    omega (arith, marked-room c.self.inside.stamps.items c.self.inside.stamp (vec_capacity c.self.inside.row) c.self.inside.row.items c.args.rank c.self.invariant small (λ e. c.if-index-self.true (stamp ∙ e)))

pub invariant_of-self : goal.invariant_of-self
invariant_of-self c =
    let small : c.args.rank < length c.self.inside.stamps.items = subst (λ m. c.args.rank < m.size) (sym c.self.view_is) c.requires in
    let stamp = get_or_read c.self.inside.stamps.items c.args.rank c.index.result.now small c.index.ensures 0 in
    let more = marked-more c.self.inside.stamps.items c.self.inside.stamp (vec_capacity c.self.inside.row) c.self.inside.row.items c.args.rank c.self.invariant small (λ e. c.if-index-self.true (stamp ∙ e)) in
    subst (λ k. IsMarked (set c.self.inside.stamps.items c.args.rank c.self.inside.stamp) c.self.inside.stamp k c.push_reserved.new.self.items) (sym c.push_reserved.ensures.capacity)
    (subst (IsMarked (set c.self.inside.stamps.items c.args.rank c.self.inside.stamp) c.self.inside.stamp (vec_capacity c.self.inside.row)) (sym c.push_reserved.ensures.items) more)

pub returns-then-index-self : goal.returns-then-index-self
returns-then-index-self c =
    let small : c.args.rank < length c.self.inside.stamps.items = subst (λ m. c.args.rank < m.size) (sym c.self.view_is) c.requires in
    let stamp = get_or_read c.self.inside.stamps.items c.args.rank c.index.result.now small c.index.ensures 0 in
    let fresh : has c.args.rank c.self.inside.row.items ≡ false = sym (c.self.invariant.stamped c.args.rank small) ∙ ne_eqb c.self.inside.stamp _ (λ e. c.if-index-self.true (stamp ∙ sym e)) in
    let now : Marks = record { row = c.self.inside.row.items; size = length c.self.inside.stamps.items; stamp = c.self.inside.stamp } in
    let next : Marks = record { row = c.push_reserved.new.self.items; size = length (set c.self.inside.stamps.items c.args.rank c.self.inside.stamp); stamp = c.self.inside.stamp } in
    let same : next ≡ record { row = c.self.inside.row.items ++ c.args.rank ∷ []; size = length c.self.inside.stamps.items; stamp = c.self.inside.stamp } = λ i. record { row = c.push_reserved.ensures.items i; size = length-set c.self.inside.stamps.items c.args.rank c.self.inside.stamp i; stamp = c.self.inside.stamp } in
    subst (λ m. next ≡ marked m (c.args.rank ∷ [])) c.self.view_is (same ∙ sym (marked-new now c.args.rank fresh))

pub returns-else-index-self : goal.returns-else-index-self
returns-else-index-self c =
    let small : c.args.rank < length c.self.inside.stamps.items = subst (λ m. c.args.rank < m.size) (sym c.self.view_is) c.requires in
    let stamp = get_or_read c.self.inside.stamps.items c.args.rank c.index.result.now small c.index.ensures 0 in
    let there : has c.args.rank c.self.inside.row.items ≡ true = sym (c.self.invariant.stamped c.args.rank small) ∙ eq-eqb c.self.inside.stamp _ (sym c.if-index-self.false ∙ stamp) in
    sym (marked-same c.args.self.now c.args.rank (ap (λ m. has c.args.rank m.row) (sym c.self.view_is) ∙ there))
