use Rattle.std.proofs.lemmas.List.{drop_all}
use Rattle.std.proofs.Common.{rules, sym, ap, subst, ◌∙◌, ◌≡◌, true}
use Rattle.amp_plan.proofs.Words.{per_n, splits, all_listed, row_c, looked_up, tensors_of, HasRoom, c_part}
use Rattle.index_lists.specs.Rests.{IsRest}
use Rattle.index_lists.specs.declared.rest.Rest.{Rest}
use Rattle.amp_plan.proofs.RankWalkLemmas.{few_in_room, entry_c-small}
use Rattle.amp_plan.proofs.WalkLemmas.{taken-none, taken-more, taken-all, takes-same, allowed-next, allowed-same, drop-read}
use Rattle.amp_plan.proofs.walk.walk_in_room.Goals as goal

pub list_all-requires : goal.list_all-requires
list_all-requires g c =
    let law : per_n c.shape.result ≡ per_n c.args.ranking.now.tensors.shape = search rules in
    let rest = subst (λ z. IsRest z c.args.rest) (sym law) c.requires.rest in
    (search rules, (search rules, (rest, (few_in_room c.args.ranking.now c.args.genus c.args.rest.list.items c.is_small.ensures.most c.requires.room, c.new.ensures))))

pub loop-entry-init : goal.loop-entry-init
unfolding tensors_of
loop-entry-init g c = taken-none (c.row_c-row.ensures ∙ ap (λ t. row_c (looked_up t) c.args.pivot) c.tensors-3.ensures)

pub walk_entry-requires : goal.walk_entry-requires
unfolding c_part tensors_of
walk_entry-requires g c =
    let p = c.args.ranking.now in
    let same = c.list_all.ensures.rest in
    let law : per_n c.shape.result ≡ per_n p.tensors.shape = search rules in
    let listed = subst (λ z. c.list_all.new.self.whole ≡ true → c.list_all.new.self.splits ≡ all_listed z (splits c.list_all.new.self.rest.list.items)) law c.list_all.ensures.listed in
    let small = entry_c-small p c.args.pivot c.loop-entry.entry-index c.row_c-row.result.now c.entry-item.result (c.row_c-row.ensures ∙ ap (λ t. row_c (looked_up t) c.args.pivot) c.tensors-3.ensures) c.loop-entry-test.true c.entry-item.is in
    let whole = allowed-same _ (ap (λ (q : Rest). c_part p c.args.pivot c.args.genus q.list.items) same) c.requires.allowed in
    let allowed = allowed-next (drop-read _ _ _ c.loop-entry-test.true c.entry-item.is) whole c.loop-entry.invariant in
    let rest = subst (IsRest (per_n p.tensors.shape)) (sym same) c.requires.rest in
    let room = subst (λ (q : Rest). HasRoom (tensors_of p) p.bound c.args.genus q.list.items) (sym same) c.requires.room in
    (search rules, (rest, (listed, (room, (small.0, (small.1, allowed))))))

pub loop-entry-preserved : goal.loop-entry-preserved
loop-entry-preserved g c = taken-more (drop-read _ _ _ c.loop-entry-test.true c.entry-item.is) c.loop-entry.invariant c.walk_entry.ensures

pub returns : goal.returns
unfolding c_part
returns g c =
    takes-same (ap (λ (q : Rest). c_part c.args.ranking.now c.args.pivot c.args.genus q.list.items) c.list_all.ensures.rest)
    (taken-all (drop_all _ _ c.loop-entry-test.false) c.loop-entry.invariant)
