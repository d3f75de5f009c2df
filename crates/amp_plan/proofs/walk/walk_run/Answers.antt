use Rattle.std.proofs.lemmas.List.{drop_all}
use Rattle.std.proofs.Common.{arith, rules, length, sym, ap, subst, ◌∙◌, ◌≡◌, to_z, of_z, w64}
use Rattle.amp_plan.proofs.Words.{remove, per_n, IsMeasured, each, row_b, looked_up, tensors_of, HasRoom, once_part, run_part}
use Rattle.amp_plan.proofs.RankWalkLemmas.{few_in_room, room_less, entry_b-small}
use Rattle.amp_plan.proofs.WalkLemmas.{taken-none, taken-more, taken-all, takes-same, allowed-next, allowed-same, drop-read}
use Rattle.amp_plan.proofs.walk.walk_run.Goals as goal

pub without-left-requires : goal.without-left-requires
without-left-requires g c = omega (arith, few_in_room c.args.ranking.now c.args.genus c.args.rest.now.list.items c.is_small.ensures.most c.requires.room, ap length c.as_slice.ensures.value)

pub of_list-measure-requires-clause-few : goal.of_list-measure-requires-clause-few
of_list-measure-requires-clause-few g c =
    let left = c.as_slice-left.ensures.value ∙ c.without-left.ensures ∙ ap (remove c.args.run.0) c.as_slice.ensures.value in
    let room = room_less c.args.run.0 c.requires.room in
    omega (arith, ap length left, few_in_room c.args.ranking.now c.args.genus (remove c.args.run.0 c.args.rest.now.list.items) c.is_small.ensures.most room)

pub walk_once-requires-clause-measured : goal.walk_once-requires-clause-measured
walk_once-requires-clause-measured g c =
    let same : to_z w64 (of_z w64 c.per_n-per_n.result) ≡ per_n c.args.ranking.now.tensors.shape = search rules in
    subst (λ z. IsMeasured z c.as_slice-left.result.now c.of_list-measure.result) same c.of_list-measure.ensures

pub walk_once-requires-clause-room : goal.walk_once-requires-clause-room
walk_once-requires-clause-room g c =
    let left = c.as_slice-left.ensures.value ∙ c.without-left.ensures ∙ ap (remove c.args.run.0) c.as_slice.ensures.value in
    subst (HasRoom (tensors_of c.args.ranking.now) c.args.ranking.now.bound c.args.genus) (sym left) (room_less c.args.run.0 c.requires.room)

pub loop-entry-init : goal.loop-entry-init
unfolding tensors_of
loop-entry-init g c = taken-none (c.row_b-row.ensures ∙ ap (λ t. row_b (looked_up t) c.args.pivot c.args.run.0) c.tensors-3.ensures)

pub walk_once-requires-clause-small : goal.walk_once-requires-clause-small
unfolding tensors_of
walk_once-requires-clause-small g c =
    entry_b-small c.args.ranking.now c.args.pivot c.args.run.0 c.loop-entry.entry-index c.row_b-row.result.now c.entry-item.result
    (c.row_b-row.ensures ∙ ap (λ t. row_b (looked_up t) c.args.pivot c.args.run.0) c.tensors-3.ensures) c.loop-entry-test.true c.entry-item.is

pub walk_once-requires-clause-allowed : goal.walk_once-requires-clause-allowed
unfolding run_part
walk_once-requires-clause-allowed g c =
    let left = c.as_slice-left.ensures.value ∙ c.without-left.ensures ∙ ap (remove c.args.run.0) c.as_slice.ensures.value in
    let row = row_b (tensors_of c.args.ranking.now) c.args.pivot c.args.run.0 in
    allowed-next (drop-read _ _ _ c.loop-entry-test.true c.entry-item.is)
    (allowed-same _ (ap (λ l. each row (once_part c.args.ranking.now c.args.genus l c.args.run.1)) left) c.requires.allowed) c.loop-entry.invariant

pub loop-entry-preserved : goal.loop-entry-preserved
loop-entry-preserved g c = taken-more (drop-read _ _ _ c.loop-entry-test.true c.entry-item.is) c.loop-entry.invariant c.walk_once.ensures

pub returns : goal.returns
unfolding run_part
returns g c =
    let left = c.as_slice-left.ensures.value ∙ c.without-left.ensures ∙ ap (remove c.args.run.0) c.as_slice.ensures.value in
    let row = row_b (tensors_of c.args.ranking.now) c.args.pivot c.args.run.0 in
    takes-same (ap (λ l. each row (once_part c.args.ranking.now c.args.genus l c.args.run.1)) left) (taken-all (drop_all _ _ c.loop-entry-test.false) c.loop-entry.invariant)
