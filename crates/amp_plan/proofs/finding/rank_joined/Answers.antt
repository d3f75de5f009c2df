use Rattle.std.proofs.Common.{arith, rules, sym, ap, subst, ◌∙◌, ◌-◌, ◌∷◌, ◌++◌, [], length}
use Rattle.amp_plan.proofs.Words.{key_of, insert, per_n, tensors_of, IsMeasured, HasRoom, live_rank}
use Rattle.amp_plan.proofs.RankWalkLemmas.{room_joined, ordered_beside, few_in_room}
use Rattle.amp_plan.proofs.FindLemmas.{room_light, beside_measured, beside_code, beside_live}
use Rattle.amp_plan.proofs.finding.rank_joined.Goals as goal

pub with_index-with_b-requires : goal.with_index-with_b-requires
with_index-with_b-requires c = omega (arith, few_in_room c.args.ranking.now c.args.genus c.args.rest.now.list.items c.is_small.ensures.most c.requires.room, ap length c.as_slice.ensures.value)

pub rank_with-requires-clause-room : goal.rank_with-requires-clause-room
rank_with-requires-clause-room c =
    let p = c.args.ranking.now in
    subst (HasRoom (tensors_of p) p.bound (c.args.genus - 1))
    (sym (ordered_beside c.args.pair.now.b c.requires.room (c.as_slice-then-not-is_exact.ensures.value ∙ c.with_index-with_b.ensures ∙ ap (λ l. l ++ c.args.pair.now.b ∷ []) c.as_slice.ensures.value)))
    (room_joined p c.args.genus c.args.pair.now.b c.args.rest.now.list.items c.requires.b (λ e. omega (arith, e, c.requires.some)) c.requires.room)

pub returns-then-not-is_exact : goal.returns-then-not-is_exact
returns-then-not-is_exact c =
    let same = ordered_beside c.args.pair.now.b c.requires.room (c.as_slice-then-not-is_exact.ensures.value ∙ c.with_index-with_b.ensures ∙ ap (λ l. l ++ c.args.pair.now.b ∷ []) c.as_slice.ensures.value) in
    c.rank_with.ensures ∙ ap (λ l. live_rank c.args.ranking.now (key_of (c.args.genus - 1) (insert c.args.pair.now.a l))) same

pub plus-indices-requires-clause-other : goal.plus-indices-requires-clause-other
plus-indices-requires-clause-other c =
    let room = room_joined c.args.ranking.now c.args.genus c.args.pair.now.b c.args.rest.now.list.items c.requires.b (λ e. omega (arith, e, c.requires.some)) c.requires.room in
    let item : IsMeasured (per_n c.args.ranking.now.tensors.shape) (c.args.pair.now.b ∷ []) c.of.result = search rules in
    let with = beside_measured c.args.ranking.now c.is_small.ensures.most c.requires.room c.requires.rest.whole item c.plus-with_b.ensures in
    room_light c.args.ranking.now (search rules) c.is_small.ensures.most (search rules) room with

pub find_live-requires-clause-code : goal.find_live-requires-clause-code
find_live-requires-clause-code c =
    let room = room_joined c.args.ranking.now c.args.genus c.args.pair.now.b c.args.rest.now.list.items c.requires.b (λ e. omega (arith, e, c.requires.some)) c.requires.room in
    let item : IsMeasured (per_n c.args.ranking.now.tensors.shape) (c.args.pair.now.b ∷ []) c.of.result = search rules in
    let with = beside_measured c.args.ranking.now c.is_small.ensures.most c.requires.room c.requires.rest.whole item c.plus-with_b.ensures in
    let first : IsMeasured (per_n c.args.ranking.now.tensors.shape) (c.args.pair.now.a ∷ []) c.of-2.result = search rules in
    beside_code c.args.ranking.now c.is_small.ensures.most room with first c.plus-indices.ensures

pub returns : goal.returns
returns c =
    let room = room_joined c.args.ranking.now c.args.genus c.args.pair.now.b c.args.rest.now.list.items c.requires.b (λ e. omega (arith, e, c.requires.some)) c.requires.room in
    let item : IsMeasured (per_n c.args.ranking.now.tensors.shape) (c.args.pair.now.b ∷ []) c.of.result = search rules in
    let with = beside_measured c.args.ranking.now c.is_small.ensures.most c.requires.room c.requires.rest.whole item c.plus-with_b.ensures in
    let first : IsMeasured (per_n c.args.ranking.now.tensors.shape) (c.args.pair.now.a ∷ []) c.of-2.result = search rules in
    beside_live c.args.ranking.now c.is_small.ensures.most room with first c.plus-indices.ensures c.requires.a c.find_live.ensures
