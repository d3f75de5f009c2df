use Rattle.std.proofs.Common.{rules, ◌∷◌, []}
use Rattle.amp_plan.proofs.Words.{per_n, IsMeasured}
use Rattle.amp_plan.proofs.RankWalkLemmas.{room_ordered, rank_ordered}
use Rattle.amp_plan.proofs.FindLemmas.{room_light, beside_code, beside_live}
use Rattle.amp_plan.proofs.finding.rank_beside.Goals as goal

pub rank_with-requires-clause-room : goal.rank_with-requires-clause-room
rank_with-requires-clause-room c = room_ordered c.requires.room

pub returns-then-not-is_exact : goal.returns-then-not-is_exact
returns-then-not-is_exact c = rank_ordered c.args.ranking.now c.args.genus c.args.x c.args.list.now c.rank_with.result c.requires.room c.rank_with.ensures

pub plus-indices-requires-clause-other : goal.plus-indices-requires-clause-other
plus-indices-requires-clause-other c = room_light c.args.ranking.now (search rules) c.is_small.ensures.most (search rules) c.requires.room c.requires.measured

pub find_live-requires-clause-code : goal.find_live-requires-clause-code
find_live-requires-clause-code c =
    let item : IsMeasured (per_n c.args.ranking.now.tensors.shape) (c.args.x ∷ []) c.of.result = search rules in
    beside_code c.args.ranking.now c.is_small.ensures.most c.requires.room c.requires.measured item c.plus-indices.ensures

pub returns : goal.returns
returns c =
    let item : IsMeasured (per_n c.args.ranking.now.tensors.shape) (c.args.x ∷ []) c.of.result = search rules in
    beside_live c.args.ranking.now c.is_small.ensures.most c.requires.room c.requires.measured item c.plus-indices.ensures c.requires.small c.find_live.ensures
