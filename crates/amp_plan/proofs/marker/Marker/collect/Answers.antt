use Rattle.std.proofs.Common.{sym, ap, subst, ◌∙◌, ◌≡◌, ◌<◌, ◌+◌, [], length, get_or}
use Rattle.amp_plan.proofs.Words.{head_or, times, planned, IsPlanned, ListsPlanned, tensors_of, keys_of, named_ranks, marked, AreNamed}
use Rattle.airy_math.specs.Ranks.{key_at}
use Rattle.airy_math.proofs.PlannedLaw.{head_stands}
use Rattle.amp_plan.proofs.NeedLemmas.{head_read, key_read_at, walk_allowed, collected, are_named}
use Rattle.amp_plan.proofs.marker.Marker.collect.Goals as goal

pub bounds-idx-0 : goal.bounds-idx-0
unfolding keys_of
bounds-idx-0 c =
    let key = key_read_at c.keys.result.now (keys_of c.args.ranking.now) c.index-keys-rank.result c.args.rank c.keys.ensures c.requires.rank c.index-keys-rank.is in
    let is_planned : IsPlanned (tensors_of c.args.ranking.now) c.args.ranking.now.bound c.index-keys-rank.result = subst (IsPlanned (tensors_of c.args.ranking.now) c.args.ranking.now.bound) (sym key) ((c.planned_once.ensures (tensors_of c.args.ranking.now) c.args.ranking.now.bound).only c.args.rank c.requires.rank) in
    subst (λ l. 0 < length l) (sym c.idx.ensures) is_planned.places

pub walk_ranked-requires-clause-planned : goal.walk_ranked-requires-clause-planned
unfolding keys_of
walk_ranked-requires-clause-planned c =
    let key = key_read_at c.keys.result.now (keys_of c.args.ranking.now) c.index-keys-rank.result c.args.rank c.keys.ensures c.requires.rank c.index-keys-rank.is in
    subst (IsPlanned (tensors_of c.args.ranking.now) c.args.ranking.now.bound) (sym key) ((c.planned_once.ensures (tensors_of c.args.ranking.now) c.args.ranking.now.bound).only c.args.rank c.requires.rank)

pub walk_ranked-requires-clause-pivot : goal.walk_ranked-requires-clause-pivot
unfolding keys_of
walk_ranked-requires-clause-pivot c =
    let key = key_read_at c.keys.result.now (keys_of c.args.ranking.now) c.index-keys-rank.result c.args.rank c.keys.ensures c.requires.rank c.index-keys-rank.is in
    let is_planned : IsPlanned (tensors_of c.args.ranking.now) c.args.ranking.now.bound c.index-keys-rank.result = subst (IsPlanned (tensors_of c.args.ranking.now) c.args.ranking.now.bound) (sym key) ((c.planned_once.ensures (tensors_of c.args.ranking.now) c.args.ranking.now.bound).only c.args.rank c.requires.rank) in
    let pivot : get_or c.idx.result.now 0 0 ≡ head_or 0 c.index-keys-rank.result.idx = ap (λ l. get_or l 0 0) c.idx.ensures ∙ head_read c.index-keys-rank.result.idx in
    subst (λ i. 0 < times i c.index-keys-rank.result.idx) (sym pivot) (head_stands c.index-keys-rank.result.idx is_planned.places)

pub walk_ranked-requires-clause-allowed : goal.walk_ranked-requires-clause-allowed
walk_ranked-requires-clause-allowed c =
    let T = tensors_of c.args.ranking.now in
    let X = c.args.ranking.now.bound in
    let lists : ListsPlanned T X = c.planned_once.ensures T X in
    let pivot : get_or c.idx.result.now 0 0 ≡ head_or 0 c.index-keys-rank.result.idx = ap (λ l. get_or l 0 0) c.idx.ensures ∙ head_read c.index-keys-rank.result.idx in
    walk_allowed c.args.ranking.now c.begin.new.self.size c.index-keys-rank.result (get_or c.idx.result.now 0 0) pivot (ap (λ m. m.size) c.begin.ensures ∙ c.requires.size) lists (c.needs_first.ensures T X c.index-keys-rank.result (walk_ranked-requires-clause-planned c))

-- the marks after the walk
marks : (c : goal.After-walk_ranked) → c.walk_ranked.new.visitor ≡ marked (record { row = []; size = c.args.self.now.size; stamp = c.args.rank + 2 }) (named_ranks (tensors_of c.args.ranking.now) c.args.ranking.now.bound c.args.rank)
marks c =
    let key = key_read_at c.keys.result.now (keys_of c.args.ranking.now) c.index-keys-rank.result c.args.rank c.keys.ensures c.requires.rank c.index-keys-rank.is in
    let pivot : get_or c.idx.result.now 0 0 ≡ head_or 0 c.index-keys-rank.result.idx = ap (λ l. get_or l 0 0) c.idx.ensures ∙ head_read c.index-keys-rank.result.idx in
    collected c.args.ranking.now c.args.rank c.index-keys-rank.result (get_or c.idx.result.now 0 0) c.begin.new.self c.walk_ranked.new.visitor key pivot c.walk_ranked.ensures.after
    ∙ ap (λ m. marked m (named_ranks (tensors_of c.args.ranking.now) c.args.ranking.now.bound c.args.rank)) c.begin.ensures

pub returns-clause-row : goal.returns-clause-row
unfolding marked keys_of
returns-clause-row c =
    let T = tensors_of c.args.ranking.now in
    let X = c.args.ranking.now.bound in
    let lists : ListsPlanned T X = c.planned_once.ensures T X in
    subst (AreNamed T X c.args.rank) (sym (ap (λ m. m.row) (marks c))) (are_named T X c.args.rank lists (c.needs_first.ensures T X (key_at (planned T X) c.args.rank) (lists.only c.args.rank c.requires.rank)))

pub returns-clause-size : goal.returns-clause-size
unfolding marked
returns-clause-size c = ap (λ m. m.size) (marks c)

pub returns-clause-stamp : goal.returns-clause-stamp
unfolding marked
returns-clause-stamp c = ap (λ m. m.stamp) (marks c)
