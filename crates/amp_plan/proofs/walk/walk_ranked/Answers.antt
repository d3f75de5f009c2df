use Rattle.std.proofs.Common.{arith, ap, ap₂, ◌∙◌, length}
use Rattle.amp_plan.proofs.Words.{remove, tensors_of, rank_at, all_ranked, terms}
use Rattle.amp_plan.proofs.PartLemmas.{room_planned, length-without}
use Rattle.amp_plan.proofs.WalkLemmas.{takes-same}
use Rattle.amp_plan.proofs.walk.walk_ranked.Goals as goal

pub walk_rest-requires-clause-room : goal.walk_rest-requires-clause-room
walk_rest-requires-clause-room g c =
    let list = c.as_slice.ensures.value ∙ c.without-rest.ensures ∙ ap (remove c.args.pivot) c.idx.ensures in
    rw (c.g.ensures, list) (room_planned _ _ _ _ c.requires.planned c.requires.pivot)

pub walk_rest-requires-clause-few : goal.walk_rest-requires-clause-few
walk_rest-requires-clause-few g c =
    let list = c.as_slice.ensures.value ∙ c.without-rest.ensures ∙ ap (remove c.args.pivot) c.idx.ensures in
    omega (arith, ap length list, length-without c.args.pivot c.args.key.now.idx c.requires.pivot, c.validity_fact.ensures.room)

pub walk_rest-requires-clause-allowed : goal.walk_rest-requires-clause-allowed
walk_rest-requires-clause-allowed g c =
    let list = c.as_slice.ensures.value ∙ c.without-rest.ensures ∙ ap (remove c.args.pivot) c.idx.ensures in
    rw (c.g.ensures, list) c.requires.allowed

pub returns : goal.returns
returns g c =
    let p = c.args.ranking.now in
    let list = c.as_slice.ensures.value ∙ c.without-rest.ensures ∙ ap (remove c.args.pivot) c.idx.ensures in
    takes-same (ap₂ (λ n l. all_ranked (rank_at p) (terms (tensors_of p) c.args.pivot n l)) c.g.ensures list) c.walk_rest.ensures
