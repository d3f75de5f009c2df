use Rattle.std.proofs.Common.{arith, sym, ap, ◌∙◌, ◌<◌, length}
use Rattle.amp_plan.proofs.Words.{key_of, ordered, place_in, length-ordered}
use Rattle.amp_plan.proofs.RankWalkLemmas.{Orders, few_indices, ordered-push, made_stable, not_made, at_rank, not_at, not_stable}
use Rattle.amp_plan.proofs.finding.rank_with.Goals as goal

pub with_index-indices-requires : goal.with_index-indices-requires
with_index-indices-requires c = few_indices c.args.ranking.now c.args.genus c.args.list.now c.is_small.ensures.most c.requires.room

pub returns-in-At : goal.returns-in-At
returns-in-At c =
    let J = ordered c.args.list.now in
    let o : Orders c.as_slice.result.now J c.args.x = record { same = ap ordered (c.as_slice.ensures.value ∙ c.with_index-indices.ensures) ∙ ordered-push c.args.list.now c.args.x } in
    let few : length J < 26 = omega (arith, length-ordered c.args.list.now, few_indices c.args.ranking.now c.args.genus c.args.list.now c.is_small.ensures.most c.requires.room) in
    let key = c.in-Ok.ensures.key ∙ ap (key_of c.args.genus) o.same in
    at_rank c.args.ranking.now c.args.genus c.args.x J c.requires.room c.requires.small
    (made_stable c.args.genus c.as_slice.result.now J c.args.x c.in-Ok.key o few c.in-Ok.ensures.unstable.1)
    c.in-At.rank (sym c.in-At.is ∙ c.rank_of.ensures ∙ ap (place_in c.args.ranking.now) key)

pub returns-in_default : goal.returns-in_default
returns-in_default c =
    let J = ordered c.args.list.now in
    let o : Orders c.as_slice.result.now J c.args.x = record { same = ap ordered (c.as_slice.ensures.value ∙ c.with_index-indices.ensures) ∙ ordered-push c.args.list.now c.args.x } in
    let few : length J < 26 = omega (arith, length-ordered c.args.list.now, few_indices c.args.ranking.now c.args.genus c.args.list.now c.is_small.ensures.most c.requires.room) in
    let key = c.in-Ok.ensures.key ∙ ap (key_of c.args.genus) o.same in
    not_at c.args.ranking.now c.args.genus c.args.x J c.requires.room c.requires.small
    (made_stable c.args.genus c.as_slice.result.now J c.args.x c.in-Ok.key o few c.in-Ok.ensures.unstable.1)
    (λ r e. c.in_default.not-At r (c.rank_of.ensures ∙ ap (place_in c.args.ranking.now) key ∙ e))

pub returns-in-Err : goal.returns-in-Err
returns-in-Err c =
    let J = ordered c.args.list.now in
    let o : Orders c.as_slice.result.now J c.args.x = record { same = ap ordered (c.as_slice.ensures.value ∙ c.with_index-indices.ensures) ∙ ordered-push c.args.list.now c.args.x } in
    let few : length J < 26 = omega (arith, length-ordered c.args.list.now, few_indices c.args.ranking.now c.args.genus c.args.list.now c.is_small.ensures.most c.requires.room) in
    not_stable c.args.ranking.now c.args.genus c.args.x J c.requires.room c.requires.small
    (not_made c.args.genus c.as_slice.result.now J c.args.x c.of.result c.in-Err.field-0 o few c.in-Err.is c.of.ensures.none.0 c.of.ensures.many.0 c.of.ensures.unstable.0)
