use Rattle.std.proofs.Common.{rules, ◌++◌, ap, Option, List}
use Rattle.amp_plan.proofs.Words.{entry_part, joined_part, product_part, ℚ, RankedTerm}
use Rattle.amp_plan.proofs.WalkLemmas.{takes-same, takes-append, allowed-left, allowed-right, allowed-same, allowed-still}
use Rattle.amp_plan.proofs.walk.walk_entry.Goals as goal

pub walk_joined-requires-clause-allowed : goal.walk_joined-requires-clause-allowed
unfolding entry_part
walk_joined-requires-clause-allowed g c =
    let part : Option ℚ → List RankedTerm = λ w. joined_part c.args.ranking.now c.args.genus c.args.list.now.rest.list.items c.args.entry.0 c.args.entry.1 w ++ product_part c.args.ranking.now c.args.genus c.args.list.now.rest.list.items c.args.entry.0 c.args.entry.1 w in
    allowed-left _ _ _ (allowed-same _ (ap part c.weight_of.ensures) c.requires.allowed)

pub walk_products-requires : goal.walk_products-requires
unfolding entry_part
walk_products-requires g c =
    let part : Option ℚ → List RankedTerm = λ w. joined_part c.args.ranking.now c.args.genus c.args.list.now.rest.list.items c.args.entry.0 c.args.entry.1 w ++ product_part c.args.ranking.now c.args.genus c.args.list.now.rest.list.items c.args.entry.0 c.args.entry.1 w in
    let allowed = allowed-still _ c.walk_joined.ensures (allowed-right _ (joined_part c.args.ranking.now c.args.genus c.args.list.now.rest.list.items c.args.entry.0 c.args.entry.1 c.weight_of.result) _ (allowed-same _ (ap part c.weight_of.ensures) c.requires.allowed)) in
    (search rules, (c.requires.rest, (c.requires.listed, (c.requires.room, (c.requires.a, (c.requires.b, allowed))))))

pub returns : goal.returns
unfolding entry_part
returns g c =
    let part : Option ℚ → List RankedTerm = λ w. joined_part c.args.ranking.now c.args.genus c.args.list.now.rest.list.items c.args.entry.0 c.args.entry.1 w ++ product_part c.args.ranking.now c.args.genus c.args.list.now.rest.list.items c.args.entry.0 c.args.entry.1 w in
    takes-same (ap part c.weight_of.ensures) (takes-append c.walk_joined.ensures c.walk_products.ensures)
