use Rattle.std.proofs.Common.{arith, [], sym, ap, subst, ◌∙◌, refl, rules}
use Rattle.amp_plan.proofs.Words.{Split, splits, Takes, choice_part, of_share, IsChosen, CanGoOn, genus_part}
use Rattle.index_lists.specs.SplitLists.{first_with}
use Rattle.amp_plan.proofs.WalkLemmas.{taken-none}
use Rattle.amp_plan.proofs.ChainWalkLemmas.{all_stand, meets, met-goes_on, met-walked, met-shorter, walked-all, walked-within}
use Rattle.amp_plan.proofs.share.walk_listed.Goals as goal

pub loop-left-init : goal.loop-left-init
loop-left-init g c = record {
  ahead = splits c.args.list.now.rest.list.items;
  is = c.first_met-left.ensures ∙ ap (first_with c.only_chain-chain.result) c.requires.listed;
  taken = taken-none refl;
}

pub met_at-next-requires : goal.met_at-next-requires
met_at-next-requires g c = (search rules, (c.loop-left-test.true, walked-within c.loop-left.invariant c.requires.listed))

pub walk_chosen-requires-clause-go_on : goal.walk_chosen-requires-clause-go_on
unfolding of_share genus_part
walk_chosen-requires-clause-go_on g c =
    let stand = all_stand c.args.ranking.now c.args.share.now c.args.list.now.rest.list.items c.requires.share c.requires.room c.requires.right in
    let met = meets c.requires.share stand c.only_chain-chain.ensures.only c.loop-left.invariant c.loop-left-test.true c.requires.listed c.met_at-next.ensures in
    subst (CanGoOn (g.V.TermVisitor.allows c.loop-left.visitor) c.args.ranking.now c.args.share.now []) (sym c.chosen.ensures) (met-goes_on met c.requires.allowed)

pub loop-left-preserved : goal.loop-left-preserved
loop-left-preserved g c =
    let stand = all_stand c.args.ranking.now c.args.share.now c.args.list.now.rest.list.items c.requires.share c.requires.room c.requires.right in
    let met = meets c.requires.share stand c.only_chain-chain.ensures.only c.loop-left.invariant c.loop-left-test.true c.requires.listed c.met_at-next.ensures in
    met-walked met (subst (λ x. (s : Split) → IsChosen c.args.ranking.now c.args.share.now [] x s → Takes g.V.TermVisitor.allows g.V.TermVisitor.state g.V.TermVisitor.step (choice_part c.args.ranking.now c.args.share.now s []) c.loop-left.visitor c.walk_chosen.new.visitor) c.chosen.ensures c.walk_chosen.ensures)

pub loop-left-smaller : goal.loop-left-smaller
loop-left-smaller g c =
    let stand = all_stand c.args.ranking.now c.args.share.now c.args.list.now.rest.list.items c.requires.share c.requires.room c.requires.right in
    let met = meets c.requires.share stand c.only_chain-chain.ensures.only c.loop-left.invariant c.loop-left-test.true c.requires.listed c.met_at-next.ensures in
    met-shorter met

pub returns : goal.returns
unfolding of_share genus_part
returns g c =
    let stand = all_stand c.args.ranking.now c.args.share.now c.args.list.now.rest.list.items c.requires.share c.requires.room c.requires.right in
    walked-all c.requires.share stand c.only_chain-chain.ensures.only c.loop-left.invariant (omega (arith, c.loop-left-test.false))
