use Rattle.std.proofs.Common.{rules, sym, ap, subst, ◌∙◌, ◌≡◌, pos}
use Rattle.amp_plan.proofs.Words.{Split, splits, Takes, no_split, choice_part, of_share, IsChosen, CanGoOn, all_listed, Chosen, Share}
use Rattle.airy_math.specs.Splits.{runs}
use Rattle.index_lists.specs.Measures.{gain, loss}
use Rattle.amp_plan.proofs.ChoiceLemmas.{choices-all}
use Rattle.amp_plan.proofs.ReachLemmas.{passed_over}
use Rattle.amp_plan.proofs.StartLemmas.{chosen_first, begun}
use Rattle.amp_plan.proofs.WalkLemmas.{takes-none, takes-same, allowed-same}
use Rattle.amp_plan.proofs.share.walk_share.Goals as goal

pub walk_reachable-requires-clause-go_on : goal.walk_reachable-requires-clause-go_on
unfolding of_share
walk_reachable-requires-clause-go_on g c =
    let o = c.of-share.ensures in
    let q = begun o.share o.genus o.k o.pair c.requires.room o.right in
    let nothing : Chosen = record { part = record { places = 0; excess = pos 0; code = 0 }; ways = 1; gain = c.args.list.now.rest.gain; loss = c.args.list.now.rest.loss } in
    let law = sym o.share.law in
    let first = chosen_first o.share q.room q.right (c.requires.rest.gain ∙ ap (λ z. gain z c.args.list.now.rest.list.items) law) (c.requires.rest.loss ∙ ap (λ z. loss z c.args.list.now.rest.list.items) law) in
    let runs : c.as_slice-runs.result.now ≡ runs c.args.list.now.rest.list.items = c.as_slice-runs.ensures.value ∙ c.requires.rest.runs in
    let same = ap (choice_part c.args.ranking.now c.of-share.result no_split) runs ∙ choices-all c.args.ranking.now c.of-share.result c.args.list.now.rest.list.items ∙ q.all in
    let chosen = subst (λ l. IsChosen c.args.ranking.now c.of-share.result l nothing no_split) (sym runs) first in
    let go : CanGoOn (g.V.TermVisitor.allows c.args.visitor.now) c.args.ranking.now c.of-share.result c.as_slice-runs.result.now nothing = record { split = no_split; chosen = chosen; allowed = allowed-same _ same c.requires.allowed } in
    subst (λ z. CanGoOn (g.V.TermVisitor.allows c.args.visitor.now) c.args.ranking.now z c.as_slice-runs.result.now nothing) (sym c.moved.ensures) go

pub returns-then-not-can_reach : goal.returns-then-not-can_reach
unfolding of_share
returns-then-not-can_reach g c =
    let o = c.of-share.ensures in
    let q = begun o.share o.genus o.k o.pair c.requires.room o.right in
    let law = sym o.share.law in
    let first = chosen_first o.share q.room q.right (c.requires.rest.gain ∙ ap (λ z. gain z c.args.list.now.rest.list.items) law) (c.requires.rest.loss ∙ ap (λ z. loss z c.args.list.now.rest.list.items) law) in
    takes-same (sym (passed_over o.share first (sym c.can_reach.ensures ∙ c.if-not-can_reach.true)) ∙ choices-all c.args.ranking.now c.of-share.result c.args.list.now.rest.list.items ∙ q.all) takes-none

pub returns : goal.returns
unfolding of_share
returns g c =
    let o = c.of-share.ensures in
    let q = begun o.share o.genus o.k o.pair c.requires.room o.right in
    let nothing : Chosen = record { part = record { places = 0; excess = pos 0; code = 0 }; ways = 1; gain = c.args.list.now.rest.gain; loss = c.args.list.now.rest.loss } in
    let law = sym o.share.law in
    let first = chosen_first o.share q.room q.right (c.requires.rest.gain ∙ ap (λ z. gain z c.args.list.now.rest.list.items) law) (c.requires.rest.loss ∙ ap (λ z. loss z c.args.list.now.rest.list.items) law) in
    let runs : c.as_slice-runs.result.now ≡ runs c.args.list.now.rest.list.items = c.as_slice-runs.ensures.value ∙ c.requires.rest.runs in
    let same = ap (choice_part c.args.ranking.now c.of-share.result no_split) runs ∙ choices-all c.args.ranking.now c.of-share.result c.args.list.now.rest.list.items ∙ q.all in
    let chosen = subst (λ l. IsChosen c.args.ranking.now c.of-share.result l nothing no_split) (sym runs) first in
    let left = c.as_slice-runs.result.now in
    let taken = subst (λ (z : Share). (s : Split) → IsChosen c.args.ranking.now z left nothing s → Takes g.V.TermVisitor.allows g.V.TermVisitor.state g.V.TermVisitor.step (choice_part c.args.ranking.now z s left) c.args.visitor.now c.walk_reachable.new.visitor) c.moved.ensures c.walk_reachable.ensures in
    takes-same same (taken no_split chosen)

pub walk_listed-requires : goal.walk_listed-requires
walk_listed-requires g c =
    let o = c.of-share.ensures in
    let q = begun o.share o.genus o.k o.pair c.requires.room o.right in
    let listed = c.requires.listed (search rules) ∙ ap (λ z. all_listed z (splits c.args.list.now.rest.list.items)) (sym o.share.law) in
    (search rules, (c.requires.keys, (c.requires.exact, (o.share, (q.room, (q.right, (listed, allowed-same _ q.all c.requires.allowed)))))))

pub returns-then-list : goal.returns-then-list
returns-then-list g c =
    let o = c.of-share.ensures in
    let q = begun o.share o.genus o.k o.pair c.requires.room o.right in
    takes-same q.all c.walk_listed.ensures
