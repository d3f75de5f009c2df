use Rattle.std.proofs.Common.{arith, ◌≡◌, ◌-◌, ◌∷◌, ◌++◌, length, get_or, sym, ap, ap₂, ◌∙◌}
use Rattle.item_chains.specs.Chains.{shown, linked, all_linked}
use Rattle.item_chains.proofs.ChainLemmas.{length-linked, linked-at}
use Rattle.item_chains.proofs.chains.Chains.at.Goals as goal

pub offset_bounds-deref-left : goal.offset_bounds-deref-left
offset_bounds-deref-left g c =
    omega (arith, c.requires.some, c.requires.within, ap length c.deref.ensures.0, ap length c.self.invariant.links, length-linked (shown c.self.inside.linked.items), ap length c.self.view_is)

pub bounds-deref-left : goal.bounds-deref-left
bounds-deref-left g c =
    omega (arith, c.requires.some, c.requires.within, ap length c.deref.ensures.0, ap length c.self.invariant.links, length-linked (shown c.self.inside.linked.items), ap length c.self.view_is)

pub returns : goal.returns
unfolding linked
returns g c = λ before after x e l.
    let r = c.index-deref-left.result in
    let all = c.deref.ensures.0 ∙ c.self.invariant.links ∙ ap all_linked (c.self.view_is ∙ sym e) in
    let at : c.args.left - 1 ≡ length after = omega (arith, l) in
    let is = c.index-deref-left.is ∙ ap₂ (λ ls n. get_or ls n r) all at ∙ linked-at before after x r in
    ap (λ k. (k.item, k.next)) is
