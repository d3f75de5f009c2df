use Rattle.std.proofs.Common.{length, ap, ◌∙◌}
use Rattle.item_chains.proofs.ChainLemmas.{length-linked}
use Rattle.item_chains.specs.Chains.{shown}
use Rattle.item_chains.proofs.chains.Chains.len.Goals as goal

pub returns : goal.returns
returns g c = c.len.ensures.value ∙ ap length c.self.invariant.links ∙ length-linked (shown c.self.inside.linked.items) ∙ ap length c.self.view_is
