use Rattle.std.proofs.Common.{sym, ap, ◌∙◌, ℕ}
use lib.ListN.{length-replicate}
use Rattle.std.proofs.lemmas.List.{get_or-replicate}
use Rattle.item_chains.specs.Chains.{from_first, shown, all_linked}
use Rattle.item_chains.proofs.chains.Chains.new.Goals as goal

pub invariant_of-result : goal.invariant_of-result
unfolding from_first shown all_linked
invariant_of-result g c =
    let none = c.new.ensures in
    record {
      links = none ∙ sym (ap (λ ls. all_linked (shown ls)) none);
      many = length-replicate {A = ℕ} 64 0;
      firsts = λ n l. get_or-replicate 64 n 0 0 l ∙ sym (ap (λ ls. from_first n (shown ls)) none);
    }

pub returns : goal.returns
unfolding shown
returns g c = ap shown c.new.ensures
