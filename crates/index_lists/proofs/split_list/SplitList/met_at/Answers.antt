use Rattle.std.proofs.Common.{arith, ap, ap₂, sym, ◌≡◌, ◌-◌, ◌∙◌, length}
use Rattle.index_lists.proofs.Words.{from_first}
use Rattle.index_lists.specs.SplitLists.{first_with, is_passed}
use Rattle.index_lists.proofs.split_list.SplitList.met_at.Goals as goal

pub returns-in-Some : goal.returns-in-Some
unfolding first_with is_passed
returns-in-Some g c = λ before after x parts here met.
    let m = rw c.in-Some.is at met in
    let same : x.0 ≡ c.in-Some.field-0 = grind (arith, m) in
    c.at-next.ensures before after x parts here ∙ ap (λ m. (x.1, m)) (ap (λ n. from_first n after) same ∙ ap (λ k. first_with k after) (sym c.in-Some.is))

pub returns-in-None : goal.returns-in-None
unfolding first_with
returns-in-None g c = λ before after x parts here met.
    let e : c.args.left - 1 ≡ length after = omega arith in
    ap₂ (λ l m. (l, m)) (ap (λ q. q.0) (c.at-next.ensures before after x parts here)) (e ∙ ap (λ k. first_with k after) (sym c.in-None.is))
