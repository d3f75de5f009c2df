use Rattle.std.proofs.Common.{rules, arith, ◌≡◌, ◌++◌, ◌∷◌, pos, sym, ap, ap₂, ◌∙◌, append_assoc, true}
use Rattle.index_lists.proofs.Words.{Listed, chain, all_without, part_without, last_of}
use Rattle.index_lists.proofs.SplitListLemmas.{last-none, before_last}
use Rattle.index_lists.proofs.split_list.list_without.Goals as goal

pub loop-done-init : goal.loop-done-init
unfolding all_without
loop-done-init g c = (omega arith, sym (ap (λ b. all_without c.args.fewer.now b ++ c.args.listed.now) (last-none c.args.listed.now)))

pub loop-done-preserved : goal.loop-done-preserved
unfolding all_without
loop-done-preserved g c =
    let f = c.args.fewer.now in
    let xs = c.args.listed.now in
    let n = c.loop-done.done in
    let b = before_last n xs (0, record { code = 0; ways = 0; excess = pos 0; places = 0 }) (omega (arith, c.loop-done-test.true, c.requires.count)) in
    let new = all_without f (last_of n xs) in
    let stands : (new ++ b.front) ++ b.item ∷ last_of n xs ≡ c.loop-done.listed = append_assoc new b.front (b.item ∷ last_of n xs) ∙ ap (λ ys. new ++ ys) (sym b.all) ∙ sym c.loop-done.invariant.1 in
    let item = ap (λ p. p.0) (c.at.ensures (new ++ b.front) (last_of n xs) b.item stands (omega (arith, b.count))) in
    let split : c.in-Some.split ≡ part_without f b.item.1 = c.in-Some.ensures ∙ ap (part_without f) item in
    let number : c.chain_of.result ≡ chain c.in-Some.split.excess = search rules in
    let put : c.put_first.result ≡ true = search rules in (
      omega (arith, c.loop-done-test.true),
      c.put_first.ensures.put put
          ∙ ap₂ (λ x ys. x ∷ ys) (ap (λ n. (n, c.in-Some.split)) number ∙ ap (λ (l : Listed). (chain l.excess, l)) split) c.loop-done.invariant.1
          ∙ sym (ap (λ ys. all_without f ys ++ xs) b.more),
    )
