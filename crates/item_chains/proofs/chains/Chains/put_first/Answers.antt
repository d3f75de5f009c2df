use Rattle.std.proofs.Common.{arith, ◌≡◌, ◌∷◌, ◌++◌, [], ℕ, suc, length, length-set, sym, ap, ◌∙◌}
use Rattle.item_chains.specs.Chains.{from_first, shown, linked, all_linked}
use Rattle.item_chains.specs.declared.chains.Linked.{Linked}
use Rattle.item_chains.proofs.ChainLemmas.{shown-put, length-linked, firsts-put}
use Rattle.item_chains.proofs.chains.Chains.put_first.Goals as goal

pub invariant_of-self : goal.invariant_of-self
unfolding linked all_linked
invariant_of-self g c =
    let ls = c.self.inside.linked.items in
    let x : ℕ × g.row.T.Denot = (c.args.number, c.args.item) in
    let link : ℕ → Linked g.row.T.Denot = λ n. record { item = c.args.item; number = c.args.number; next = n } in
    let put : c.push.new.self.items ≡ ls ++ linked x (shown ls) ∷ [] =
    c.push.ensures.items ∙ ap (λ n. ls ++ link n ∷ []) (c.self.invariant.firsts c.args.number c.requires.number) in
    let is : shown c.push.new.self.items ≡ x ∷ shown ls = ap shown put ∙ shown-put ls (linked x (shown ls)) in
    let whole : c.push.new.self.items ≡ all_linked (x ∷ shown ls) = put ∙ ap (λ ks. ks ++ linked x (shown ls) ∷ []) c.self.invariant.links in
    let long : c.len.result ≡ suc (length (shown ls)) = c.len.ensures.value ∙ ap length whole ∙ length-linked (x ∷ shown ls) in
    record {
      links = whole ∙ ap all_linked (sym is);
      many = length-set c.self.inside.firsts c.args.number c.len.result ∙ c.self.invariant.many;
      firsts = λ n l. firsts-put c.self.inside.firsts (shown ls) x c.len.result c.self.invariant.many c.requires.number long c.self.invariant.firsts n l ∙ ap (from_first n) (sym is);
    }

pub returns-clause-put : goal.returns-clause-put
unfolding linked
returns-clause-put g c = λ t.
    let ls = c.self.inside.linked.items in
    let x : ℕ × g.row.T.Denot = (c.args.number, c.args.item) in
    let link : ℕ → Linked g.row.T.Denot = λ n. record { item = c.args.item; number = c.args.number; next = n } in
    let put : c.push.new.self.items ≡ ls ++ linked x (shown ls) ∷ [] =
    c.push.ensures.items ∙ ap (λ n. ls ++ link n ∷ []) (c.self.invariant.firsts c.args.number c.requires.number) in
    ap shown put ∙ shown-put ls (linked x (shown ls)) ∙ ap (λ xs. x ∷ xs) c.self.view_is
