use Rattle.std.proofs.Common.{rules, arith, refl, ap, ap₂, sym, subst, ◌∙◌, ◌≡◌, ◌≤◌, ◌++◌, ◌+◌, ◌∷◌, [], drop, length, Bool, ℕ, List, true, false, slice_index}
use Rattle.index_lists.proofs.Words.{false≢true, remove}
use Rattle.index_lists.proofs.ListWalkLemmas.{without_from, without-found, without-kept, without-end}
use Rattle.index_lists.proofs.rest.without.Goals as goal
use Rattle.index_lists.proofs.rest.without.Goals.{then-not-found+then-y-x, else-not-found, else-not-found-via-then-not-found+else-y-x, else-not-found-via-else-not-found}

pub loop-y-init : goal.loop-y-init
unfolding without_from
loop-y-init c = search rules

pub loop-y-preserved : goal.loop-y-preserved
loop-y-preserved c = elim c.if-not-found.branch [
  | then-not-found+then-y-x w ↦ record {
    parts =
        ap₂ (λ l b. l ++ without_from b c.args.x (drop (c.loop-y.y-index + 1) c.args.list.now)) (ap (λ l. l.items) w.left-is) w.found-is
        ∙ without-found c.loop-y.left.items c.args.list.now (remove c.args.x c.args.list.now) c.args.x c.loop-y.y-index c.loop-y-test.true w.if-y-x.true
        (subst (λ b. c.loop-y.left.items ++ without_from b c.args.x (drop c.loop-y.y-index c.args.list.now) ≡ remove c.args.x c.args.list.now) w.if-not-found.true c.loop-y.invariant.parts);
    short = let e = ap (λ l. length l.items) w.left-is in omega (arith, c.loop-y.invariant.short, e);
  }
  | else-not-found w ↦
      let other : c.loop-y.found ≡ false → slice_index c.args.list.now c.loop-y.y-index ≡ c.args.x → ⊥ = elim w.else-not-found.branch [
        | else-not-found-via-then-not-found+else-y-x w' ↦ λ f e. w'.if-y-x.false e
        | else-not-found-via-else-not-found w' ↦ λ f e. false≢true (sym f ∙ w'.if-not-found.false)
      ] in
      let items = ap (λ l. l.items) w.left-is ∙ w.push.ensures.items in
      record {
        parts =
            ap₂ (λ l b. l ++ without_from b c.args.x (drop (c.loop-y.y-index + 1) c.args.list.now)) items w.found-is
            ∙ without-kept c.loop-y.left.items c.args.list.now (remove c.args.x c.args.list.now) c.loop-y.found c.args.x c.loop-y.y-index c.loop-y-test.true other c.loop-y.invariant.parts;
        short = let e = ap (λ l. length l.items) w.left-is in omega (arith, c.loop-y.invariant.short, e, w.push.ensures.len);
      }
]

pub returns : goal.returns
returns c =
    sym (Rattle.std.proofs.Common.append-nil c.loop-y.left.items)
    ∙ ap (λ l. c.loop-y.left.items ++ l) (sym (without-end c.loop-y.found c.args.x c.args.list.now c.loop-y.y-index c.loop-y-test.false))
    ∙ c.loop-y.invariant.parts
