use Rattle.amp_plan.specs.Limits.{Limit, Within, PassesBound, PassesCells, PassesNeeds, past, Tells}
use Rattle.ask_seats.proofs.Names.{◌≡◌, ℕ, ◌<◌, ◌≤◌, Bool, true, false, arith, refl, sym, ap, ap₂, ◌∙◌, subst, le-leb, cond, ◌&&◌, Option, Some, None, leb, List, Key, Tensors, limit, limit_of, Planning, tensors_of, growth, bound_after, growth_reply, up_to}
use Rattle.ask_seats.proofs.growth.grow.Goals as goal

not_past : (keys : List Key) (o : Option ℕ) → past keys o ≡ PassesBound → ⊥
unfolding past
not_past keys None e = cc
not_past keys (Some r) e = cc

-- a bound from 1 to 24 is a plan's
in_bounds : (T : Tensors) (X : ℕ) → 1 ≤ X → X ≤ 24 → limit T X ≡ PassesBound → ⊥
unfolding limit
in_bounds T X low high e = by (leb 1 X && leb X 24) _ _ _ _ (ap₂ ◌&&◌ (le-leb 1 X low) (le-leb X 24 high)) e
  where
    by : (b c : Bool) (o : Option ℕ) (keys : List Key) (l : ℕ) → b ≡ true → cond b (cond c (past keys o) (PassesCells l)) PassesBound ≡ PassesBound → ⊥
    by true true o keys l h f = not_past keys o f
    by true false o keys l h f = cc
    by false c o keys l h f = cc

pub returns-in-Ok : goal.returns-in-Ok
unfolding limit_of tensors_of bound_after growth growth_reply
returns-in-Ok c = record {
  plan = c.in-Ok.ensures.plan ∙ ap (λ l. up_to (bound_after l c.args.plan.bound c.args.bound) c.args.plan) (sym c.in-Ok.ensures.within);
  reply = ap (λ l. growth l c.args.bound) (sym c.in-Ok.ensures.within);
}

pub unreachable-requires : goal.unreachable-requires
unfolding limit_of tensors_of Tells
unreachable-requires c =
    let q = up_to c.args.bound c.args.plan in
    let told = subst (Tells q) c.in-Bound.is c.in-Err.ensures.cause in
    in_bounds (tensors_of c.args.plan) c.args.bound (omega (arith, c.requires.above)) c.requires.most told.0

-- a limit that is passed keeps the plan, and has its reply
kept : (p back : Planning) (X : ℕ) (l : Limit) → back ≡ p → limit (tensors_of p) X ≡ l → bound_after l p.bound X ≡ p.bound → back ≡ up_to (bound_after (limit (tensors_of p) X) p.bound X) p
kept p back X l same is stays = same ∙ ap (λ k. up_to k p) (sym (ap (λ k. bound_after k p.bound X) is ∙ stays))

pub returns-in-Cells : goal.returns-in-Cells
unfolding limit_of tensors_of Tells bound_after growth growth_reply
returns-in-Cells c =
    let told = subst (Tells (up_to c.args.bound c.args.plan)) c.in-Cells.is c.in-Err.ensures.cause in
    record { plan = kept c.args.plan _ c.args.bound _ c.in-Err.ensures.back told refl; reply = ap (λ l. growth l c.args.bound) (sym told) }

pub returns-in-Edges : goal.returns-in-Edges
unfolding limit_of tensors_of Tells bound_after growth growth_reply
returns-in-Edges c =
    let told = subst (Tells (up_to c.args.bound c.args.plan)) c.in-Edges.is c.in-Err.ensures.cause in
    record { plan = kept c.args.plan _ c.args.bound _ c.in-Err.ensures.back told refl; reply = ap (λ l. growth l c.args.bound) (sym told) }
