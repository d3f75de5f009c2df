use Rattle.std.proofs.Common.{◌≡◌, ◌∷◌, ◌∙◌, ap, sym, subst, rules, None, IfSome}
use Rattle.airymore.proofs.Words.{looked_up, first_over, from, from_any, IsPlace}
use Rattle.airymore.proofs.BracketLemmas.{from_none, from_some, is_missing, is_there, over_end, over_here, over_later, shorter}
use Rattle.airymore.proofs.PlaceLemmas.{head_of}
use Rattle.airymore.proofs.brackets.find_over.Goals as goal

pub returns-then-is_none : goal.returns-then-is_none
returns-then-is_none c =
    let T = looked_up c.args.tensors.now in
    let m = c.args.tensors.now.dim in
    let p = c.in-Some.place in
    let is : IsPlace m p = subst (λ o. IfSome o (IsPlace m)) c.in-Some.is c.loop-at.invariant.place in
    let head = head_of m p is.2 in
    sym (over_here T p head.0 (sym c.bracket.ensures.sum ∙ is_missing c.bracket.result c.is_none.result c.is_none.ensures c.if-is_none.true))
    ∙ ap (first_over T) (sym head.1 ∙ sym (from_some m c.loop-at.at p c.in-Some.is)) ∙ c.loop-at.invariant.rest

pub loop-at-smaller : goal.loop-at-smaller
loop-at-smaller c =
    let next = c.next_place-at.result in
    shorter c.args.tensors.now.dim c.loop-at.at next c.in-Some.place c.in-Some.is
    (subst (λ d. from d c.in-Some.place ≡ c.in-Some.place ∷ from_any d next) c.dim-in-Some.ensures c.next_place-at.ensures.behind)

pub loop-at-preserved : goal.loop-at-preserved
loop-at-preserved c =
    let T = looked_up c.args.tensors.now in
    let m = c.args.tensors.now.dim in
    let p = c.in-Some.place in
    let next = c.next_place-at.result in
    let behind = subst (λ d. from d p ≡ p ∷ from_any d next) c.dim-in-Some.ensures c.next_place-at.ensures.behind in
    let there = is_there c.bracket.result c.is_none.result c.is_none.ensures c.if-is_none.false in record {
      place = subst (λ d. IfSome next (IsPlace d)) c.dim-in-Some.ensures c.next_place-at.ensures.place;
      rest =
          sym (over_later T p (from_any m next) there.0 (sym c.bracket.ensures.sum ∙ there.1))
          ∙ ap (first_over T) (sym behind ∙ sym (from_some m c.loop-at.at p c.in-Some.is)) ∙ c.loop-at.invariant.rest;
    }

pub returns : goal.returns
returns c =
    let T = looked_up c.args.tensors.now in
    let none : c.loop-at.at ≡ None = search rules in
    sym (over_end T) ∙ ap (first_over T) (sym (from_none c.args.tensors.now.dim c.loop-at.at none)) ∙ c.loop-at.invariant.rest
