use Rattle.std.proofs.Common.{arith, ◌≡◌, ap, sym, refl, subst, ◌∙◌, length, take, ◌++◌, ◌∷◌, [], ◌-◌, ◌+◌}
use Rattle.correlators.proofs.Words.{on_ok_weaker, length_push, total, euler, popped, AddsTerms, behind}
use Rattle.index_lists.proofs.ListingLemmas.{popped}
use Rattle.correlators.proofs.ListLemmas.{total-push, first_lists, behind-none, behind-all, behind-last}
use Rattle.correlators.proofs.AddLemmas.{adds-none, adds-next}
use Rattle.correlators.proofs.lists.+add_terms.Goals as goal

pub add_term-done-requires-clause-sum : goal.add_term-done-requires-clause-sum
add_term-done-requires-clause-sum t c = omega (arith, c.requires.sum, total-push c.args.prefix.now.items c.args.left, ap total (c.as_slice.ensures.value ∙ c.push.ensures.items))

pub returns-then-places-eq1-clause-added : goal.returns-then-places-eq1-clause-added
returns-then-places-eq1-clause-added t c =
    let e = c.as_slice.ensures.value ∙ c.push.ensures.items in
    on_ok_weaker c.add_term-done.result (subst (λ ls. AddsTerms c.args.source.now.plan.now c.args.source.now.genus c.args.source.now.places c.args.source.now.coefficients.now ls c.args.terms.now.items c.add_term-done.new.terms.items)
    (ap (λ l. l ∷ []) e ∙ sym (behind-last c.args.prefix.now.items c.args.places c.args.left c.if-places-eq1.true))) c.add_term-done.ensures

pub overflow_add-rest-end : goal.overflow_add-rest-end
unfolding euler
overflow_add-rest-end t c = omega (arith, c.requires.sum, c.requires.asked.small)

pub loop-rest-init : goal.loop-rest-init
loop-rest-init t c = record {
  prefix = refl;
  added = adds-none c.args.source.now.plan.now c.args.source.now.genus c.args.source.now.places c.args.source.now.coefficients.now (behind c.args.prefix.now.items (first_lists (c.args.places - 1) c.args.left 0)) c.args.terms.now.items (behind-none c.args.prefix.now.items (c.args.places - 1) c.args.left);
}

pub add_terms-done-requires : goal.add_terms-done-requires
add_terms-done-requires t c =
    let items : c.push-in-loop-rest.new.self.items ≡ c.args.prefix.now.items ++ (c.args.left - c.loop-rest.rest) ∷ [] = c.push-in-loop-rest.ensures.items ∙ ap (λ v. v.items ++ (c.args.left - c.loop-rest.rest) ∷ []) c.loop-rest.invariant.prefix in
    let n : length c.push-in-loop-rest.new.self.items ≡ length c.args.prefix.now.items + 1 = ap length items ∙ length_push c.args.prefix.now.items (c.args.left - c.loop-rest.rest) in
    let sum : total c.push-in-loop-rest.new.self.items ≡ total c.args.prefix.now.items + (c.args.left - c.loop-rest.rest) = ap total items ∙ total-push c.args.prefix.now.items (c.args.left - c.loop-rest.rest) in
    (omega arith, (c.requires.asked, (c.requires.len, (omega arith, (omega (arith, c.requires.places), omega (arith, c.requires.sum))))))

pub loop-rest-preserved : goal.loop-rest-preserved
loop-rest-preserved t c =
    let items : c.push-in-loop-rest.new.self.items ≡ c.args.prefix.now.items ++ (c.args.left - c.loop-rest.rest) ∷ [] = c.push-in-loop-rest.ensures.items ∙ ap (λ v. v.items ++ (c.args.left - c.loop-rest.rest) ∷ []) c.loop-rest.invariant.prefix in
    let front : c.pop-in-loop-rest.new.self.items ≡ c.args.prefix.now.items = popped c.args.prefix.now.items c.pop-in-loop-rest.new.self.items (c.args.left - c.loop-rest.rest) (c.pop-in-loop-rest.ensures.rest ∙ ap (λ l. take (length l - 1) l) (ap (λ v. v.items) c.add_terms-done.ensures.prefix ∙ items)) in
    record {
      prefix = λ i. record { items = front i };
      added = adds-next c.args.source.now.plan.now c.args.source.now.genus c.args.source.now.places c.args.source.now.coefficients.now c.args.prefix.now.items c.push-in-loop-rest.new.self.items (c.args.places - 1) c.args.left c.loop-rest.rest
          c.args.terms.now.items c.loop-rest.terms.items c.add_terms-done.new.terms.items items c.loop-rest.invariant.added c.in_ok-done.ensures.added;
    }

pub returns-clause-added : goal.returns-clause-added
returns-clause-added t c =
    let end : c.loop-rest.rest ≡ c.args.left + 1 = omega arith in
    subst (λ ls. AddsTerms c.args.source.now.plan.now c.args.source.now.genus c.args.source.now.places c.args.source.now.coefficients.now ls c.args.terms.now.items c.loop-rest.terms.items)
    (ap (λ k. behind c.args.prefix.now.items (first_lists (c.args.places - 1) c.args.left k)) end ∙ sym (behind-all c.args.prefix.now.items (c.args.places - 1) c.args.places c.args.left (omega (arith, c.requires.some)))) c.loop-rest.invariant.added
