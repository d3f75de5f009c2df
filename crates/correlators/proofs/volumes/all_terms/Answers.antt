use Rattle.std.proofs.Common.{◌≡◌, [], arith, refl, sym, ap, subst, ◌∙◌, ◌++◌}
use Rattle.correlators.proofs.Words.{euler, total, below, count_from, each, lists_of_sum, lists_up_to, AddsTerms, behind}
use Rattle.correlators.proofs.ListLemmas.{each-next, behind-nothing}
use Rattle.correlators.proofs.AddLemmas.{adds-none, adds-both}
use Rattle.correlators.proofs.volumes.all_terms.Goals as goal

pub overflow_mul-sum-end : goal.overflow_mul-sum-end
unfolding euler
overflow_mul-sum-end c = omega (arith, c.requires.asked.small)

pub overflow_add-sum-end : goal.overflow_add-sum-end
unfolding euler
overflow_add-sum-end c = omega (arith, c.requires.asked.small)

pub overflow_sub-sum-end : goal.overflow_sub-sum-end
unfolding euler
overflow_sub-sum-end c = omega (arith, c.requires.asked.stable)

pub loop-sum-init : goal.loop-sum-init
unfolding each below count_from
loop-sum-init c = record {
  prefix = c.new-prefix.ensures;
  added = subst (λ old. AddsTerms c.args.source.now.plan.now c.args.source.now.genus c.args.source.now.places c.args.source.now.coefficients.now [] old c.new-terms.result.items) c.new-terms.ensures.items
      (adds-none c.args.source.now.plan.now c.args.source.now.genus c.args.source.now.places c.args.source.now.coefficients.now [] c.new-terms.result.items refl);
}

none : total [] ≡ 0
unfolding total
none = refl

pub add_terms-requires-clause-sum : goal.add_terms-requires-clause-sum
add_terms-requires-clause-sum c = omega (arith, ap total c.loop-sum.invariant.prefix, none)

pub loop-sum-preserved : goal.loop-sum-preserved
loop-sum-preserved c = record {
  prefix = ap (λ v. v.items) c.in_ok-add_terms.ensures.prefix ∙ c.loop-sum.invariant.prefix;
  added = subst (λ ls. AddsTerms c.args.source.now.plan.now c.args.source.now.genus c.args.source.now.places c.args.source.now.coefficients.now ls [] c.add_terms.new.terms.items)
      (ap (λ l. each (below c.loop-sum.sum) (lists_of_sum c.args.source.now.places) ++ l) (ap (λ l. behind l (lists_of_sum c.args.source.now.places c.loop-sum.sum)) c.loop-sum.invariant.prefix ∙ behind-nothing (lists_of_sum c.args.source.now.places c.loop-sum.sum))
      ∙ sym (each-next (lists_of_sum c.args.source.now.places) c.loop-sum.sum))
      (adds-both c.args.source.now.plan.now c.args.source.now.genus c.args.source.now.places c.args.source.now.coefficients.now (each (below c.loop-sum.sum) (lists_of_sum c.args.source.now.places)) (behind c.loop-sum.prefix.items (lists_of_sum c.args.source.now.places c.loop-sum.sum))
      [] c.loop-sum.terms.items c.add_terms.new.terms.items c.loop-sum.invariant.added c.in_ok-add_terms.ensures.added);
}

pub returns : goal.returns
unfolding lists_up_to euler
returns c = subst (λ k. AddsTerms c.args.source.now.plan.now c.args.source.now.genus c.args.source.now.places c.args.source.now.coefficients.now (each (below k) (lists_of_sum c.args.source.now.places)) [] c.loop-sum.terms.items)
    (omega (arith, c.requires.asked.stable)) c.loop-sum.invariant.added
