use Rattle.std.proofs.Common.{Some, arith, sym, ap, refl, subst, ◌∙◌, option_map, inl, inr}
use Rattle.correlators.proofs.Words.{coefficient_of, AreCoefficients, TellsOver}
use Rattle.correlators.specs.declared.refusals.CorrErr.TheVariants.{Over}
use Rattle.correlators.proofs.PairLemmas.{lacking_start, lacking_here, lacking_next, lacking_end, coefficients-none, coefficients-more}
use Rattle.correlators.proofs.coefficients.coefficients.Goals as goal

pub loop-rank-init : goal.loop-rank-init
loop-rank-init c = record {
  are = coefficients-none c.args.plan.now c.args.table.now c.args.g c.args.n c.new-numbers.result.items c.new-numbers.ensures.items;
  lacking = lacking_start c.args.plan.now c.args.g c.args.n (coefficient_of c.args.plan.now c.args.table.now);
}

pub returns-in_default-clause-over : goal.returns-in_default-clause-over
unfolding TellsOver
returns-in_default-clause-over c =
    let lacks = lacking_here c.args.plan.now c.args.g c.args.n (coefficient_of c.args.plan.now c.args.table.now) c.loop-rank.rank (omega (arith, c.len-rank-end.ensures)) (sym c.own_coefficient.ensures ∙ c.in_default.is) in
    inl (ap (option_map (λ key. Over key)) (sym c.loop-rank.invariant.lacking ∙ lacks ∙ ap Some (sym c.key.ensures)))

pub returns-in_default-push-clause-over : goal.returns-in_default-push-clause-over
unfolding TellsOver
returns-in_default-push-clause-over c = inr refl

pub loop-rank-preserved : goal.loop-rank-preserved
loop-rank-preserved c = record {
  are = coefficients-more c.args.plan.now c.args.table.now c.args.g c.args.n c.loop-rank.rank c.loop-rank.numbers.items c.push.new.self.items c.in-Some.number c.loop-rank.invariant.are (sym c.own_coefficient.ensures ∙ c.in-Some.is) c.in-Ok.ensures.items;
  lacking = sym (lacking_next c.args.plan.now c.args.g c.args.n (coefficient_of c.args.plan.now c.args.table.now) c.loop-rank.rank c.in-Some.number (omega (arith, c.len-rank-end.ensures)) (sym c.own_coefficient.ensures ∙ c.in-Some.is)) ∙ c.loop-rank.invariant.lacking;
}

pub returns-clause-found : goal.returns-clause-found
returns-clause-found c = subst (λ k. AreCoefficients c.args.plan.now c.args.table.now c.args.g c.args.n k c.loop-rank.numbers.items) (omega (arith, c.len-rank-end.ensures)) c.loop-rank.invariant.are

pub returns-clause-all : goal.returns-clause-all
returns-clause-all c = sym c.loop-rank.invariant.lacking ∙ lacking_end c.args.plan.now c.args.g c.args.n (coefficient_of c.args.plan.now c.args.table.now) c.loop-rank.rank (omega (arith, c.len-rank-end.ensures))
