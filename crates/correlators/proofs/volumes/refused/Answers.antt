use Rattle.std.proofs.Common.{arith, sym, ap, ◌∙◌, true, ◌≡◌}
use Rattle.correlators.proofs.Words.{euler}
use Rattle.correlators.proofs.RefusalLemmas.{bound_small}
use Rattle.correlators.proofs.volumes.refused.Goals as goal

pub counted-counted-requires-clause-bound : goal.counted-counted-requires-clause-bound
unfolding euler
counted-counted-requires-clause-bound c = omega (arith, c.if-from.false, c.bound.ensures, bound_small c.args.plan.now c.limits_fact.ensures.within)

pub returns-clause-asked : goal.returns-clause-asked
unfolding euler
returns-clause-asked c = λ none.
    let letter : c.args.plan.now.tensors.letter ≡ true = ap (λ t. t.letter) (sym c.tensors.ensures) ∙ sym c.letter.ensures ∙ c.if-not-letter.false in
    record {
      letter = letter;
      shape = c.requires.law letter;
      stable = c.requires.stable;
      some = c.requires.some;
      most = c.requires.most;
      within = omega (arith, c.if-from.false, c.bound.ensures);
      small = omega (arith, c.if-from.false, c.bound.ensures, bound_small c.args.plan.now c.limits_fact.ensures.within);
      below = omega (arith, c.if-from-2.false, c.dim.ensures, ap (λ t. t.dim) c.tensors-2.ensures);
    }
