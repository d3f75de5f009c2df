use Rattle.std.proofs.Common.{arith, ◌∙◌, sym, refl}
use Rattle.airy_relations.proofs.StepLemmas.{stepped}
use Rattle.airy_relations.proofs.SumLoop.{sum_D, begins_D, fails_D, goes_D, ends_D}
use Rattle.airy_relations.proofs.sides.sum_bd.Goals as goal

pub loop-a-init : goal.loop-a-init
loop-a-init c = begins_D _ _ _ _ _ c.row_of_b-row.ensures c.zero-total.ensures

pub returns-in_err-total : goal.returns-in_err-total
unfolding sum_D
returns-in_err-total c = c.from_residual.ensures ∙ sym (fails_D _ _ _ _ _ _ c.loop-a.invariant (omega arith) _ c.take_at.ensures.value _ (stepped _ _ _ _ _ _ c.add_product.ensures c.d.ensures refl) c.in_err-total.was)

pub loop-a-preserved : goal.loop-a-preserved
loop-a-preserved c = goes_D _ _ _ _ _ _ c.loop-a.invariant (omega arith) _ c.take_at.ensures.value _ (stepped _ _ _ _ _ _ c.add_product.ensures c.d.ensures refl) _ c.in_ok-total.total c.take_at.ensures.rest c.in_ok-total.was

pub returns : goal.returns
unfolding sum_D
returns c = sym (ends_D _ _ _ _ _ _ c.loop-a.invariant (omega arith))
