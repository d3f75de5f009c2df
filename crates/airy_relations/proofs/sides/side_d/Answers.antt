use Rattle.std.proofs.Common.{arith, ◌∙◌, sym}
use Rattle.sparse_tensor.specs.Entries.{looked_up}
use Rattle.airy_relations.specs.Sides.{of_pair}
use Rattle.airy_relations.proofs.StepLemmas.{all_none}
use Rattle.airy_relations.proofs.SumLoop.{sum_D, pairs_begin, pairs_none, pair_step, pairs_end}
use Rattle.airy_relations.proofs.sides.side_d.Goals as goal

pub returns-in_err-total : goal.returns-in_err-total
unfolding sum_D
returns-in_err-total c = c.from_residual.ensures ∙ sym (pairs_none (looked_up c.args.t.now) c.args.i c.args.j (sym c.sum_bd.ensures ∙ c.in_err-total.was))

pub loop-entry-init : goal.loop-entry-init
unfolding sum_D
loop-entry-init c = pairs_begin (looked_up c.args.t.now) c.args.i c.args.j _ _ (sym c.sum_bd.ensures ∙ c.in_ok-total.was) c.row_c-row.ensures

pub returns-in_err-total-2 : goal.returns-in_err-total-2
returns-in_err-total-2 c =
    c.from_residual-in_err-total-2.ensures ∙ sym (sym c.loop-entry.invariant ∙ pair_step (of_pair (looked_up c.args.t.now) c.args.j) _ _ _ c.row_c-row.result.now _ (omega arith) c.entry-item.is (sym c.in_err-total-2.was ∙ c.add_pair.ensures) ∙ all_none _)

pub loop-entry-preserved : goal.loop-entry-preserved
loop-entry-preserved c = sym (pair_step (of_pair (looked_up c.args.t.now) c.args.j) _ _ _ c.row_c-row.result.now _ (omega arith) c.entry-item.is (sym c.in_ok-total-2.was ∙ c.add_pair.ensures)) ∙ c.loop-entry.invariant

pub returns : goal.returns
returns c = sym (pairs_end (of_pair (looked_up c.args.t.now) c.args.j) _ c.loop-entry.total c.row_c-row.result.now (omega arith)) ∙ c.loop-entry.invariant
