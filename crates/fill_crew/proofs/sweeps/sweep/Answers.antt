use Rattle.std.proofs.Common.{◌≡◌, ℕ, ◌<◌, true, arith, ap, ◌∙◌}
use Rattle.cell_words.proofs.Names.{Planning, tensors_of, keys_of, has, needs_at, AreNeeds, cells}
use Rattle.fill_crew.proofs.CrewLemmas.{swept_none, swept_more}
use Rattle.fill_crew.proofs.sweeps.sweep.Goals as goal

need_low : (p q : Planning) (r k : ℕ) → q ≡ p → AreNeeds (tensors_of q) q.bound → r < cells q → has k (needs_at p r) ≡ true → k < r
unfolding needs_at keys_of
need_low p q r k e n low h = n.lower r k low (ap (λ (o : Planning). has k (needs_at o r)) e ∙ h)

pub loop-rank-init : goal.loop-rank-init
loop-rank-init c = swept_none c.args.board.now c.args.seats.now c.requires

pub fill_alone-requires-clause-knows : goal.fill_alone-requires-clause-knows
fill_alone-requires-clause-knows c = λ d q h.
    c.loop-rank.invariant.knows 0 d q c.requires.seats.some (need_low c.args.board.now.base.plan c.plan-plan.result.now c.loop-rank.rank q c.plan-plan.ensures c.needs_fact.ensures (omega (arith, c.loop-rank-test.true, c.len-rank-end.ensures, c.loop-rank.auto.rank-end)) h)

pub loop-rank-preserved : goal.loop-rank-preserved
loop-rank-preserved c =
    let e = c.fill_alone.ensures in
    swept_more c.args.board.now c.loop-rank.rank c.args.seats.now c.loop-rank.seats c.fill_alone.new.seats c.loop-rank.invariant e.seats e.len e.after e.fills e.stays e.others
