use Rattle.std.proofs.Common.{arith, ◌+◌, drop, sym, ap, ◌∙◌, option_and_then}
use Rattle.correlators.proofs.Words.{at_drop_more, divided, divisors, over_indices}
use Rattle.correlators.proofs.divisions.over_each.Goals as goal

pub loop-d-preserved : goal.loop-d-preserved
unfolding over_indices divisors
loop-d-preserved c =
    ap (option_and_then (over_indices c.args.step (drop (c.loop-d.d-index + 1) c.args.idx.now))) (sym c.in_ok-quotient.was ∙ c.over_every.ensures ∙ ap (λ d. divided (divisors c.args.step d) c.loop-d.quotient) c.from.ensures)
    ∙ sym (at_drop_more (λ l. over_indices c.args.step l c.loop-d.quotient) c.args.idx.now c.loop-d.d-index 0 (omega arith)) ∙ c.loop-d.invariant
