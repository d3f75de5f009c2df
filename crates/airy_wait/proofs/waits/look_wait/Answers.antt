use Rattle.std.proofs.Common.{refl, ◌∙◌}
use Rattle.airy_wait.proofs.waits.look_wait.Goals as goal

pub loop-init : goal.loop-init
loop-init g c = (c.requires.seat, refl, λ r k. k)

pub loop-preserved : goal.loop-preserved
loop-preserved g c = (c.look.ensures.seat, c.look.ensures.standing ∙ c.loop.invariant.1, λ r k. c.look.ensures.keeps r (c.loop.invariant.2 r k))

pub returns-in-Filled-clause-outcome : goal.returns-in-Filled-clause-outcome
returns-in-Filled-clause-outcome g c = c.in-Filled.ensures.answer.outcome

pub returns-in-Filled-clause-knows : goal.returns-in-Filled-clause-knows
returns-in-Filled-clause-knows g c = c.in-Filled.ensures.answer.known
