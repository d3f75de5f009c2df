-- The order of a plan is a strict order, and total.
use Rattle.airy_math.specs.Keys.{before}
use Rattle.airy_math.proofs.BeforeLemmas.{before-self, before-trans, before-total}
use Rattle.airy_index.specs.Order.{IsStrictOrder}

pub before_is_order : IsStrictOrder before
before_is_order = record { irreflexive = before-self; transitive = before-trans; total = before-total }
