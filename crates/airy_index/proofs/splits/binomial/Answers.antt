use Rattle.std.proofs.Common.{arith, refl}
use Rattle.airy_math.specs.Sums.{binomial}
use Rattle.airy_index.proofs.BinomialLemmas.{binomial-next, binomial-row}
use Rattle.airy_index.proofs.splits.binomial.Goals as goal

pub loop-i-init : goal.loop-i-init
unfolding binomial
loop-i-init c = refl

pub overflow_mul-ways : goal.overflow_mul-ways
overflow_mul-ways c =
    let product = binomial-row c.args.n c.loop-i.i c.loop-i.ways c.from.result c.loop-i.invariant c.from.ensures c.requires.short in
    omega (arith, product)

pub loop-i-preserved : goal.loop-i-preserved
loop-i-preserved c = rw (c.loop-i.invariant, c.from.ensures, c.from-in-loop-i.ensures) (binomial-next c.args.n c.loop-i.i)
