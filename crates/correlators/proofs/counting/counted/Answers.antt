use Rattle.std.proofs.Common.{arith, ◌≡◌, ℕ, ◌^◌, ◌+◌, ◌-◌, ◌*◌, ◌≤◌, ◌<◌, refl, ap₂, ◌∙◌}
use Rattle.correlators.proofs.Words.{pow-le-pow_right, euler, binomial, counted, binomial-next, binomial-small}
use Rattle.std.proofs.Math.Nat.{mul-le-mul}
use Rattle.correlators.proofs.CountLemmas.{counted_lists}
use Rattle.correlators.proofs.counting.counted.Goals as goal

pub loop-i-init : goal.loop-i-init
unfolding binomial
loop-i-init c = refl

-- in a row up to the 49th the products fit
product_fits : (m k w d : ℕ) → w ≡ binomial m k → m ≤ 49 → d ≤ 49 → w * d < 2 ^ 64
product_fits m k w d e l f =
    let small : w ≤ 2 ^ m = rw e (binomial-small m k) in
    let row : 2 ^ m ≤ 2 ^ 49 = pow-le-pow_right (omega arith) l in
    let short : w ≤ 2 ^ 49 = omega (arith, small, row) in
    let product : w * d ≤ 2 ^ 49 * 49 = mul-le-mul short f in
    omega (arith, product)

pub overflow_mul-lists : goal.overflow_mul-lists
unfolding euler
overflow_mul-lists c =
    let m : ℕ = 3 * c.from.result + 2 * c.from-2.result - 3 in
    omega (arith, product_fits m c.loop-i.i c.loop-i.lists (m - c.from-in-loop-i.result) c.loop-i.invariant (omega (arith, c.requires.bound)) (omega (arith, c.requires.bound)))

pub loop-i-preserved : goal.loop-i-preserved
loop-i-preserved c = rw (c.loop-i.invariant, c.from-in-loop-i.ensures, c.from-in-loop-i-2.ensures) (binomial-next _ c.loop-i.i)

-- the binomial counts the lists
pub returns-clause-lists : goal.returns-clause-lists
unfolding counted
returns-clause-lists c =
    let i : c.loop-i.i ≡ c.args.n = omega arith in
    c.loop-i.invariant ∙ ap₂ binomial (ap₂ (λ g n. 3 * g + 2 * n - 3) c.from.ensures c.from-2.ensures) i ∙ counted_lists c.args.g c.args.n c.requires.stable c.requires.some
