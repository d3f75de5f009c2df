use Rattle.std.proofs.Common.{arith, sym, subst, ℕ, ◌<◌}
use Rattle.std.specs.Int.{IsGcd}
use Rattle.std.proofs.lemmas.Nat.Gcd.{IsGcd-from_zero, IsGcd-from_mod}
use Rattle.frac128.proofs.GcdLemmas.{gcd-from_IsGcd, gcd-positive}
use Rattle.frac128.proofs.divisors.gcd_u128.Goals as goal
use Rattle.airy_math.specs.Gcd.{IsGcd-gcd}

pub loop-y-preserved : goal.loop-y-preserved
loop-y-preserved c g h = c.loop-y.invariant g (IsGcd-from_mod _ _ g h)

pub returns-clause-value : goal.returns-clause-value
returns-clause-value c = sym (gcd-from_IsGcd _ _ _ (c.loop-y.invariant _ (IsGcd-from_zero _ _ (omega arith))))

pub returns-clause-positive : goal.returns-clause-positive
returns-clause-positive c some = subst (λ (g : ℕ). 0 < g) (gcd-from_IsGcd _ _ _ (c.loop-y.invariant _ (IsGcd-from_zero _ _ (omega arith)))) (gcd-positive c.args.a c.args.b some)

pub returns-then-y-eq0-clause-value : goal.returns-then-y-eq0-clause-value
returns-then-y-eq0-clause-value c = sym (gcd-from_IsGcd _ _ _ (c.loop-y.invariant _ (subst (λ (g : ℕ). IsGcd c.loop-y.x c.loop-y.y g) (sym c.gcd_u64.ensures.value) (IsGcd-gcd c.loop-y.x c.loop-y.y))))

pub returns-then-y-eq0-clause-positive : goal.returns-then-y-eq0-clause-positive
returns-then-y-eq0-clause-positive c some = c.gcd_u64.ensures.positive (omega arith)
