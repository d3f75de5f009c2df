use Rattle.std.proofs.Common.{arith, refl, ℕ, ◌≡◌, ◌<◌, ◌&&◌, false, ◌⊎◌, inl, inr, leb}
use Rattle.amp_plan.specs.Limits.{Tells}
use Rattle.amp_plan.proofs.LimitLemmas.{limit-bound}
use Rattle.amp_plan.proofs.plan.Plan.make.Goals as goal

outside : (b : ℕ) → (b ≡ 0) ⊎ ((b ≡ 0 → ⊥) × (24 < b)) → (leb 1 b && leb b 24) ≡ false
outside b (inl e) = grind arith
outside b (inr h) = let above : 24 < b = h.1 in grind arith

pub returns-then-bound-eq0-clause-cause : goal.returns-then-bound-eq0-clause-cause
unfolding Tells
returns-then-bound-eq0-clause-cause c =
    (limit-bound (record { tensors = c.args.t; bound = c.args.bound }) (outside c.args.bound c.then-bound-eq0.either), refl)
