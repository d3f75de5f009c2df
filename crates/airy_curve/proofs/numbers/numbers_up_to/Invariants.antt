use Rattle.std.proofs.Common.{◌≡◌, ◌<◌, ◌≤◌, ℕ}
use Rattle.std.specs.Prelude.{None}
use Rattle.airy_math.specs.Curves.{number_of}
use Rattle.airy_curve.specs.Numbers.{held, Holds}
use Rattle.airy_curve.specs.Steps.{number_refusal}
use Rattle.airy_curve.proofs.numbers.numbers_up_to.Given as goal

abbrev pub invariant-loop-k : goal.invariant-loop-k
invariant-loop-k l = Holds (number_of (held l.u)) l.k l.c × ((m : ℕ) → 1 ≤ m → m < l.k → number_refusal (held l.u) m ≡ None)
