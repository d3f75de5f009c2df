use Rattle.std.proofs.Common.{◌≡◌, ◌<◌, ◌≤◌, ℕ}
use Rattle.std.specs.Prelude.{None}
use Rattle.airy_math.specs.Families.{sine, wp_number}
use Rattle.airy_curve.specs.Numbers.{Holds}
use Rattle.named_families.specs.Steps.{number_refusal}
use Rattle.named_families.proofs.numbers.numbers_up_to.Given as goal

abbrev pub invariant-loop-k : goal.invariant-loop-k
invariant-loop-k l = (Holds sine l.k l.u) × (Holds wp_number l.k l.c) × ((m : ℕ) → 1 ≤ m → m < l.k → number_refusal m ≡ None)
