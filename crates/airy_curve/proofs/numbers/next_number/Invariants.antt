use Rattle.std.proofs.Common.{◌≡◌}
use Rattle.std.specs.Prelude.{Some}
use Rattle.airy_math.specs.Obtained.{obtained_from}
use Rattle.airy_math.specs.RationalLaws.{0ℚ}
use Rattle.airy_curve.specs.Numbers.{downwards, held}
use Rattle.airy_curve.specs.Steps.{obtained_products}
use Rattle.airy_curve.proofs.StepLemmas.{rest}
use Rattle.airy_curve.proofs.numbers.next_number.Given as goal

abbrev pub invariant-loop-l : goal.invariant-loop-l
invariant-loop-l l = obtained_from (Some l.sum) (rest (held l.u) (held l.c) l.k l.l) ≡ obtained_from (Some 0ℚ) (obtained_products (held l.u) 1 (downwards (held l.c) l.k))
