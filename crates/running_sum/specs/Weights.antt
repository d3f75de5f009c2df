-- A number that is kept as it is multiplied.
use Rattle.std.specs.Prelude.{Option, Some, None}
use Rattle.airy_math.specs.Rational.{ℚ}
use Rattle.running_sum.specs.declared.weight.Kept.{Kept}
use Rattle.running_sum.specs.declared.weight.Kept.TheVariants.{Nothing, Short, Long}

unfoldable pub number_kept : Kept → Option ℚ
number_kept Nothing = None
number_kept (Short w) = Some w
number_kept (Long v) = Some v
