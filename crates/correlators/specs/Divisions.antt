-- The divisions of a Value.
use Prim.Native.Nat.{ℕ, ◌+◌, ◌*◌, ◌/◌}
use mathlib.Core.List.{List, [], ◌∷◌, map}
use lib.IntN.{pos}
use Rattle.std.specs.Prelude.{Option, Some, option_and_then}
use Rattle.airy_math.specs.Rational.{ℚ, ◌/ℚ◌}
use Rattle.airy_math.specs.Sums.{below}
use Rattle.airy_math.specs.Obtained.{obtained_product}

-- v over the numbers of the list, one after the other: each step is a product by 1/q, which may leave the range
unfoldable pub divided : List ℕ → ℚ → Option ℚ
divided [] v = Some v
divided (q ∷ qs) v = option_and_then (divided qs) (obtained_product v (pos 1 /ℚ q))

-- by a step of 2 the numbers 3, 5, .., 2d + 1, and by a step of 1 the numbers 2, 3, .., 2d + 1
unfoldable pub divisors : ℕ → ℕ → List ℕ
divisors step d = map (λ k. step * k + (step + 1)) (below (2 * d / step))

-- v over those of each index, index by index
unfoldable pub over_indices : ℕ → List ℕ → ℚ → Option ℚ
over_indices step [] v = Some v
over_indices step (d ∷ ds) v = option_and_then (over_indices step ds) (divided (divisors step d) v)

-- a Value over the (2d + 1)!!, and over the (2d + 1)!, of the indices of its key
unfoldable pub over_odd_factorials : List ℕ → ℚ → Option ℚ
over_odd_factorials idx v = over_indices 2 idx v

unfoldable pub over_factorials : List ℕ → ℚ → Option ℚ
over_factorials idx v = over_indices 1 idx v
