-- For private functions and for proofs: no public contract rests on this file.
-- A total and the products that are added to it.
use mathlib.Core.List.{List, map}
use Rattle.std.specs.Prelude.{Option}
use Rattle.airy_math.specs.Obtained.{obtained_sum, both_obtained, obtained_from}
use Rattle.airy_math.specs.Rational.{ℚ}
use Rattle.airy_relations.specs.Sides.{Product, obtained_value}

-- the total with one more product
unfoldable pub added : Option ℚ → Product → Option ℚ
added s p = both_obtained obtained_sum s (obtained_value p)

-- the total with the products of a list, from left to right
unfoldable pub added_all : Option ℚ → List Product → Option ℚ
added_all s ps = obtained_from s (map obtained_value ps)
