-- The text of a Value with a power of the letter p.
use Rattle.std.specs.Prelude.{ℕ, zero, suc, List, [], ◌++◌, codes, decimal}
use Rattle.airy_math.specs.Rational.{ℚ}
use Rattle.frac128.specs.Fraction.{fraction_text}

-- nothing, ` p`, or ` p^e`
unfoldable pub power_text : ℕ → List ℕ
power_text zero = []
power_text (suc zero) = codes " p"
power_text (suc (suc e)) = codes " p^" ++ decimal (suc (suc e))

unfoldable pub value_text : ℚ → ℕ → List ℕ
value_text v e = fraction_text v ++ power_text e
