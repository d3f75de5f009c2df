-- Some steps for the numbers of Weil and Petersson at numbers.
use mathlib.Core.Path.{◌≡◌, refl}
use lib.IntN.{pos}
use Rattle.std.specs.Prelude.{Some, None}
use Rattle.airy_math.specs.Rational.{◌/ℚ◌}
use Rattle.airy_math.specs.Curves.{numbers_down}
use Rattle.airy_math.specs.Families.{sine}
use Rattle.airy_math.specs.CutExamples.{curve_computes}
use Rattle.airy_curve.specs.StepExamples.{steps_compute}
use Rattle.airy_curve.specs.Steps.{next_number}
use Rattle.named_families.specs.Steps.{number_refusal, wp_refusal}

u_2 : sine 2 ≡ pos 2 /ℚ 15
unfolding curve_computes
u_2 = refl

c_3 : next_number sine (numbers_down sine 2) ≡ Some (pos 124 /ℚ 945)
unfolding curve_computes steps_compute
c_3 = refl

-- up to c_19 all is obtained, and the products with 20 indices too; c_20 isn't
none_named : wp_refusal 20 19 ≡ None
unfolding curve_computes steps_compute number_refusal wp_refusal
none_named = refl

twenty_named : wp_refusal 21 21 ≡ Some 20
unfolding curve_computes steps_compute number_refusal wp_refusal
twenty_named = refl
