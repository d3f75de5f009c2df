-- Steps of curves at numbers.
use Prim.Native.Nat.{ℕ}
use mathlib.Core.Path.{◌≡◌, refl}
use mathlib.Core.List.{[], ◌∷◌}
use lib.IntN.{pos, negsuc}
use Rattle.std.specs.Prelude.{Some, None}
use Rattle.airy_math.specs.Rational.{◌/ℚ◌}
use Rattle.airy_math.specs.CutExamples.{curve_computes}
use Rattle.airy_curve.specs.Steps.{obtained_products, negative, next_number, unless_obtained, or_else, where_so}
use Rattle.airy_curve.specs.Steps.{first_answer, number_refusal, place_refusal, tensors_refusal, curve_refusal}
use Rattle.airy_math.specs.Curves.{of_list}

unfoldable pub steps_compute : ℕ → ℕ
unfolding obtained_products negative next_number unless_obtained or_else where_so first_answer number_refusal place_refusal
    tensors_refusal curve_refusal
steps_compute n = n

-- the list -2/3, 2/15 up to the Euler number 2
none_named : curve_refusal (of_list ((negsuc 1 /ℚ 3) ∷ (pos 2 /ℚ 15) ∷ [])) 3 2 ≡ None
unfolding curve_computes steps_compute
none_named = refl

-- of u_1 = 2^126 the square leaves the range
two_named : curve_refusal (of_list ((pos 85070591730234615865843651857942052864 /ℚ 1) ∷ [])) 3 2 ≡ Some 2
unfolding curve_computes steps_compute
two_named = refl
