-- Small cases, each by computation: the words of the equations, and numbers that the literature has, of the solution of wk up to 3.
use mathlib.Core.Path.{◌≡◌, refl}
use mathlib.Core.List.{[], ◌∷◌}
use lib.IntN.{pos}
use Rattle.airy_math.specs.Rational.{◌/ℚ◌}
use Rattle.airy_math.specs.Sums.{sum_over}
use Rattle.airy_math.specs.Keys.{key_of}
use Rattle.airy_math.specs.Examples.{computes}
use Rattle.airy_math.specs.SolutionExamples.{at_place, wk_3_series}
use Rattle.intersection_law.specs.Numbers.{odd_factorial, odd_factorials, length_factorials, intersection_number, volume_coefficient}
use Rattle.intersection_law.specs.Equations.{lowered, correlator}

-- 1 3 15, and 1! 3! 5!
products : odd_factorials (0 ∷ 1 ∷ 2 ∷ []) ∷ length_factorials (0 ∷ 1 ∷ 2 ∷ []) ∷ [] ≡ 45 ∷ 720 ∷ []
unfolding computes odd_factorial odd_factorials length_factorials
products = refl

-- each place that isn't 0 has a list of its own
lowered_022 : lowered (0 ∷ 2 ∷ 2 ∷ []) ≡ (0 ∷ 1 ∷ 2 ∷ []) ∷ (0 ∷ 2 ∷ 1 ∷ []) ∷ []
unfolding lowered
lowered_022 = refl

-- <tau_0^3>_0 = 1, <tau_1>_1 = 1/24 and <tau_4>_2 = 1/1152
numbers : correlator 4 wk_3_series 0 (0 ∷ 0 ∷ 0 ∷ []) ∷ correlator 4 wk_3_series 1 (1 ∷ []) ∷ correlator 4 wk_3_series 2 (4 ∷ []) ∷ []
    ≡ (pos 1 /ℚ 1) ∷ (pos 1 /ℚ 24) ∷ (pos 1 /ℚ 1152) ∷ []
unfolding computes at_place wk_3_series odd_factorial odd_factorials intersection_number correlator
numbers = refl

-- in any order: <tau_1 tau_0 tau_2>_1 = 1/12
in_any_order : correlator 4 wk_3_series 1 (1 ∷ 0 ∷ 2 ∷ []) ≡ pos 1 /ℚ 12
unfolding computes at_place wk_3_series odd_factorial odd_factorials intersection_number correlator
in_any_order = refl

-- the string equation: it is the sum of <tau_0 tau_2>_1 and <tau_1 tau_1>_1, 1/24 each
string_012 : sum_over (lowered (1 ∷ 2 ∷ [])) (correlator 4 wk_3_series 1) ≡ pos 1 /ℚ 12
unfolding computes at_place wk_3_series odd_factorial odd_factorials intersection_number correlator lowered
string_012 = refl

-- L^2/48 in V(1,1), and L1^2 L2^2/96 in V(1,2)
volumes : volume_coefficient 5 wk_3_series (key_of 1 (1 ∷ [])) ∷ volume_coefficient 5 wk_3_series (key_of 1 (1 ∷ 1 ∷ [])) ∷ []
    ≡ (pos 1 /ℚ 48) ∷ (pos 1 /ℚ 96) ∷ []
unfolding computes at_place wk_3_series length_factorials volume_coefficient
volumes = refl
