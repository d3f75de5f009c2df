-- The numbers of Weil and Petersson step by step in 128 bits, and the first step that leaves the range.
use Prim.Native.Nat.{ℕ, ◌+◌, ◌*◌, ◌-◌}
use lib.IntN.{negsuc}
use Rattle.std.specs.Prelude.{Option}
use Rattle.airy_math.specs.Obtained.{obtained_product}
use Rattle.airy_math.specs.Rational.{◌/ℚ◌}
use Rattle.airy_math.specs.Curves.{numbers_down}
use Rattle.airy_math.specs.Families.{sine, wp_number}
use Rattle.airy_curve.specs.Steps.{entry_refusal, first_answer, next_number, or_else, unless_obtained}

-- k, where u_k = u_(k-1) (-2/(k(2k+1))), or c_k of the numbers before it, isn't obtained
unfoldable pub number_refusal : ℕ → Option ℕ
number_refusal k =
    or_else (unless_obtained k (obtained_product (sine (k - 1)) (negsuc 1 /ℚ (k * (2 * k + 1)))))
    (unless_obtained k (next_number sine (numbers_down sine (k - 1))))

-- The k that `wp_cut` names, None where all is obtained: the least k from 1 to most at which u_k or c_k isn't obtained; else
-- the e of the first entry of B whose product isn't obtained.
unfoldable pub wp_refusal : ℕ → ℕ → Option ℕ
wp_refusal dim most = or_else (first_answer 1 most number_refusal) (entry_refusal wp_number dim most)
