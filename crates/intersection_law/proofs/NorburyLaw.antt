-- The equation of the Theta numbers.
use Prim.Native.Nat.{ℕ, ◌+◌, ◌*◌, ◌-◌, ◌<◌}
use mathlib.Core.Path.{◌≡◌, ap}
use native.Mathlib.Omega.{arith}
use lib.Dec.{eqb}
use lib.IntN.{pos, ◌+ℤ◌, ◌*ℤ◌, ◌-ℤ◌}
use lib.ListN.{length}
use Rattle.std.proofs.lemmas.Int.{ints}
use Rattle.airy_math.specs.Rational.{whole}
use Rattle.airy_math.specs.RationalLaws.{0ℚ, 1ℚ}
use Rattle.airy_math.specs.Sums.{when}
use Rattle.airy_math.specs.Keys.{euler, total}
use Rattle.airy_math.specs.Shapes.{law_number, Keeps, per_g, per_n}
use Rattle.airy_math.specs.Named.{bgw}
use Rattle.airy_math.specs.Cuts.{law_at}
use Rattle.airy_math.proofs.PivotLaw.{when-none}
use Rattle.airy_math.proofs.FamilyLaw.{bgw_graded, bgw_symmetric}
use Rattle.std.proofs.lemmas.Bool.{eqb-true}
use Rattle.intersection_law.specs.Numbers.{odd_factorial}
use Rattle.intersection_law.specs.Equations.{correlator, NorburyLaw}
use Rattle.intersection_law.proofs.PlaceLemmas.{below_from_up_to}
use Rattle.intersection_law.proofs.FirstIndex.{same_test, number_keeps}

pub norbury : NorburyLaw
unfolding bgw correlator Keeps law_at law_number per_g per_n odd_factorial euler
norbury X M f so g ds up some most =
    number_keeps (bgw M) X f (bgw_symmetric M) (bgw_graded M) so g ds (below_from_up_to M ds up) some most 0 (omega arith) no_c
    (λ a b. ap (λ t. when t (whole (2 * a + 1))) (same_test (0 + a) b b a (λ e. omega arith) (λ e. omega arith))) (euler g (length ds)) (covered (total ds) g (length ds) some)
  where
    no_c : (a b : ℕ) → when (eqb 0 (a + b + 1)) 1ℚ ≡ 0ℚ
    no_c a b = when-none _ 1ℚ (λ t. omega (arith, eqb-true 0 (a + b + 1) t))

    covered : (t g n : ℕ) → 0 < 2 * g + n - 2 → pos t ≡ pos 1 *ℤ (pos g -ℤ pos 1) +ℤ pos 0 *ℤ pos n → 2 * t + n ≡ 1 * (2 * g + n - 2)
    covered t g n p e = omega (arith, ints)
