-- Intersection numbers and the coefficients of volumes, read off a series.
use Prim.Native.Nat.{ℕ, zero, suc, ◌+◌, ◌*◌}
use mathlib.Core.List.{List, [], ◌∷◌}
use lib.IntN.{pos}
use Rattle.airy_math.specs.Rational.{ℚ, ◌*ℚ◌, ◌/ℚ◌}
use Rattle.airy_math.specs.Sums.{factorial}
use Rattle.airy_math.specs.Keys.{Key}
use Rattle.airy_math.specs.Series.{Series}
use Rattle.airy_math.specs.Solutions.{amplitude}

-- (2d + 1)!!, the product of the odd numbers up to 2d + 1
unfoldable pub odd_factorial : ℕ → ℕ
odd_factorial zero = 1
odd_factorial (suc d) = odd_factorial d * (2 * d + 3)

-- the product of the (2d + 1)!!
unfoldable pub odd_factorials : List ℕ → ℕ
odd_factorials [] = 1
odd_factorials (d ∷ ds) = odd_factorial d * odd_factorials ds

-- the product of the (2d + 1)!
unfoldable pub length_factorials : List ℕ → ℕ
length_factorials [] = 1
length_factorials (d ∷ ds) = factorial (2 * d + 1) * length_factorials ds

-- The intersection number <tau_d1 .. tau_dn>_g of a series of m variables: F(g,n)[d1 .. dn] over the product of the (2d + 1)!!. Of a
-- solution of bgw it is the Theta number.
unfoldable pub intersection_number : ℕ → Series → Key → ℚ
intersection_number m f key = amplitude m f key *ℚ (pos 1 /ℚ odd_factorials key.idx)

-- The coefficient of L1^(2 d1) .. Ln^(2 dn) in the volume V(g,n) of a series of m variables: F(g,n)[d1 .. dn] over the product of
-- the (2d + 1)!.
unfoldable pub volume_coefficient : ℕ → Series → Key → ℚ
volume_coefficient m f key = amplitude m f key *ℚ (pos 1 /ℚ length_factorials key.idx)
