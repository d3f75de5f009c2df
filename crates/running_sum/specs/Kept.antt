-- A fraction that need not be in lowest terms, or none.
use Rattle.std.specs.Prelude.{ℕ, ◌*◌, ◌<◌, ◌^◌, ℤ, unsigned_abs, Option, Some, None, nat_eq, cond}
use Rattle.airy_math.specs.Rational.{ℚ, ◌/ℚ◌}
use Rattle.running_sum.specs.declared.unreduced.Unreduced.TheInside.{Inside}

-- n over o 2^k, none where o is 0
unfoldable pub fraction_of : ℤ → ℕ → ℕ → Option ℚ
fraction_of n o k = cond (nat_eq o 0) None (Some (n /ℚ (o * 2 ^ k)))

-- both numbers in range
pub record AreSmall (num : ℤ) (odd twos : ℕ) : Type 0 where
  pub num_fits : unsigned_abs num < 2 ^ 127
  pub den_fits : odd * 2 ^ twos < 2 ^ 127
  pub twos_fit : twos < 127

abbrev pub AreFields : Inside → Type 0
AreFields a = AreSmall a.num a.odd a.twos

abbrev pub the_number : Inside → Option ℚ
the_number a = fraction_of a.num a.odd a.twos
