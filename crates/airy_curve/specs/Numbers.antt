-- The numbers that an array holds.
use Prim.Native.Nat.{ℕ, zero, suc, ◌<◌, ◌≤◌}
use mathlib.Core.Path.{◌≡◌}
use mathlib.Core.List.{List, [], ◌∷◌}
use lib.ListN.{length, get_or}
use Rattle.airy_math.specs.Rational.{ℚ}
use Rattle.airy_math.specs.RationalLaws.{0ℚ, 1ℚ}

-- the numbers of an array as a sequence, which goes on with 0
unfoldable pub held : List ℚ → ℕ → ℚ
held array k = get_or array k 0ℚ

-- c_(k-1), .., c_0
unfoldable pub downwards : (ℕ → ℚ) → ℕ → List ℚ
downwards c zero = []
downwards c (suc k) = c k ∷ downwards c k

-- the first n places of the array hold the numbers of f
pub record Holds (f : ℕ → ℚ) (n : ℕ) (array : List ℚ) : Type 0 where
  pub places : length array ≡ 73
  pub at : (k : ℕ) → k < n → held array k ≡ f k

-- The array holds 1, the first n numbers of the list, and 0 behind them.
pub record Begins (list : List ℚ) (n : ℕ) (array : List ℚ) : Type 0 where
  pub places : length array ≡ 73
  pub first : held array 0 ≡ 1ℚ
  pub numbers : (k : ℕ) → k < n → held array (suc k) ≡ get_or list k 0ℚ
  pub others : (k : ℕ) → n ≤ k → held array (suc k) ≡ 0ℚ
