-- For private functions and for proofs: no public contract rests on this file.
-- How far the entries of full tensors are put into others.
use Prim.Native.Nat.{ℕ, ◌<◌}
use mathlib.Core.Path.{◌≡◌}
use mathlib.Core.Bool.{false}
use mathlib.Core.List.{List}
use lib.Dec.{ltb, leb}
use lib.ListN.{get_or}
use Rattle.airy_math.specs.Rational.{ℚ}
use Rattle.airy_math.specs.RationalLaws.{0ℚ}
use Rattle.airy_math.specs.Sums.{when}
use Rattle.airy_math.specs.declared.Shape.TheVariants.{All}
use Rattle.sparse_tensor.specs.Entries.{Entry, Entries, value_at, value_of}
use Rattle.bulk_tensors.specs.Full.{Lists, place, entry}

-- the stored values are those of F at the places before p, and 0 elsewhere
unfoldable pub Filled : ℕ → ℕ → (ℕ → ℕ → ℕ → ℚ) → List Entry → Type 0
Filled dim p F es = (i j k : ℕ) → i < dim → j < dim → k < dim → value_at es i j k ≡ when (ltb (place i j k) p) (F i j k)

-- A and C stand with j at most k
unfoldable pub ordered : (ℕ → ℕ → ℕ → ℚ) → ℕ → ℕ → ℕ → ℚ
ordered F i j k = when (leb j k) (F i j k)

-- Of A the places before a are put, of B those before b, of C those before c, and of D the indices before d.
pub record AreFilled (a b c d : ℕ) (from : Lists) (t : Entries) : Type 0 where
  pub dim : t.dim ≡ from.dim
  pub shape : t.shape ≡ All
  pub letter : t.letter ≡ false
  pub of_a : Filled from.dim a (ordered (entry from.a)) t.a
  pub of_b : Filled from.dim b (entry from.b) t.b
  pub of_c : Filled from.dim c (ordered (entry from.c)) t.c
  pub of_d : (i : ℕ) → i < from.dim → value_of t.d i ≡ when (ltb i d) (get_or from.d i 0ℚ)
