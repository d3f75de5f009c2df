-- The entries of a sequence of numbers, and tensors that are filled with them.
use Prim.Native.Nat.{ℕ, ◌+◌, ◌*◌, ◌-◌, ◌<◌, ◌≤◌}
use mathlib.Core.Path.{◌≡◌}
use mathlib.Core.Bool.{true, cond, ◌&&◌}
use mathlib.Core.Logic.{◌⊎◌}
use lib.Dec.{eqb, leb}
use Rattle.std.specs.Prelude.{Option, Some, None, Result, Ok, Err}
use Rattle.airy_math.specs.Rational.{ℚ, ◌+ℚ◌, ◌*ℚ◌, whole}
use Rattle.airy_math.specs.RationalLaws.{0ℚ}
use Rattle.airy_math.specs.Sums.{when}
use Rattle.airy_math.specs.Curves.{entry}
use Rattle.airy_math.specs.declared.Shape.{Shape}
use Rattle.sparse_tensor.specs.Entries.{Entries, looked_up}
use Rattle.sparse_tensor.specs.Grades.{keeps_b, keeps_c, keeps_d}
use Rattle.airy_curve.specs.declared.making.CurveErr.{CurveErr}
use Rattle.airy_curve.specs.Storing.{Names}

-- the entries of B and C that the sequence c has, with its exponents up to most
unfoldable pub entry_b : (ℕ → ℚ) → ℕ → ℕ → ℕ → ℕ → ℚ
entry_b c most i j k = whole (2 * j + 1) *ℚ entry c most (k + 1) (i + j)

unfoldable pub entry_c : (ℕ → ℚ) → ℕ → ℕ → ℕ → ℕ → ℚ
entry_c c most i j k = entry c most (j + k + 2) i

-- The shape has room for the exponent e: B^1_0e and C^2_0e, which have it, keep the grading.
pub record HasRoom (s : Shape) (e : ℕ) : Type 0 where
  pub b : keeps_b s 1 0 e ≡ true
  pub c' : keeps_c s 2 0 e ≡ true

-- It has room for each number of the sequence that isn't 0.
unfoldable pub Fits : Shape → (ℕ → ℚ) → ℕ → Type 0
Fits s c most = (e : ℕ) → e ≤ most → (c e ≡ 0ℚ) ⊎ HasRoom s e

-- It has room for the value in D.
unfoldable pub FitsD : Shape → ℕ → ℚ → Type 0
FitsD s i v = (v ≡ 0ℚ) ⊎ (keeps_d s i ≡ true)

-- a place of B and C, exponents that an array of 73 numbers has, and room for its numbers
pub record IsPlace (c : ℕ → ℚ) (most : ℕ) (t : Entries) (i j k : ℕ) : Type 0 where
  pub first : i < t.dim
  pub second : j < t.dim
  pub third : k < t.dim
  pub dim : t.dim ≤ 72
  pub most' : most ≤ 72
  pub fits : Fits t.shape c most

-- B and C are filled with the entries of the sequence, and nothing else is changed.
pub record IsFilled (c : ℕ → ℚ) (most : ℕ) (old new : Entries) : Type 0 where
  pub b : (i j k : ℕ) → i < old.dim → j < old.dim → k < old.dim → (looked_up new).B i j k ≡ entry_b c most i j k
  pub c' : (i j k : ℕ) → i < old.dim → j < old.dim → k < old.dim → (looked_up new).C i j k ≡ entry_c c most i j k
  pub others : new ≡ record old { b = new.b; c = new.c }

-- D is filled, with x at 0 and y at 1
unfoldable pub FillsD : ℚ → ℚ → Entries → Type 0
FillsD x y t = (i : ℕ) → i < t.dim → (looked_up t).D i ≡ when (eqb i 0) x +ℚ when (eqb i 1) y

-- m - n, where it is from 0 to most
unfoldable pub exponent_of : ℕ → ℕ → ℕ → Option ℕ
exponent_of m n most = cond (leb n m && leb (m - n) most) (Some (m - n)) None

-- Done, where no step leaves the range; an error names the first one that does.
unfoldable pub Tells : Result Unit CurveErr → Option ℕ → Type 0
Tells (Ok x) named = named ≡ None
Tells (Err e) named = Names e named
