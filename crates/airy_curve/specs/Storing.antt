-- Tensors as they are stored, and what a refusal names.
use Prim.Native.Nat.{ℕ, ◌+◌, ◌*◌, ◌≤◌}
use mathlib.Core.Path.{◌≡◌}
use mathlib.Core.Bool.{Bool, false, ◌&&◌}
use mathlib.Core.List.{[]}
use lib.Dec.{eqb}
use Rattle.std.specs.Prelude.{Option, Some}
use Rattle.airy_math.specs.Rational.{ℚ}
use Rattle.airy_math.specs.RationalLaws.{1ℚ}
use Rattle.airy_math.specs.Sums.{when}
use Rattle.airy_math.specs.declared.Shape.{Shape}
use Rattle.airy_math.specs.Relations.{Close}
use Rattle.airy_math.specs.Tensors.{Tensors, SameEntries}
use Rattle.airy_relations.specs.NoDifference.{FindsNoDifference}
use Rattle.airy_relations.specs.Verdicts.{verdict}
use Rattle.sparse_tensor.specs.Entries.{Entries, looked_up}
use Rattle.airy_math.specs.Curves.{curve}
use Rattle.airy_curve.specs.declared.making.CurveErr.{CurveErr}
use Rattle.airy_curve.specs.declared.making.CurveErr.TheVariants.{Over, NoMemory}

-- The stored entries are those of T, as far as its indices go, without a letter.
pub record StandsFor (t : Entries) (T : Tensors) : Type 0 where
  pub entries : SameEntries (looked_up t) T
  pub letter : t.letter ≡ false

-- What a refusal says of the k to be named: that it is this one; want of memory says nothing.
unfoldable pub Names : CurveErr → Option ℕ → Type 0
Names (Over k) named = named ≡ Some k
Names NoMemory named = Unit

-- Tensors of the shape, with the entry of A alone, which is 1 at the indices 0, 0 and 0.
pub record IsBegun (dim : ℕ) (shape : Shape) (letter : Bool) (t : Entries) : Type 0 where
  pub dim_is : t.dim ≡ dim
  pub shape_is : t.shape ≡ shape
  pub letter_is : t.letter ≡ letter
  pub no_b : t.b ≡ []
  pub no_c : t.c ≡ []
  pub no_d : t.d ≡ []
  pub a_is : (i j k : ℕ) → (looked_up t).A i j k ≡ when (eqb i 0 && eqb j 0 && eqb k 0) 1ℚ

-- The five relations hold in all places below N, so a check of these places never finds that they differ.
pub record MeetsRelations (t : Entries) (N : ℕ) : Type 0 where
  pub closes : Close (looked_up t) N
  pub found : FindsNoDifference (verdict (looked_up t) N)

-- Stored entries of a curve: N places need 2N + 1 indices, and as many exponents.
abbrev pub CurveCloses : Type 0
CurveCloses = (t : Entries) (c : ℕ → ℚ) (dim most N : ℕ) → c 0 ≡ 1ℚ → SameEntries (looked_up t) (curve c dim most)
    → 2 * N + 1 ≤ t.dim → 2 * N + 1 ≤ most → MeetsRelations t N
