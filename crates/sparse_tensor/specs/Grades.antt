-- Which entries keep the grading of a shape, and what every list of stored entries keeps.
use Prim.Native.Nat.{ℕ, ◌+◌, ◌<◌, ◌≤◌}
use mathlib.Core.Path.{◌≡◌}
use mathlib.Core.Bool.{Bool, true}
use mathlib.Core.List.{List}
use lib.Dec.{ltb}
use lib.IntN.{ℤ, pos, negsuc, ◌*ℤ◌, ◌-ℤ◌}
use lib.Signed.{le_z, ◌≤ℤ◌}
use Rattle.airy_math.specs.Rational.{ℚ}
use Rattle.airy_math.specs.RationalLaws.{0ℚ}
use Rattle.airy_math.specs.declared.Shape.{Shape}
use Rattle.airy_math.specs.Shapes.{eq_z, per_g, per_n}
use Rattle.airy_math.specs.declared.Shape.TheVariants.{All, Exact, AtMost}
use Rattle.airy_math.specs.Obtained.{IsInRange}
use Rattle.airy_math.specs.Tensors.{IsSymmetric, IsGraded}
use Rattle.airy_math.proofs.SumLemmas.{Each}
use Rattle.sparse_tensor.specs.Items.{Ascends}
use Rattle.sparse_tensor.specs.Entries.{Entries, Entry, looked_up, place_before}

-- x stands to y as the shape says
unfoldable pub keeps : Shape → ℤ → ℤ → Bool
keeps All x y = true
keeps (Exact l) x y = eq_z x y
keeps (AtMost l) x y = le_z x y

unfoldable pub keeps_a : Shape → ℕ → ℕ → ℕ → Bool
keeps_a s i j k = keeps s (pos (i + j + k)) (pos 3 *ℤ per_n s -ℤ per_g s)

unfoldable pub keeps_b : Shape → ℕ → ℕ → ℕ → Bool
keeps_b s i j k = keeps s (pos (i + j) -ℤ pos k) (per_n s)

unfoldable pub keeps_c : Shape → ℕ → ℕ → ℕ → Bool
keeps_c s i j k = keeps s (pos i -ℤ pos (j + k)) (per_g s -ℤ per_n s)

unfoldable pub keeps_d : Shape → ℕ → Bool
keeps_d s i = keeps s (pos i) (per_n s)

-- the law's two numbers lie from -99 to 99
unfoldable pub IsSmallLaw : Shape → Type 0
IsSmallLaw All = Unit
IsSmallLaw (Exact l) = (negsuc 98 ≤ℤ l.per_g) × (l.per_g ≤ℤ pos 99) × (negsuc 98 ≤ℤ l.per_n) × (l.per_n ≤ℤ pos 99)
IsSmallLaw (AtMost l) = (negsuc 98 ≤ℤ l.per_g) × (l.per_g ≤ℤ pos 99) × (negsuc 98 ≤ℤ l.per_n) × (l.per_n ≤ℤ pos 99)

-- a shape that leaves room for a letter
unfoldable pub IsAtMost : Shape → Type 0
IsAtMost All = ⊥
IsAtMost (Exact l) = ⊥
IsAtMost (AtMost l) = Unit

-- each entry's place is behind the one before it
unfoldable pub IsAscending : List Entry → Type 0
IsAscending = Ascends place_before

unfoldable pub IsAscendingByIndex : List (ℕ × ℚ) → Type 0
IsAscendingByIndex = Ascends (λ (x y : ℕ × ℚ). ltb x.0 y.0)

-- indices below dim, a value that isn't 0, and the grading kept
unfoldable pub AreStored : (ℕ → ℕ → ℕ → Bool) → ℕ → List Entry → Type 0
AreStored grade dim = Each (λ (e : Entry). (e.i < dim) × (e.j < dim) × (e.k < dim) × (e.v ≡ 0ℚ → ⊥) × (grade e.i e.j e.k ≡ true))

unfoldable pub AreStoredByIndex : (ℕ → Bool) → ℕ → List (ℕ × ℚ) → Type 0
AreStoredByIndex grade dim = Each (λ (e : ℕ × ℚ). (e.0 < dim) × (e.1 ≡ 0ℚ → ⊥) × (grade e.0 ≡ true))

-- both numbers of each value are in range
unfoldable pub AreInRange : List Entry → Type 0
AreInRange = Each (λ (e : Entry). IsInRange e.v)

unfoldable pub AreInRangeByIndex : List (ℕ × ℚ) → Type 0
AreInRangeByIndex = Each (λ (e : ℕ × ℚ). IsInRange e.1)

-- of A and C one place stands for two
unfoldable pub AreOrdered : List Entry → Type 0
AreOrdered = Each (λ (e : Entry). e.j ≤ e.k)

-- What the entries of a part keep: they are in order, without zeros, below dim, graded and in range.
pub record ArePlaced (grade : ℕ → ℕ → ℕ → Bool) (dim : ℕ) (es : List Entry) : Type 0 where
  pub ascend : IsAscending es
  pub stored : AreStored grade dim es
  pub in_range : AreInRange es

-- The same of entries by one index.
pub record AreIndexed (grade : ℕ → Bool) (dim : ℕ) (es : List (ℕ × ℚ)) : Type 0 where
  pub ascend : IsAscendingByIndex es
  pub stored : AreStoredByIndex grade dim es
  pub in_range : AreInRangeByIndex es

-- What all tensors keep: 1 to 72 indices, a small law, a letter only where there is room for it, and what each list of
-- entries keeps.
pub record AreEntries (t : Entries) : Type 0 where
  pub some : 0 < t.dim
  pub most : t.dim ≤ 72
  pub law : IsSmallLaw t.shape
  pub letter : t.letter ≡ true → IsAtMost t.shape
  pub a : ArePlaced (keeps_a t.shape) t.dim t.a
  pub b : ArePlaced (keeps_b t.shape) t.dim t.b
  pub c : ArePlaced (keeps_c t.shape) t.dim t.c
  pub d : AreIndexed (keeps_d t.shape) t.dim t.d
  pub a_ordered : AreOrdered t.a
  pub c_ordered : AreOrdered t.c

-- What the laws ask of tensors.
pub record AreSound (t : Entries) : Type 0 where
  pub entries : AreEntries t
  pub symmetric : IsSymmetric (looked_up t)
  pub graded : IsGraded (looked_up t)
