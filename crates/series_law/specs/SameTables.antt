-- Tensors with the same entries below dim have the same tables.
use Prim.Native.Nat.{ℕ}
use mathlib.Core.Path.{◌≡◌}
use mathlib.Core.List.{List}
use mathlib.Core.Logic.{◌↔◌}
use Rattle.airy_math.specs.Tensors.{Tensors, SameEntries}
use Rattle.amp_terms.specs.declared.Outcome.{Outcome}
use Rattle.amp_terms.specs.Outcomes.{outcomes}
use Rattle.series_law.specs.Uniqueness.{series_of}
use Rattle.series_law.specs.Pivots.{AllPivots}
use Rattle.series_law.specs.Check.{check}

-- The same outcomes; and of every table the same check, the same pivots that pass, and the same series.
pub record SameTables (T T' : Tensors) (X : ℕ) : Type 0 where
  pub outcomes : outcomes T X ≡ outcomes T' X
  pub check : (table : List Outcome) → check T X table ≡ check T' X table
  pub pivots : (table : List Outcome) → AllPivots T X table ↔ AllPivots T' X table
  pub series : (table : List Outcome) → series_of T X table ≡ series_of T' X table

-- A table reads no entry with an index that isn't below dim.
abbrev pub SameTablesLaw : Type 0
SameTablesLaw = (T T' : Tensors) → SameEntries T T' → (X : ℕ) → SameTables T T' X
