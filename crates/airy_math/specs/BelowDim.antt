-- What two tensors with the same entries below dim have in common: the plan, the terms of its keys, the solutions and the relations.
use Prim.Native.Nat.{ℕ, ◌<◌, ◌≤◌}
use mathlib.Core.Path.{◌≡◌}
use mathlib.Core.Logic.{◌↔◌}
use lib.ListN.{length}
use Rattle.airy_math.specs.Rational.{ℚ}
use Rattle.airy_math.specs.Keys.{Key, remove, times, IsSortedFrom}
use Rattle.airy_math.specs.Tensors.{Tensors, SameEntries}
use Rattle.airy_math.specs.Planned.{planned, IsPlanned}
use Rattle.airy_math.specs.Terms.{terms, needs, pivot_sum, obtained_pivot_sum, RestsOn}
use Rattle.airy_math.specs.Series.{Series}
use Rattle.airy_math.specs.Solutions.{Solves}
use Rattle.airy_math.specs.Relations.{Close}

-- Of a key with sorted indices below dim: the same terms, needs and pivot sums, at each of its indices as the pivot.
pub record SameAtKey (T T' : Tensors) (key : Key) : Type 0 where
  pub terms : (i : ℕ) → 0 < times i key.idx → terms T i key.g (remove i key.idx) ≡ terms T' i key.g (remove i key.idx)
  pub needs : 0 < length key.idx → needs T key ≡ needs T' key
  pub sums : (F : Key → ℚ) (i : ℕ) → 0 < times i key.idx → pivot_sum T F key i ≡ pivot_sum T' F key i
  pub obtained : (F : Key → ℚ) (i : ℕ) → 0 < times i key.idx → obtained_pivot_sum T F key i ≡ obtained_pivot_sum T' F key i

-- The same plan up to every bound, the same at each key, the same keys that a planned key rests on, the same solutions, and the
-- same relations in the places below dim.
pub record SameBelowDim (T T' : Tensors) : Type 0 where
  pub plan : (X : ℕ) → planned T X ≡ planned T' X
  pub planned_keys : (X : ℕ) (key : Key) → IsPlanned T X key ↔ IsPlanned T' X key
  pub keys : (key : Key) → IsSortedFrom 0 T.dim key.idx → SameAtKey T T' key
  pub rests : (X : ℕ) (a b : Key) → IsPlanned T X a → RestsOn T a b ↔ RestsOn T' a b
  pub solutions : (X : ℕ) (f : Series) → Solves T X f ↔ Solves T' X f
  pub relations : (N : ℕ) → N ≤ T.dim → Close T N ↔ Close T' N

-- Entries with an index that isn't below dim are read nowhere. (Symmetry and gradings speak of all indices, so they do not follow.)
abbrev pub BelowDimLaw : Type 0
BelowDimLaw = (T T' : Tensors) → SameEntries T T' → SameBelowDim T T'
