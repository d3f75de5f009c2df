-- What a verdict says of the relations by exact numbers.
use Prim.Native.Nat.{ℕ, ◌<◌}
use mathlib.Core.Path.{◌≡◌}
use mathlib.Core.List.{List, [], ◌∷◌}
use Rattle.airy_math.specs.Rational.{ℚ}
use Rattle.airy_math.specs.Relations.{rel_AA, rel_BA, rel_BB, rel_BC, rel_D, Close}
use Rattle.airy_math.specs.Tensors.{Tensors}
use Rattle.airy_relations.specs.Sides.{Rel, AA, BA, BB, BC, D}
use Rattle.airy_relations.specs.Verdicts.{Verdict, Closed, Differs, Over}

-- the expression of a relation
unfoldable pub expression : Tensors → Rel → ℕ → ℕ → ℕ → ℕ → ℚ
expression T AA i j k l = rel_AA T i j k
expression T BA i j k l = rel_BA T i j k l
expression T BB i j k l = rel_BB T i j k l
expression T BC i j k l = rel_BC T i j k l
expression T D i j k l = rel_D T i j

-- The relation fails at the place: left is its expression there, right the one with i and j exchanged, and they differ.
-- So the relations don't hold in all places below N.
pub record Fails (T : Tensors) (N : ℕ) (rel : Rel) (place : List ℕ) (left right : ℚ) : Type 0 where
  pub i : ℕ
  pub j : ℕ
  pub k : ℕ
  pub l : ℕ
  pub at : place ≡ i ∷ j ∷ k ∷ l ∷ []
  pub ordered : i < j
  pub j_below : j < N
  pub k_below : k < N
  pub l_below : l < N
  pub left_is : left ≡ expression T rel i j k l
  pub right_is : right ≡ expression T rel j i k l
  pub differ : left ≡ right → ⊥
  pub not_closed : Close T N → ⊥

-- Where a verdict says Differs, the relation that it names fails at the place that it names.
unfoldable pub TellsFailure : Tensors → ℕ → Verdict → Type 0
TellsFailure T N Closed = Unit
TellsFailure T N (Differs rel place left right) = Fails T N rel place left right
TellsFailure T N (Over rel place) = Unit
