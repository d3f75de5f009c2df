-- Rows of entries, read by their index ascending.
use Prim.Native.Nat.{ℕ, min}
use mathlib.Core.Bool.{cond, not}
use mathlib.Core.List.{List, [], ◌∷◌, map}
use lib.Dec.{eqb}
use Rattle.std.specs.Prelude.{Option, Some, None}
use Rattle.airy_math.specs.Rational.{ℚ}
use Rattle.airy_math.specs.RationalLaws.{0ℚ}
use Rattle.airy_math.specs.Sums.{keep}
use Rattle.airy_math.specs.Tensors.{is_zero}
use Rattle.airy_relations.specs.Places.{from_to}

-- the value that a row begins with, where its index is a, else 0
abbrev pub first_at : ℕ → List (ℕ × ℚ) → ℚ
first_at a [] = 0ℚ
first_at a (e ∷ es) = cond (eqb e.0 a) e.1 0ℚ

-- the index that a row begins with
abbrev pub first_index : List (ℕ × ℚ) → Option ℕ
first_index [] = None
first_index (e ∷ es) = Some e.0

-- the lesser of two indices, where there is one
abbrev pub lesser : Option ℕ → Option ℕ → Option ℕ
lesser None y = y
lesser (Some a) None = Some a
lesser (Some a) (Some b) = Some (min a b)

-- the row without its first entry, where its index is a
abbrev pub behind : ℕ → List (ℕ × ℚ) → List (ℕ × ℚ)
behind a [] = []
behind a (e ∷ es) = cond (eqb e.0 a) es (e ∷ es)

-- the values of f from a to n - 1 that aren't 0
unfoldable pub row_of : (ℕ → ℚ) → ℕ → ℕ → List (ℕ × ℚ)
row_of f a n = keep (λ r. not (is_zero r.1)) (map (λ b. (b, f b)) (from_to a n))

-- the other index of a pair that has the index l
abbrev pub other_of : ℕ → ℕ → ℕ → Option ℕ
other_of b c l = cond (eqb b l) (Some c) (cond (eqb c l) (Some b) None)

abbrev pub with_other : Option ℕ → ℚ → List (ℕ × ℚ) → List (ℕ × ℚ)
with_other None v es = es
with_other (Some a) v es = (a, v) ∷ es

-- The entries of a list of pairs that have the index l, each as its other index with its value.
abbrev pub others : ℕ → List (ℕ × ℕ × ℚ) → List (ℕ × ℚ)
others l [] = []
others l (e ∷ es) = with_other (other_of e.0 e.1 l) e.2 (others l es)
