-- For private functions and for proofs: no public contract rests on this file.
-- A sum of three products for each index: the first factors are read along three rows, the second ones looked up.
use Prim.Native.Nat.{ℕ}
use mathlib.Core.Path.{◌≡◌}
use mathlib.Core.List.{List, [], ◌∷◌}
use Rattle.std.specs.Prelude.{Option, Some}
use Rattle.airy_math.specs.Rational.{ℚ}
use Rattle.airy_math.specs.RationalLaws.{0ℚ}
use Rattle.airy_math.specs.Sums.{each, below}
use Rattle.airy_math.specs.Tensors.{Tensors}
use Rattle.sparse_tensor.specs.declared.parts.Part.{Part}
use Rattle.sparse_tensor.specs.declared.parts.Part.TheVariants.{A, B, C}
use Rattle.airy_relations.specs.Rows.{row_of}
use Rattle.airy_relations.specs.Sides.{Product, Times}
use Rattle.airy_relations.specs.Steps.{added_all}

-- the entry of a part
unfoldable pub entry : Tensors → Part → ℕ → ℕ → ℕ → ℚ
entry T A = T.A
entry T B = T.B
entry T C = T.C

-- the factors of the three products of each index
pub record Factors : Type 0 where
  pub f : ℕ → ℚ
  pub g : ℕ → ℚ
  pub h : ℕ → ℚ
  pub u : ℕ → ℚ
  pub v : ℕ → ℚ
  pub w : ℕ → ℚ

unfoldable pub three : Factors → ℕ → List Product
three S a = Times (S.f a) (S.u a) ∷ Times (S.g a) (S.v a) ∷ Times (S.h a) (S.w a) ∷ []

-- the second factors by their parts
unfoldable pub factors : Tensors → (ℕ → ℚ) → (ℕ → ℚ) → (ℕ → ℚ) → Part × Part × Part → ℕ → ℕ → ℕ → Factors
factors T f g h parts j k l =
    record { f = f; g = g; h = h; u = λ a. entry T parts.0 a k l; v = λ a. entry T parts.1 j a l; w = λ a. entry T parts.2 j a k }

-- Where the rows are those of f, g and h, the sum of their products is obtained as the result says.
unfoldable pub IsSumOfThree : Tensors → List (ℕ × ℚ) → List (ℕ × ℚ) → List (ℕ × ℚ) → Part × Part × Part → ℕ → ℕ → ℕ → Option ℚ → Type 0
IsSumOfThree T x y z parts j k l result =
    (f g h : ℕ → ℚ) → x ≡ row_of f 0 T.dim → y ≡ row_of g 0 T.dim → z ≡ row_of h 0 T.dim
    → result ≡ added_all (Some 0ℚ) (each (below T.dim) (three (factors T f g h parts j k l)))
