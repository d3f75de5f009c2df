-- One side of each relation: its products in the order in which they are added, with their exact and their obtained sum.
use Prim.Native.Nat.{ℕ}
use mathlib.Core.Bool.{Bool}
use mathlib.Core.List.{List, [], ◌∷◌, ◌++◌, map}
use lib.Dec.{eqb}
use Rattle.std.specs.Prelude.{Option, Some}
use Rattle.airy_math.specs.Obtained.{obtained_product, ◌⊛◌, obtained_from}
use Rattle.airy_math.specs.Rational.{ℚ, ◌*ℚ◌}
use Rattle.airy_math.specs.RationalLaws.{0ℚ}
use Rattle.airy_math.specs.Sums.{sum_over, below, each}
use Rattle.airy_math.specs.Tensors.{Tensors, row_c}
use Rattle.airy_math.specs.Terms.{halved, obtained_half}
pub use Rattle.airy_relations.specs.declared.verdict.Rel.{Rel}
pub use Rattle.airy_relations.specs.declared.verdict.Rel.TheVariants.{AA, BA, BB, BC, D}

-- A product of entries, as a relation's sum has them.
pub data Product : Type 0 where
  -- one entry alone
  Alone : ℚ → Product
  -- the first entry times the second
  Times : ℚ → ℚ → Product
  -- w times the second entry, where w is the first, or one half of it where the truth value says so
  Weighted : Bool → ℚ → ℚ → Product

-- the products of one a
unfoldable pub at_BA : Tensors → ℕ → ℕ → ℕ → ℕ → ℕ → List Product
at_BA T i j k l a = Times (T.B i j a) (T.A a k l) ∷ Times (T.B i k a) (T.A j a l) ∷ Times (T.B i l a) (T.A j a k) ∷ []

unfoldable pub at_BB : Tensors → ℕ → ℕ → ℕ → ℕ → ℕ → List Product
at_BB T i j k l a = Times (T.B i j a) (T.B a k l) ∷ Times (T.B i k a) (T.B j a l) ∷ Times (T.C i l a) (T.A j a k) ∷ []

unfoldable pub at_BC : Tensors → ℕ → ℕ → ℕ → ℕ → ℕ → List Product
at_BC T i j k l a = Times (T.B i j a) (T.C a k l) ∷ Times (T.C i k a) (T.B j a l) ∷ Times (T.C i l a) (T.B j a k) ∷ []

unfoldable pub at_D : Tensors → ℕ → ℕ → ℕ → List Product
at_D T i j a = Times (T.B i j a) (T.D a) ∷ []

-- the product of one entry of row_c(i)
unfoldable pub of_pair : Tensors → ℕ → ℕ × ℕ × ℚ → Product
of_pair T j abv = Weighted (eqb abv.0 abv.1) abv.2 (T.A j abv.0 abv.1)

-- The products of a side in their order, for the indices i, j, k and l. AA has no l, and D has neither k nor l.
unfoldable pub products : Tensors → Rel → ℕ → ℕ → ℕ → ℕ → List Product
products T AA i j k l = Alone (T.A i j k) ∷ []
products T BA i j k l = each (below T.dim) (at_BA T i j k l)
products T BB i j k l = each (below T.dim) (at_BB T i j k l)
products T BC i j k l = each (below T.dim) (at_BC T i j k l)
products T D i j k l = each (below T.dim) (at_D T i j) ++ map (of_pair T j) (row_c T i)

-- the exact number
unfoldable pub product_value : Product → ℚ
product_value (Alone x) = x
product_value (Times x y) = x *ℚ y
product_value (Weighted h x y) = halved h x *ℚ y

unfoldable pub exact_side : Tensors → Rel → ℕ → ℕ → ℕ → ℕ → ℚ
exact_side T rel i j k l = sum_over (products T rel i j k l) product_value

-- the number in 128 bits, where each step is obtained
unfoldable pub obtained_value : Product → Option ℚ
obtained_value (Alone x) = Some x
obtained_value (Times x y) = obtained_product x y
obtained_value (Weighted h x y) = obtained_half h x ⊛ Some y

-- the sum begins at 0, and the products are added from left to right
unfoldable pub obtained_side : Tensors → Rel → ℕ → ℕ → ℕ → ℕ → Option ℚ
obtained_side T rel i j k l = obtained_from (Some 0ℚ) (map obtained_value (products T rel i j k l))
