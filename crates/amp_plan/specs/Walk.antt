-- For private functions and for proofs: no public contract rests on this file.
-- The ranked terms of a pivot sum in the parts in which they are walked over.
use Prim.Native.Nat.{ℕ, suc, ◌+◌, ◌*◌, ◌-◌, ◌<◌, ◌≤◌, ◌^◌}
use mathlib.Core.Bool.{cond}
use mathlib.Core.List.{List, [], ◌∷◌, ◌++◌}
use lib.Dec.{ltb, eqb}
use lib.ListN.{length}
use Rattle.std.specs.Prelude.{Option, Some, None}
use Rattle.airy_math.specs.Rational.{ℚ, whole}
use Rattle.airy_math.specs.Keys.{Key, key_of, insert, remove, IsSortedFrom}
use Rattle.airy_math.specs.Shapes.{live}
use Rattle.airy_math.specs.Splits.{Split, runs, splits}
use Rattle.airy_math.specs.Sums.{below, each}
use Rattle.airy_math.specs.Tensors.{Tensors, row_b, row_c}
use Rattle.airy_math.specs.Terms.{obtained_half}
use Rattle.amp_plan.specs.Plans.{Planning, tensors_of, rank_at}
use Rattle.amp_plan.specs.Ranked.{RankedTerm, Once, Joined, Twice}
use Rattle.amp_plan.specs.declared.pair.Pair.{Pair}

-- Indices that make a key of the genus up to the bound when one index below dim is added.
pub record HasRoom (T : Tensors) (X g : ℕ) (I : List ℕ) : Type 0 where
  pub sorted : IsSortedFrom 0 T.dim I
  pub level : 2 * g + length I ≤ X + 1

-- A split whose two lists have room in the genera k and g - k.
pub record IsPartOf (T : Tensors) (X g k : ℕ) (s : Split) : Type 0 where
  pub part : HasRoom T X k s.part
  pub rest : HasRoom T X (g - k) s.rest
  pub ways : s.ways < 2 ^ 63

-- the rank of a key, where the key is live
unfoldable pub live_rank : Planning → Key → Option ℕ
live_rank p key = cond (live (tensors_of p).shape key) (Some (rank_at p key)) None

-- one term, where there is a rank, or where there are two
unfoldable pub for_rank : Option ℕ → (ℕ → RankedTerm) → List RankedTerm
for_rank None f = []
for_rank (Some r) f = f r ∷ []

unfoldable pub for_ranks : Option ℕ → Option ℕ → (ℕ → ℕ → RankedTerm) → List RankedTerm
for_ranks None s f = []
for_ranks (Some r) None f = []
for_ranks (Some r) (Some s) f = f r s ∷ []

-- the B term of an entry of a row, where m equal indices were taken as one out of the list that is left
unfoldable pub once_part : Planning → ℕ → List ℕ → ℕ → ℕ × ℚ → List RankedTerm
once_part p g left m av = for_rank (live_rank p (key_of g (insert av.0 left))) (Once (whole m) av.1)

-- the B terms of a run: an index, and how often it stands there
unfoldable pub run_part : Planning → ℕ → ℕ → List ℕ → ℕ × ℕ → List RankedTerm
run_part p i g I jm = each (row_b (tensors_of p) i jm.0) (once_part p g (remove jm.0 I) jm.1)

unfoldable pub b_part : Planning → ℕ → ℕ → List ℕ → List RankedTerm
b_part p i g I = each (runs I) (run_part p i g I)

-- the joined term of a pair a, b with its weight
unfoldable pub joined_part : Planning → ℕ → List ℕ → ℕ → ℕ → Option ℚ → List RankedTerm
joined_part p g I a b w = cond (ltb 0 g) (for_rank (live_rank p (key_of (g - 1) (insert a (insert b I)))) (Joined w)) []

-- the product of a split, with the genus k on the left
unfoldable pub split_part : Planning → ℕ → ℕ → ℕ → Option ℚ → ℕ → Split → List RankedTerm
split_part p g a b w k s =
    for_ranks (live_rank p (key_of k (insert a s.part))) (live_rank p (key_of (g - k) (insert b s.rest))) (Twice w (whole s.ways))

unfoldable pub genus_part : Planning → ℕ → List ℕ → ℕ → ℕ → Option ℚ → ℕ → List RankedTerm
genus_part p g I a b w k = each (splits I) (split_part p g a b w k)

unfoldable pub product_part : Planning → ℕ → List ℕ → ℕ → ℕ → Option ℚ → List RankedTerm
product_part p g I a b w = each (below (suc g)) (genus_part p g I a b w)

-- the C terms of an entry of a row, whose weight is halved on the diagonal
unfoldable pub entry_part : Planning → ℕ → List ℕ → ℕ × ℕ × ℚ → List RankedTerm
entry_part p g I abv =
    let w = obtained_half (eqb abv.0 abv.1) abv.2 in
    joined_part p g I abv.0 abv.1 w ++ product_part p g I abv.0 abv.1 w

unfoldable pub c_part : Planning → ℕ → ℕ → List ℕ → List RankedTerm
c_part p i g I = each (row_c (tensors_of p) i) (entry_part p g I)

-- both
abbrev pub both_parts : Planning → ℕ → ℕ → List ℕ → List RankedTerm
both_parts p i g I = b_part p i g I ++ c_part p i g I

-- the parts of a pair with its weight
abbrev pub pair_joined : Planning → ℕ → List ℕ → Pair → List RankedTerm
pair_joined p g I x = joined_part p g I x.a x.b x.weight

abbrev pub pair_split : Planning → ℕ → Pair → ℕ → Split → List RankedTerm
pair_split p g x = split_part p g x.a x.b x.weight

abbrev pub pair_genus : Planning → ℕ → List ℕ → Pair → ℕ → List RankedTerm
pair_genus p g I x = genus_part p g I x.a x.b x.weight

abbrev pub pair_products : Planning → ℕ → List ℕ → Pair → List RankedTerm
pair_products p g I x = product_part p g I x.a x.b x.weight
