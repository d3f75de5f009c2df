-- What a key needs, as ranks, and which keys need it.
use Prim.Native.Nat.{ℕ, suc, ◌-◌, ◌<◌, ◌≤◌}
use mathlib.Core.Path.{◌≡◌}
use mathlib.Core.Bool.{Bool, true, false, ◌||◌, cond}
use mathlib.Core.List.{List, [], ◌∷◌, map}
use lib.Dec.{eqb, ltb}
use lib.ListN.{length}
use Rattle.std.specs.Prelude.{Option, Some, None, option_map}
use Rattle.airy_math.specs.Keys.{Key, total}
use Rattle.airy_math.specs.Sums.{below, keep}
use Rattle.airy_math.specs.Tensors.{Tensors}
use Rattle.airy_math.specs.Terms.{needs, StandsIn}
use Rattle.airy_math.specs.Planned.{planned}
use Rattle.airy_math.specs.Ranks as ranks
use Rattle.amp_plan.specs.Plans.{Planning, tensors_of, keys_of, key_at}

-- the number stands in the list
unfoldable pub has : ℕ → List ℕ → Bool
has q [] = false
has q (x ∷ xs) = eqb q x || has q xs

-- the ranks of the keys that the terms of the key of rank r name at its least index, as often as they name them
unfoldable pub named_ranks : Tensors → ℕ → ℕ → List ℕ
named_ranks T X r = map (λ key. ranks.place_of key (planned T X)) (needs T (ranks.key_at (planned T X) r))

-- the key of rank r needs that of rank q
unfoldable pub needs_rank : Tensors → ℕ → ℕ → ℕ → Bool
needs_rank T X r q = has q (named_ranks T X r)

-- the needs of a rank, each once, ascending
unfoldable pub needed : Tensors → ℕ → ℕ → List ℕ
needed T X r = keep (λ q. needs_rank T X r q) (below (length (planned T X)))

-- the ranks that need a rank, ascending
unfoldable pub resting : Tensors → ℕ → ℕ → List ℕ
resting T X q = keep (λ r. needs_rank T X r q) (below (length (planned T X)))

-- how many needs each key has, in plan order
unfoldable pub need_counts : Tensors → ℕ → List ℕ
need_counts T X = map (λ r. length (needed T X r)) (below (length (planned T X)))

-- the first place at which the numbers, added up, pass m
unfoldable pub first_past : ℕ → List ℕ → Option ℕ
first_past m [] = None
first_past m (x ∷ xs) = cond (ltb m x) (Some 0) (option_map (λ i. suc i) (first_past (m - x) xs))

-- each number is less than the next
unfoldable pub Climbs : List ℕ → Type 0
Climbs [] = Unit
Climbs (x ∷ []) = Unit
Climbs (x ∷ y ∷ xs) = (x < y) × Climbs (y ∷ xs)

-- The needs of a plan: the ranks of what each key's terms name at its least index, all lower than its own; and the converse.
pub record AreNeeds (T : Tensors) (X : ℕ) : Type 0 where
  pub lower : (r q : ℕ) → r < length (planned T X) → has q (needed T X r) ≡ true → q < r
  pub all : (r : ℕ) (k : Key) → r < length (planned T X) → StandsIn k (needs T (ranks.key_at (planned T X) r)) →
      has (ranks.place_of k (planned T X)) (needed T X r) ≡ true
  pub only : (r q : ℕ) → r < length (planned T X) → has q (needed T X r) ≡ true →
      StandsIn (ranks.key_at (planned T X) q) (needs T (ranks.key_at (planned T X) r))
  pub converse : (r q : ℕ) → r < length (planned T X) → q < length (planned T X) → has r (resting T X q) ≡ has q (needed T X r)
  pub climbs : (r : ℕ) → Climbs (needed T X r) × Climbs (resting T X r)

-- ---- of a plan

unfoldable pub needs_at : Planning → ℕ → List ℕ
needs_at p r = needed (tensors_of p) p.bound r

unfoldable pub dependents_at : Planning → ℕ → List ℕ
dependents_at p q = resting (tensors_of p) p.bound q

-- the number of all needs
unfoldable pub edges_of : Planning → ℕ
edges_of p = total (need_counts (tensors_of p) p.bound)

-- The ranks of p are the first ones of q, with their keys and needs.
pub record KeepsRanks (p q : Planning) : Type 0 where
  pub fewer : length (keys_of p) ≤ length (keys_of q)
  pub keys : (r : ℕ) → r < length (keys_of p) → key_at q r ≡ key_at p r
  pub needs : (r : ℕ) → r < length (keys_of p) → needs_at q r ≡ needs_at p r
