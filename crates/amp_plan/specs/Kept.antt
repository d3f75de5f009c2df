-- What rankings and plans keep.
use Prim.Native.Nat.{ℕ, ◌<◌, ◌≤◌}
use mathlib.Core.Path.{◌≡◌}
use mathlib.Core.List.{List, []}
use lib.ListN.{length, get_or}
use Rattle.airy_math.specs.Keys.{Key}
use Rattle.amp_plan.specs.Plans.{Planning, tensors_of, keys_of}
use Rattle.amp_plan.specs.Needs.{needs_at, dependents_at, edges_of}
use Rattle.amp_plan.specs.Limits.{limit_of, Within}
use Rattle.amp_plan.specs.Marks.{AreNamed}
use Rattle.amp_plan.specs.Rows.{IsLonger}

-- A ranking: a bound in its limits, the planned keys and not too many of them.
pub record IsRanking (p : Planning) (stored : List Key) : Type 0 where
  pub some : 0 < p.bound
  pub most : p.bound ≤ 24
  pub keys : stored ≡ keys_of p
  pub few : length (keys_of p) ≤ 200000

-- The needs and the dependents of each rank, and the number of needs.
pub record IsGraph (p : Planning) (down up : List (List ℕ)) (count : ℕ) : Type 0 where
  pub down_len : length down ≡ length (keys_of p)
  pub needs : (r : ℕ) → r < length (keys_of p) → get_or down r [] ≡ needs_at p r
  pub up_len : length up ≡ length (keys_of p)
  pub dependents : (r : ℕ) → r < length (keys_of p) → get_or up r [] ≡ dependents_at p r
  pub edges : count ≡ edges_of p
  pub within : limit_of p ≡ Within

-- The dependents of each rank alone, with the number of needs.
pub record AreDependents (p : Planning) (rows : List (List ℕ)) (count : ℕ) : Type 0 where
  pub len : length rows ≡ length (keys_of p)
  pub row : (q : ℕ) → q < length (keys_of p) → get_or rows q [] ≡ dependents_at p q
  pub edges : count ≡ edges_of p
  pub within : limit_of p ≡ Within

-- The needs of each rank, in any order, with their number.
pub record AreCollected (p : Planning) (rows : List (List ℕ)) (count : ℕ) : Type 0 where
  pub len : length rows ≡ length (keys_of p)
  pub named : (r : ℕ) → r < length (keys_of p) → AreNamed (tensors_of p) p.bound r (get_or rows r [])
  pub edges : count ≡ edges_of p
  pub within : limit_of p ≡ Within

-- The needs of the first ranks, in any order.
pub record AreKnown (p : Planning) (rows : List (List ℕ)) : Type 0 where
  pub named : (r : ℕ) → r < length rows → AreNamed (tensors_of p) p.bound r (get_or rows r [])

-- The needs of the rank, in any order, were put behind the others.
pub record IsNamedNext (p : Planning) (r : ℕ) (old new : List (List ℕ)) : Type 0 where
  pub row : List ℕ
  pub longer : IsLonger row old new
  pub named : AreNamed (tensors_of p) p.bound r row
