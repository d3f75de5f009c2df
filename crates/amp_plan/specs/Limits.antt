-- What keeps a plan from being made.
use Prim.Native.Nat.{ℕ}
use mathlib.Core.Path.{◌≡◌}
use mathlib.Core.Bool.{◌&&◌, cond}
use mathlib.Core.List.{List}
use lib.Dec.{leb}
use lib.ListN.{length}
use Rattle.std.specs.Prelude.{Option, Some, None}
use Rattle.airy_math.specs.Keys.{Key, euler}
use Rattle.airy_math.specs.Planned.{planned}
use Rattle.airy_math.specs.Ranks as ranks
use Rattle.airy_math.specs.Tensors as math
use Rattle.amp_plan.specs.Plans.{Planning, tensors_of}
use Rattle.amp_plan.specs.Needs.{need_counts, first_past}
use Rattle.amp_plan.specs.declared.cause.PlanCause.{PlanCause}
use Rattle.amp_plan.specs.declared.cause.PlanCause.TheVariants as cause

pub data Limit : Type 0 where
  -- nothing
  Within : Limit
  -- the bound is 0 or above 24
  PassesBound : Limit
  -- more than 200,000 keys: the Euler number of the 200,001st
  PassesCells : ℕ → Limit
  -- more than 4,000,000 needs: the key at which their sum, in order, passes that
  PassesNeeds : Key → Limit

-- the Euler number of the key at a place
unfoldable pub level_at : List Key → ℕ → ℕ
level_at keys r = let key = ranks.key_at keys r in euler key.g (length key.idx)

-- the key at the place, where there is one
unfoldable pub past : List Key → Option ℕ → Limit
past keys None = Within
past keys (Some r) = PassesNeeds (ranks.key_at keys r)

-- the first limit that the plan of T up to X passes
unfoldable pub limit : math.Tensors → ℕ → Limit
limit T X =
    cond (leb 1 X && leb X 24)
    (cond (leb (length (planned T X)) 200000) (past (planned T X) (first_past 4000000 (need_counts T X)))
    (PassesCells (level_at (planned T X) 200000)))
    PassesBound

unfoldable pub limit_of : Planning → Limit
limit_of p = limit (tensors_of p) p.bound

-- the cause tells the limit; want of memory comes at a bound that is in its limits
unfoldable pub Tells : Planning → PlanCause → Type 0
Tells p (cause.Bound got) = (limit_of p ≡ PassesBound) × (got ≡ p.bound)
Tells p (cause.Cells level) = limit_of p ≡ PassesCells level
Tells p (cause.Edges key) = limit_of p ≡ PassesNeeds key
Tells p cause.NoMemory = limit_of p ≡ PassesBound → ⊥
