-- For private functions and for proofs: no public contract rests on this file.
-- The keys that a walk looks for by their measures.
use Prim.Native.Nat.{ℕ, ◌+◌, ◌≤◌, ◌<◌}
use mathlib.Core.Path.{◌≡◌}
use lib.ListN.{length}
use Rattle.airy_math.specs.Keys.{Key, IsSortedFrom}
use Rattle.airy_math.specs.Shapes.{per_n}
use Rattle.amp_plan.specs.Plans.{Planning}
use Rattle.index_lists.specs.Measures.{IsMeasured}
use Rattle.index_lists.specs.declared.measure.Measure.{Measure}

-- A key of the genus whose indices have the measure, in order, below dim and within the bound.
pub record IsCandidate (p : Planning) (g : ℕ) (m : Measure) (key : Key) : Type 0 where
  pub genus : key.g ≡ g
  pub measured : IsMeasured (per_n p.tensors.shape) key.idx m
  pub sorted : IsSortedFrom 0 p.tensors.dim key.idx
  pub some : 0 < length key.idx
  pub level : g + g + length key.idx ≤ p.bound + 2
