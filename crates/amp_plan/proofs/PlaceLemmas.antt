-- Where a key stands in a plan.
use Rattle.std.proofs.Common.{ℕ, ◌<◌, ◌≤◌, ◌≡◌, refl, ap, ◌∙◌, Bool, true, false, cond, List, [], ◌∷◌, arith, ltb, length, ltb-true, ltb-false}
use Rattle.amp_plan.proofs.Words.{and_parts, Key, euler, IsSortedFrom, covers, IsPlanned, ListsPlanned, IsKey, looked_up, Planning, tensors_of, keys_of, rank_at, place_in, are_below, At, Zero, Beyond, BadIndex}
use Rattle.amp_plan.specs.Plans.{key_at}

-- what it takes to be at a rank
pub record IsPlace (p : Planning) (key : Key) (r : ℕ) : Type 0 where
  pub rank : r ≡ rank_at p key
  pub within : euler key.g (length key.idx) ≤ p.bound
  pub covered : covers p.tensors.shape key ≡ true
  pub below : are_below p.tensors.dim key.idx ≡ true

pub at_rank : (p : Planning) (key : Key) (r : ℕ) → place_in p key ≡ At r → IsPlace p key r
unfolding place_in
at_rank p key r e = by (ltb p.bound (euler key.g (length key.idx))) (covers p.tensors.shape key) (are_below p.tensors.dim key.idx) refl refl refl e
  where
    by : (beyond covered below : Bool) → ltb p.bound (euler key.g (length key.idx)) ≡ beyond → covers p.tensors.shape key ≡ covered → are_below p.tensors.dim key.idx ≡ below
        → cond beyond Beyond (cond covered (cond below (At (rank_at p key)) BadIndex) Zero) ≡ At r → IsPlace p key r
    by true c b u v w e = cc
    by false false b u v w e = cc
    by false true false u v w e = cc
    by false true true u v w e = record { rank = cc; within = ltb-false p.bound (euler key.g (length key.idx)) u; covered = v; below = w }

-- a key at which all is 0 isn't covered
pub uncovered : (p : Planning) (key : Key) → place_in p key ≡ Zero → covers p.tensors.shape key ≡ false
unfolding place_in
uncovered p key e = by (ltb p.bound (euler key.g (length key.idx))) (covers p.tensors.shape key) (are_below p.tensors.dim key.idx) refl e
  where
    by : (beyond covered below : Bool) → covers p.tensors.shape key ≡ covered → cond beyond Beyond (cond covered (cond below (At (rank_at p key)) BadIndex) Zero) ≡ Zero → covers p.tensors.shape key ≡ false
    by true c b v e = cc
    by false false b v e = v
    by false true false v e = cc
    by false true true v e = cc

-- indices below dim are those of a key of the tensors
pub sorted_below : (k m dim : ℕ) (xs : List ℕ) → IsSortedFrom k m xs → are_below dim xs ≡ true → IsSortedFrom k dim xs
unfolding IsSortedFrom are_below
sorted_below k m dim [] s b = tt
sorted_below k m dim (x ∷ xs) s b = let h = and_parts (ltb x dim) (are_below dim xs) b in (s.0, ltb-true x dim h.0, sorted_below x m dim xs s.2 h.1)

-- a key at a rank is planned
pub planned_at : (p : Planning) (key : Key) (r : ℕ) → IsKey key.g key.idx → place_in p key ≡ At r → IsPlanned (tensors_of p) p.bound key
unfolding tensors_of looked_up
planned_at p key r k e = let at = at_rank p key r e in record {
  sorted = sorted_below 0 256 p.tensors.dim key.idx k.sorted at.below;
  places = k.some;
  positive = k.stable;
  within = at.within;
  covered = at.covered;
}

-- its rank is one of the plan's
pub rank_within : (p : Planning) (key : Key) (r : ℕ) → ListsPlanned (tensors_of p) p.bound → IsKey key.g key.idx → place_in p key ≡ At r → r < length (keys_of p)
unfolding keys_of rank_at
rank_within p key r plan k e = omega (arith, (at_rank p key r e).rank, plan.all key (planned_at p key r k e))

-- and the key is that of the rank
pub key_of_rank : (p : Planning) (key : Key) (r : ℕ) → ListsPlanned (tensors_of p) p.bound → IsKey key.g key.idx → place_in p key ≡ At r → key_at p r ≡ key
unfolding keys_of rank_at key_at
key_of_rank p key r plan k e = ap (Rattle.airy_math.specs.Ranks.key_at (keys_of p)) (at_rank p key r e).rank ∙ plan.there key (planned_at p key r k e)
