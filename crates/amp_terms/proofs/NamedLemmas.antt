-- The ranks that the terms of a planned key name.
use Rattle.std.proofs.Common.{ℕ, ◌<◌, List, [], ◌∷◌, ◌++◌, map, length, refl, inl, inr}
use Rattle.airy_math.specs.Keys.{Key, head_or, remove, times}
use Rattle.airy_math.specs.NeedsFirst.{NeedsLaw}
use Rattle.airy_math.specs.Planned.{IsPlanned, planned}
use Rattle.airy_math.specs.Ranks.{place_of, ListsPlanned}
use Rattle.airy_math.specs.Sums.{each}
use Rattle.airy_math.specs.Tensors.{Tensors}
use Rattle.airy_math.specs.Terms.{Term, terms, named, needs, StandsIn}
use Rattle.airy_math.proofs.PlannedLaw.{head_stands}
use Rattle.amp_plan.specs.Needs.{AreNeeds}
use Rattle.amp_plan.specs.Plans.{Planning, tensors_of, keys_of, key_at}
use Rattle.amp_plan.specs.Ranked.{AreAllowed}
use Rattle.amp_terms.specs.Outcomes.{ranks_named}
use Rattle.amp_plan.proofs.NeedLemmas.{stands-left, stands-right}

allowed-append : (P : ℕ → Type 0) (rs qs : List ℕ) → AreAllowed P rs → AreAllowed P qs → AreAllowed P (rs ++ qs)
unfolding AreAllowed
allowed-append P [] qs h k = k
allowed-append P (r ∷ rs) qs h k = (h.0, allowed-append P rs qs h.1 k)

allowed-places : (P : ℕ → Type 0) (plan ks : List Key) → ((k : Key) → StandsIn k ks → P (place_of k plan)) → AreAllowed P (map (λ k. place_of k plan) ks)
unfolding AreAllowed StandsIn
allowed-places P plan [] h = tt
allowed-places P plan (k ∷ ks) h = (h k (inl refl), allowed-places P plan ks (λ q s. h q (inr s)))

-- what holds of the place of each key named holds of each rank named
pub allowed_places : (P : ℕ → Type 0) (plan : List Key) (ts : List Term) → ((k : Key) → StandsIn k (each ts named) → P (place_of k plan)) → AreAllowed P (ranks_named plan ts)
unfolding ranks_named each AreAllowed
allowed_places P plan [] h = tt
allowed_places P plan (t ∷ ts) h =
    allowed-append P (map (λ k. place_of k plan) (named t)) (ranks_named plan ts)
    (allowed-places P plan (named t) (λ k s. h k (stands-left k (named t) (each ts named) s)))
    (allowed_places P plan ts (λ k s. h k (stands-right k (named t) (each ts named) s)))

-- the ranks that the terms of a planned key name, for one of its indices, are ranks of the plan
pub named_in_plan : (p : Planning) (key : Key) (i : ℕ) → NeedsLaw → ListsPlanned (tensors_of p) p.bound → IsPlanned (tensors_of p) p.bound key → 0 < times i key.idx
    → AreAllowed (λ r. r < length (keys_of p)) (ranks_named (keys_of p) (terms (tensors_of p) i key.g (remove i key.idx)))
unfolding keys_of
named_in_plan p key i first lists h s =
    allowed_places (λ r. r < length (planned (tensors_of p) p.bound)) (planned (tensors_of p) p.bound) (terms (tensors_of p) i key.g (remove i key.idx))
    (λ k m. lists.all k ((first (tensors_of p) p.bound key h).terms i s k m).planned)

-- the ranks that the terms of the key of a rank name, for its least index, are lower ranks
pub named_below : (P : ℕ → Type 0) (p : Planning) (r : ℕ) → AreNeeds (tensors_of p) p.bound → r < length (keys_of p) → ((q : ℕ) → q < r → P q)
    → let key = key_at p r in AreAllowed P (ranks_named (keys_of p) (terms (tensors_of p) (head_or 0 key.idx) key.g (remove (head_or 0 key.idx) key.idx)))
unfolding keys_of key_at needs
named_below P p r are h lower =
    let key = key_at p r in
    allowed_places P (planned (tensors_of p) p.bound) (terms (tensors_of p) (head_or 0 key.idx) key.g (remove (head_or 0 key.idx) key.idx))
    (λ k m. lower (place_of k (planned (tensors_of p) p.bound)) (are.lower r (place_of k (planned (tensors_of p) p.bound)) h (are.all r k h m)))

-- the least index stands in a planned key
pub least_stands : (T : Tensors) (X : ℕ) (key : Key) → IsPlanned T X key → 0 < times (head_or 0 key.idx) key.idx
least_stands T X key h = head_stands key.idx h.places

-- the key of a rank is planned
pub rank_planned : (p : Planning) (r : ℕ) → ListsPlanned (tensors_of p) p.bound → r < length (keys_of p) → IsPlanned (tensors_of p) p.bound (key_at p r)
unfolding keys_of key_at
rank_planned p r lists h = lists.only r h
