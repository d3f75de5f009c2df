-- What a board rests on holds of every plan.
use Rattle.std.proofs.Common.{List, ap, ◌∙◌, ◌≡◌, ℕ, zero, suc, ◌<◌, ◌≤◌, Bool, true, false, ◌∷◌, length, get_or, inl, inr, sym, subst, arith, slice_index}
use Rattle.airy_math.specs.Terms.{terms, needs, StandsIn, RestsOn, directly, through}
use Rattle.airy_math.specs.NeedsFirst.{NeedsLaw}
use Rattle.airy_math.specs.Planned.{planned, IsPlanned as IsPlannedKey}
use Rattle.airy_math.specs.Ranks.{place_of, ListsPlanned}
use Rattle.amp_plan.specs.Ranked.{AreAllowed}
use Rattle.amp_terms.specs.Outcomes.{ranks_named}
use Rattle.amp_terms.specs.Pivots.{pivot_outcome}
use Rattle.amp_terms.proofs.NamedLemmas.{allowed_places, least_stands, rank_planned}
use Rattle.index_lists.proofs.ListWalkLemmas.{head-index}
use Rattle.amp_plan.specs.Needs.{needs_rank, needed, resting}
use Rattle.amp_plan.proofs.GraphLemmas.{keep-row}
use Rattle.cell_words.proofs.Names.{times, Outcome, keep, below, count_from, Planning, tensors_of, keys_of, key_at, Key, head_or, remove, has, needs_at, dependents_at, AreNeeds, cells, IsPlanned}
use Rattle.cell_words.specs.Looks.{Reaches}
use Rattle.amp_plan.proofs.RowLemmas.{has-at}

length-keep : (f : ℕ → Bool) (k n : ℕ) → length (keep f (count_from k n)) ≤ n
unfolding keep count_from
length-keep f k zero = omega arith
length-keep f k (suc n) =
    let h = length-keep f (suc k) n in
    elim (f k) as (λ t. length {A = ℕ} (elim t [ true ↦ k ∷ keep f (count_from (suc k) n) | false ↦ keep f (count_from (suc k) n) ]) ≤ suc n) [ true ↦ omega arith | false ↦ omega arith ]

pub is_planned : (p : Planning) → AreNeeds (tensors_of p) p.bound → length (keys_of p) ≤ 200000 → IsPlanned p
unfolding needs_at dependents_at needed resting keys_of below
is_planned p n few = record {
  converse = λ q r l k. sym (n.converse r q k l);
  needs_once = λ r. (keep-row (needs_rank (tensors_of p) p.bound r) (cells p)).distinct;
  dependents_once = λ q. (keep-row (λ r. needs_rank (tensors_of p) p.bound r q) (cells p)).distinct;
  needs_low = λ q r h. (keep-row (needs_rank (tensors_of p) p.bound r) (cells p)).small q h;
  dependents_low = λ q r h. (keep-row (λ i. needs_rank (tensors_of p) p.bound i q) (cells p)).small r h;
  lower = λ q r l h. n.lower r q l h;
  few_needs = λ r. length-keep (needs_rank (tensors_of p) p.bound r) 0 (cells p);
  few = few;
}

pub dependent_low : (p : Planning) (q k : ℕ) → k < length (dependents_at p q) → slice_index (dependents_at p q) k < cells p
unfolding dependents_at resting keys_of
dependent_low p q k l = (keep-row (λ i. needs_rank (tensors_of p) p.bound i q) (cells p)).small (get_or (dependents_at p q) k 0) (has-at (dependents_at p q) k l)

-- what holds of each need of a rank holds of each rank that its terms name, at its least index
pub named_needs : (P : ℕ → Type 0) (p : Planning) (r : ℕ) → AreNeeds (tensors_of p) p.bound → r < cells p → ((q : ℕ) → has q (needs_at p r) ≡ true → q < r → P q)
    → let key = key_at p r in AreAllowed P (ranks_named (keys_of p) (terms (tensors_of p) (head_or 0 key.idx) key.g (remove (head_or 0 key.idx) key.idx)))
unfolding keys_of key_at needs needs_at
named_needs P p r are h each =
    let key = key_at p r in
    allowed_places P (planned (tensors_of p) p.bound) (terms (tensors_of p) (head_or 0 key.idx) key.g (remove (head_or 0 key.idx) key.idx))
    (λ k m. each (place_of k (planned (tensors_of p) p.bound)) (are.all r k h m) (are.lower r (place_of k (planned (tensors_of p) p.bound)) h (are.all r k h m)))

-- The pivot sum at the least index of a rank's key: the index stands in the key, P holds of all ranks that the terms name, and the sum is
-- that at the key of the rank.
pub record IsLeast (P : ℕ → Type 0) (p : Planning) (r : ℕ) (key : Key) (pivot : ℕ) : Type 0 where
  pub planned : IsPlannedKey (tensors_of p) p.bound key
  pub pivot_in : 0 < times pivot key.idx
  pub seen : AreAllowed P (ranks_named (keys_of p) (terms (tensors_of p) pivot key.g (remove pivot key.idx)))
  pub value : (shown : ℕ → Outcome) → pivot_outcome (tensors_of p) (keys_of p) shown key pivot ≡ pivot_outcome (tensors_of p) (keys_of p) shown (key_at p r) (head_or 0 (key_at p r).idx)

pub least : (P : ℕ → Type 0) (p : Planning) (r : ℕ) (key : Key) (idx : List ℕ) → ListsPlanned (tensors_of p) p.bound → r < cells p → key ≡ key_at p r → idx ≡ key.idx
    → (let k = key_at p r in AreAllowed P (ranks_named (keys_of p) (terms (tensors_of p) (head_or 0 k.idx) k.g (remove (head_or 0 k.idx) k.idx)))) → IsLeast P p r key (slice_index idx 0)
least P p r key idx lists low is own named =
    let first : head_or 0 key.idx ≡ slice_index idx 0 = head-index key.idx ∙ ap (λ l. slice_index l 0) (sym own) in
    let planned = subst (IsPlannedKey (tensors_of p) p.bound) (sym is) (rank_planned p r lists low) in
    let here = subst (λ (k : Key). AreAllowed P (ranks_named (keys_of p) (terms (tensors_of p) (head_or 0 k.idx) k.g (remove (head_or 0 k.idx) k.idx)))) (sym is) named in record {
      planned = planned;
      pivot_in = subst (λ i. 0 < times i key.idx) first (least_stands (tensors_of p) p.bound key planned);
      seen = subst (λ i. AreAllowed P (ranks_named (keys_of p) (terms (tensors_of p) i key.g (remove i key.idx)))) first here;
      value = λ shown. ap (pivot_outcome (tensors_of p) (keys_of p) shown key) (sym first) ∙ ap (λ (k : Key). pivot_outcome (tensors_of p) (keys_of p) shown k (head_or 0 k.idx)) is;
    }

-- what holds of each need of a rank that it holds of holds of all that such a rank rests on
module _ (P : ℕ → Type 0) (p : Planning) (first : NeedsLaw) (are : AreNeeds (tensors_of p) p.bound) (lists : ListsPlanned (tensors_of p) p.bound)
    (closed : (r q : ℕ) → P r → has q (needs_at p r) ≡ true → P q) where
  place : Key → ℕ
  place k = place_of k (planned (tensors_of p) p.bound)

  needed-at : (a b : Key) → IsPlannedKey (tensors_of p) p.bound a → StandsIn b (needs (tensors_of p) a) → has (place b) (needs_at p (place a)) ≡ true
  unfolding needs_at place
  needed-at a b h s = are.all (place a) b (lists.all a h) (subst (λ k. StandsIn b (needs (tensors_of p) k)) (sym (lists.there a h)) s)

  rests : (a b : Key) → RestsOn (tensors_of p) a b → IsPlannedKey (tensors_of p) p.bound a → P (place a) → P (place b)
  rests a b (directly s) h k = closed (place a) (place b) k (needed-at a b h s)
  rests a c (through {b = b} s r) h k = rests b c r ((first (tensors_of p) p.bound a h).needs b s).planned (closed (place a) (place b) k (needed-at a b h s))

  pub reaches : (r q : ℕ) → r < cells p → q < cells p → Reaches p r q → P r → P q
  unfolding keys_of key_at place
  reaches r q low low' (inl e) k = subst P e k
  reaches r q low low' (inr rest) k = subst P (lists.once q low') (rests (key_at p r) (key_at p q) rest (lists.only r low) (subst P (sym (lists.once r low)) k))
