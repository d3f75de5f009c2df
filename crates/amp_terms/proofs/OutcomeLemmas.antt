-- The outcome of a rank is that of its pivot sum, over whatever shows the outcomes of the ranks that its terms name.
use Rattle.std.proofs.Common.{◌≡◌, ℕ, zero, suc, ◌+◌, ◌<◌, List, [], ◌∷◌, ◌++◌, map, length, take, get_or, Some, refl, sym, ap, ap₂, ◌∙◌, arith, length-append, append_assoc, append-nil}
use Rattle.std.specs.Prelude.{cond}
use Rattle.airy_math.specs.Keys.{Key, head_or, remove}
use Rattle.airy_math.specs.Planned.{planned}
use Rattle.airy_math.specs.Rational.{ℚ}
use Rattle.airy_math.specs.Sums.{each}
use Rattle.airy_math.specs.Tensors.{Tensors}
use Rattle.airy_math.specs.Terms.{Term, Alone, Once, Joined, Twice, terms, named, obtained_term, obtained_half, obtained_pivot_sum}
use Rattle.airy_math.specs.Obtained.{◌⊛◌, obtained_from}
use Rattle.airy_math.specs.RationalLaws.{0ℚ}
use Rattle.airy_math.specs.Ranks as ranks
use Rattle.amp_plan.specs.Plans.{Planning, tensors_of, keys_of, key_at}
use Rattle.amp_plan.specs.Ranked.{AreAllowed}
use Rattle.amp_terms.specs.declared.Outcome.{Outcome}
use Rattle.amp_terms.specs.declared.Outcome.TheVariants.{Over}
use Rattle.amp_terms.specs.Outcomes.{has_value, smaller, value_or_zero, ranks_named, outcome_from, outcome_of, outcomes_after, outcomes, outcome_at}
use Rattle.amp_terms.specs.Pivots.{least_without, number_at, pivot_outcome, listed}
use Rattle.amp_terms.proofs.FillingLemmas.{outcome_is}

-- ---- the list of outcomes

module _ (T : Tensors) (plan : List Key) where
  -- the outcomes that are there stay at the front
  after-extends : (done : List Outcome) (keys : List Key) → (more : List Outcome) × (outcomes_after T plan done keys ≡ done ++ more) × (length more ≡ length keys)
  unfolding outcomes_after
  after-extends done [] = ([], sym (append-nil done), refl)
  after-extends done (key ∷ keys) =
      let o = outcome_of T plan done key in
      let rest = after-extends (done ++ (o ∷ [])) keys in
      (o ∷ rest.0, rest.1 ∙ append_assoc done (o ∷ []) rest.0, ap suc rest.2)

  at-end : (done more : List Outcome) (o : Outcome) → (get_or ((done ++ (o ∷ [])) ++ more) (length done) Over ≡ o) × (take (length done) ((done ++ (o ∷ [])) ++ more) ≡ done)
  at-end [] more o = (refl, refl)
  at-end (x ∷ done) more o = let e = at-end done more o in (e.0, ap (λ l. x ∷ l) e.1)

  -- each outcome is that of its key over those before it
  after-each : (done : List Outcome) (keys : List Key) (i : ℕ) → i < length keys
      → get_or (outcomes_after T plan done keys) (length done + i) Over ≡ outcome_of T plan (take (length done + i) (outcomes_after T plan done keys)) (get_or keys i ranks.no_key)
  unfolding outcomes_after
  after-each done [] i h = absurd (omega arith)
  after-each done (key ∷ keys) zero h =
      let o = outcome_of T plan done key in
      let rest = after-extends (done ++ (o ∷ [])) keys in
      let all = outcomes_after T plan (done ++ (o ∷ [])) keys in
      let here : length done + 0 ≡ length done = omega arith in
      ap (get_or all (length done + 0)) refl ∙ ap (λ n. get_or all n Over) here ∙ ap (λ l. get_or l (length done) Over) rest.1 ∙ (at-end done rest.0 o).0
      ∙ ap (λ d. outcome_of T plan d key) (sym (ap (λ n. take n all) here ∙ ap (take (length done)) rest.1 ∙ (at-end done rest.0 o).1))
  after-each done (key ∷ keys) (suc i) h =
      let o = outcome_of T plan done key in
      let all = outcomes_after T plan (done ++ (o ∷ [])) keys in
      let there : length (done ++ (o ∷ [])) + i ≡ length done + suc i = omega (arith, length-append done (o ∷ [])) in
      ap (λ n. get_or all n Over) (sym there) ∙ after-each (done ++ (o ∷ [])) keys i (omega arith) ∙ ap (λ n. outcome_of T plan (take n all) (get_or keys i ranks.no_key)) there

-- there are as many outcomes as planned keys
pub length-outcomes : (T : Tensors) (X : ℕ) → length (outcomes T X) ≡ length (planned T X)
unfolding outcomes
length-outcomes T X = let e = after-extends T (planned T X) [] (planned T X) in ap length e.1 ∙ e.2

pub length-all : (p : Planning) → length (outcomes (tensors_of p) p.bound) ≡ length (keys_of p)
unfolding keys_of
length-all p = length-outcomes (tensors_of p) p.bound

-- ---- what is shown of the ranks that are named

least-same : (f g : ℕ → Outcome) (rs : List ℕ) → AreAllowed (λ r. f r ≡ g r) rs → least_without f rs ≡ least_without g rs
unfolding least_without AreAllowed
least-same f g [] h = refl
least-same f g (r ∷ rs) h = ap₂ (λ o b. cond (has_value o) b (smaller r b)) h.0 (least-same f g rs h.1)

pub allowed-both : (P : ℕ → Type 0) (rs qs : List ℕ) → AreAllowed P (rs ++ qs) → AreAllowed P rs × AreAllowed P qs
unfolding AreAllowed
allowed-both P [] qs h = (tt, h)
allowed-both P (r ∷ rs) qs h = let k = allowed-both P rs qs h.1 in ((h.0, k.0), k.1)

module _ (f g : ℕ → Outcome) (plan : List Key) where
  Same : ℕ → Type 0
  Same r = f r ≡ g r

  at : (ℕ → Outcome) → Key → ℚ
  at shown k = number_at shown (ranks.place_of k plan)

  number-same : (k : Key) → Same (ranks.place_of k plan) → at f k ≡ at g k
  unfolding Same at number_at
  number-same k e = ap value_or_zero e

  term-same : (t : Term) → AreAllowed Same (map (λ k. ranks.place_of k plan) (named t)) → obtained_term (at f) t ≡ obtained_term (at g) t
  unfolding obtained_term named AreAllowed
  term-same (Alone v) h = refl
  term-same (Once m v k) h = ap (λ x. Some m ⊛ Some v ⊛ Some x) (number-same k h.0)
  term-same (Joined b v k) h = ap (λ x. obtained_half b v ⊛ Some x) (number-same k h.0)
  term-same (Twice b v q l r) h = ap₂ (λ x y. obtained_half b v ⊛ Some q ⊛ Some x ⊛ Some y) (number-same l h.0) (number-same r h.1.0)

  terms-same : (ts : List Term) → AreAllowed Same (ranks_named plan ts) → map (obtained_term (at f)) ts ≡ map (obtained_term (at g)) ts
  unfolding ranks_named each
  terms-same [] h = refl
  terms-same (t ∷ ts) h = let k = allowed-both Same (map (λ k. ranks.place_of k plan) (named t)) (ranks_named plan ts) h in ap₂ ◌∷◌ (term-same t k.0) (terms-same ts k.1)

  pub pivot-same : (T : Tensors) (key : Key) (i : ℕ) → AreAllowed (λ r. f r ≡ g r) (ranks_named plan (terms T i key.g (remove i key.idx))) → pivot_outcome T plan f key i ≡ pivot_outcome T plan g key i
  unfolding pivot_outcome obtained_pivot_sum Same at
  pivot-same T key i h = ap₂ outcome_from (least-same f g (ranks_named plan (terms T i key.g (remove i key.idx))) h) (ap (obtained_from (Some 0ℚ)) (terms-same (terms T i key.g (remove i key.idx)) h))

below-take : (l : List Outcome) (n q : ℕ) → q < n → get_or (take n l) q Over ≡ get_or l q Over
below-take [] (suc n) q h = refl
below-take [] zero q h = absurd (omega arith)
below-take (x ∷ l) zero q h = absurd (omega arith)
below-take (x ∷ l) (suc n) zero h = refl
below-take (x ∷ l) (suc n) (suc q) h = below-take l n q (omega arith)

pub shown-below : (p : Planning) (n q : ℕ) → q < n → listed (take n (outcomes (tensors_of p) p.bound)) q ≡ outcome_at p q
unfolding listed outcome_at
shown-below p n q h = below-take (outcomes (tensors_of p) p.bound) n q h

-- The outcome of a rank, where the ranks that its terms name are shown with theirs; these are lower.
pub outcome_known : (p : Planning) (r : ℕ) (shown : ℕ → Outcome) → r < length (keys_of p)
    → (let key = key_at p r in AreAllowed (λ q. (q < r) × (shown q ≡ outcome_at p q)) (ranks_named (keys_of p) (terms (tensors_of p) (head_or 0 key.idx) key.g (remove (head_or 0 key.idx) key.idx))))
    → (let key = key_at p r in pivot_outcome (tensors_of p) (keys_of p) shown key (head_or 0 key.idx)) ≡ outcome_at p r
unfolding outcome_at outcomes keys_of key_at ranks.key_at AreAllowed
outcome_known p r shown h named =
    let T = tensors_of p in let plan = keys_of p in let key = key_at p r in let all = outcomes T p.bound in
    let start : 0 + r ≡ r = omega arith in
    let one : get_or all r Over ≡ outcome_of T plan (take r all) key = ap (λ n. get_or all n Over) (sym start) ∙ after-each T plan [] plan r h ∙ ap (λ n. outcome_of T plan (take n all) key) start in
    pivot-same shown (listed (take r all)) plan T key (head_or 0 key.idx) (weaken _ named) ∙ sym (outcome_is T plan (take r all) key) ∙ sym one
  where
    weaken : (rs : List ℕ) → AreAllowed (λ q. (q < r) × (shown q ≡ outcome_at p q)) rs → AreAllowed (λ q. shown q ≡ listed (take r (outcomes (tensors_of p) p.bound)) q) rs
    weaken [] k = tt
    weaken (q ∷ rs) k = (k.0.1 ∙ sym (shown-below p r q k.0.0), weaken rs k.1)
