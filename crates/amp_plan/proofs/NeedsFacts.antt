-- What the needs of a plan are: lower ranks, of the keys that are named, and the converse of the dependents.
use Rattle.std.proofs.Common.{◌≡◌, ℕ, zero, suc, ◌<◌, ◌≤◌, Bool, true, false, ◌||◌, ◌&&◌, List, [], ◌∷◌, length, map, get_or, refl, sym, ◌∙◌, ap, subst, arith, cond, eqb, ltb, ◌⊎◌, inl, inr, eq-eqb, ne_eqb, ltb-true, eqb-true}
use Rattle.amp_plan.proofs.Words.{cases_eq, cases_order, keep, count_from, Key, euler, euler_of, NeedsComeFirst, Tensors, needs, StandsIn, planned, place_of, no_key, ListsPlanned, has, named_ranks, needs_rank, needed, resting}
use Rattle.airy_math.specs.Sums.{below}
use Rattle.airy_math.specs.Keys.{before}
use Rattle.airy_math.specs.Levels.{Ascends}
use Rattle.airy_math.specs.Ranks.{key_at}
use Rattle.amp_plan.specs.Needs.{Climbs, AreNeeds}
use Rattle.amp_plan.proofs.GraphLemmas.{keep-row, has-below}

-- ---- ranks of keys

has-map : (f : Key → ℕ) (k : Key) (ks : List Key) → StandsIn k ks → has (f k) (map f ks) ≡ true
unfolding has StandsIn
has-map f k [] h = absurd h
has-map f k (l ∷ ks) (inl e) = ap (λ b. b || has (f k) (map f ks)) (eq-eqb (f k) (f l) (ap f e))
has-map f k (l ∷ ks) (inr h) = by (eqb (f k) (f l)) (has-map f k ks h)
  where
    by : (b : Bool) → has (f k) (map f ks) ≡ true → (b || has (f k) (map f ks)) ≡ true
    by true e = refl
    by false e = e

-- a key of the list with that number
pub record IsNumbered (f : Key → ℕ) (ks : List Key) (q : ℕ) : Type 0 where
  pub key : Key
  pub stands : StandsIn key ks
  pub number : q ≡ f key

numbered : (f : Key → ℕ) (ks : List Key) (q : ℕ) → has q (map f ks) ≡ true → IsNumbered f ks q
unfolding has StandsIn
numbered f [] q t = cc
numbered f (k ∷ ks) q t = by (cases_eq q (f k)) (numbered f ks q)
  where
    behind : (b : Bool) → b ≡ false → (b || has q (map f ks)) ≡ true → has q (map f ks) ≡ true
    behind true e t = cc
    behind false e t = t

    more : IsNumbered f ks q → IsNumbered f (k ∷ ks) q
    more n = record { key = n.key; stands = inr n.stands; number = n.number }

    by : (q ≡ f k) ⊎ (q ≡ f k → ⊥) → (has q (map f ks) ≡ true → IsNumbered f ks q) → IsNumbered f (k ∷ ks) q
    by (inl e) r = record { key = k; stands = inl refl; number = e }
    by (inr d) r = more (r (behind (eqb q (f k)) (ne_eqb q (f k) d) t))

-- ---- numbers in order

climbs_from : (p : ℕ → Bool) (k n : ℕ) → Climbs (keep p (count_from k n)) × ((x : ℕ) → x < k → Climbs (x ∷ keep p (count_from k n)))
unfolding Climbs keep count_from
climbs_from p k zero = (tt, λ x h. tt)
climbs_from p k (suc n) = by (p k) (climbs_from p (suc k) n)
  where
    by : (t : Bool) → Climbs (keep p (count_from (suc k) n)) × ((x : ℕ) → x < suc k → Climbs (x ∷ keep p (count_from (suc k) n)))
        → Climbs (elim t [ true ↦ k ∷ keep p (count_from (suc k) n) | false ↦ keep p (count_from (suc k) n) ]) × ((x : ℕ) → x < k → Climbs (x ∷ elim t [ true ↦ k ∷ keep p (count_from (suc k) n) | false ↦ keep p (count_from (suc k) n) ]))
    by true r = (r.1 k (omega arith), λ x h. (h, r.1 k (omega arith)))
    by false r = (r.0, λ x h. r.1 x (omega arith))

-- ---- the order of the plan

before_level : (a b : Key) → before a b ≡ true → euler_of a ≤ euler_of b
unfolding before euler_of
before_level a b h = by (ltb (euler a.g (length a.idx)) (euler b.g (length b.idx))) (eqb (euler a.g (length a.idx)) (euler b.g (length b.idx))) _ refl refl h
  where
    by : (t u w : Bool) → ltb (euler a.g (length a.idx)) (euler b.g (length b.idx)) ≡ t → eqb (euler a.g (length a.idx)) (euler b.g (length b.idx)) ≡ u → cond t true (u && w) ≡ true → euler a.g (length a.idx) ≤ euler b.g (length b.idx)
    by true u w e f h = let l = ltb-true (euler a.g (length a.idx)) (euler b.g (length b.idx)) e in omega arith
    by false true w e f h = let l = eqb-true (euler a.g (length a.idx)) (euler b.g (length b.idx)) f in omega arith
    by false false w e f h = cc

-- a key of a smaller Euler number has a lower rank
lower_rank : (T : Tensors) (X r q : ℕ) → Ascends T X → q < length (planned T X) → r < length (planned T X) → euler_of (key_at (planned T X) q) < euler_of (key_at (planned T X) r) → q < r
unfolding key_at
lower_rank T X r q a h k e = by (cases_order q r)
  where
    by : (q ≡ r) ⊎ ((q < r) ⊎ (r < q)) → q < r
    by (inl u) = absurd (omega (arith, e, ap (λ i. euler_of (get_or (planned T X) i no_key)) u))
    by (inr (inl l)) = l
    by (inr (inr l)) = absurd (omega (arith, e, before_level (get_or (planned T X) r no_key) (get_or (planned T X) q no_key) (a.all no_key r q l h)))

pub needs_fact : (T : Tensors) (X : ℕ) → ListsPlanned T X → Ascends T X → ((r : ℕ) → r < length (planned T X) → NeedsComeFirst T X (key_at (planned T X) r)) → AreNeeds T X
unfolding needed resting needs_rank named_ranks key_at below
needs_fact T X l a f = record {
  lower = λ r q h t. lower r q h (numbered (λ key. place_of key (planned T X)) (needs T (key_at (planned T X) r)) q (named r q t)) ((keep-row (needs_rank T X r) (length (planned T X))).small q t);
  all = λ r k h s. has-below (needs_rank T X r) (length (planned T X)) (place_of k (planned T X)) (l.all k ((f r h).needs k s).planned) ∙ has-map (λ key. place_of key (planned T X)) k (needs T (key_at (planned T X) r)) s;
  only = λ r q h t. only r q h (numbered (λ key. place_of key (planned T X)) (needs T (key_at (planned T X) r)) q (named r q t));
  converse = λ r q h k. has-below (λ i. needs_rank T X i q) (length (planned T X)) r h ∙ sym (has-below (needs_rank T X r) (length (planned T X)) q k);
  climbs = λ r. ((climbs_from (needs_rank T X r) 0 (length (planned T X))).0, (climbs_from (λ i. needs_rank T X i r) 0 (length (planned T X))).0);
}
  where
    named : (r q : ℕ) → has q (needed T X r) ≡ true → needs_rank T X r q ≡ true
    named r q t = sym (has-below (needs_rank T X r) (length (planned T X)) q ((keep-row (needs_rank T X r) (length (planned T X))).small q t)) ∙ t

    only : (r q : ℕ) → r < length (planned T X) → IsNumbered (λ key. place_of key (planned T X)) (needs T (key_at (planned T X) r)) q → StandsIn (key_at (planned T X) q) (needs T (key_at (planned T X) r))
    only r q h n = subst (λ k. StandsIn k (needs T (key_at (planned T X) r))) (sym (ap (key_at (planned T X)) n.number ∙ l.there n.key ((f r h).needs n.key n.stands).planned)) n.stands

    lower : (r q : ℕ) → r < length (planned T X) → IsNumbered (λ key. place_of key (planned T X)) (needs T (key_at (planned T X) r)) q → q < length (planned T X) → q < r
    lower r q h n k =
        let first = (f r h).needs n.key n.stands in
        let key : key_at (planned T X) q ≡ n.key = ap (key_at (planned T X)) n.number ∙ l.there n.key first.planned in
        lower_rank T X r q a k h (subst (λ k. euler_of k < euler_of (key_at (planned T X) r)) (sym key) first.smaller)
