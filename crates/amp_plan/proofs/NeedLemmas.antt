-- The ranks that a key's terms name, marked each once.
use Rattle.std.proofs.Common.{◌≡◌, ℕ, ◌<◌, Bool, true, false, ◌||◌, List, [], ◌∷◌, ◌++◌, length, map, get_or, refl, sym, ◌∙◌, ap, ap₂, subst, arith, cond, eqb, ◌⊎◌, inl, inr, eqb-true, eq-eqb, ne_eqb}
use Rattle.amp_plan.proofs.Words.{cases_eq, each, Key, head_or, remove, Tensors, terms, needs, StandsIn, planned, place_of, no_key, ListsPlanned, NeedsComeFirst, get_or_read, Planning, tensors_of, keys_of, rank_at, RankedTerm, ranked, ranks_of, all_ranked, after_terms, AreAllowed, NameAllowed, has, named_ranks, needs_rank, AreDistinct, Marks, marked, marked_term, with_new, with_all_new, AreNamed}
use Rattle.airy_math.specs.Terms.{Term, named}
use Rattle.airy_math.specs.Terms as math
use Rattle.airy_math.specs.Ranks.{key_at}
use Rattle.airy_math.specs.NeedsFirst.{ComesFirst}
use Rattle.amp_plan.proofs.RowLemmas.{has-append, has-one}
use Rattle.amp_plan.proofs.MarkLemmas.{marked-append, marked-nil}
use Rattle.airy_math.proofs.EachLemmas.{map-append}

-- ---- ranks of terms

ranks-ranked : (rank : Key → ℕ) (t : Term) → ranks_of (ranked rank t) ≡ map rank (named t)
unfolding ranks_of ranked named
ranks-ranked rank (math.Alone v) = refl
ranks-ranked rank (math.Once m v key) = refl
ranks-ranked rank (math.Joined h v key) = refl
ranks-ranked rank (math.Twice h v q left right) = refl

pub ranks-all_ranked : (rank : Key → ℕ) (ts : List Term) → each (all_ranked rank ts) ranks_of ≡ map rank (each ts named)
unfolding each all_ranked
ranks-all_ranked rank [] = refl
ranks-all_ranked rank (t ∷ ts) = ap₂ ◌++◌ (ranks-ranked rank t) (ranks-all_ranked rank ts) ∙ sym (map-append rank (named t) (each ts named))

-- ---- allowed ranks

pub stands-left : (k : Key) (xs ys : List Key) → StandsIn k xs → StandsIn k (xs ++ ys)
unfolding StandsIn
stands-left k [] ys h = absurd h
stands-left k (x ∷ xs) ys (inl e) = inl e
stands-left k (x ∷ xs) ys (inr h) = inr (stands-left k xs ys h)

pub stands-right : (k : Key) (xs ys : List Key) → StandsIn k ys → StandsIn k (xs ++ ys)
unfolding StandsIn
stands-right k [] ys h = h
stands-right k (x ∷ xs) ys h = inr (stands-right k xs ys h)

are_allowed : (P : ℕ → Type 0) (rank : Key → ℕ) (ks : List Key) → ((k : Key) → StandsIn k ks → P (rank k)) → AreAllowed P (map rank ks)
unfolding AreAllowed StandsIn
are_allowed P rank [] h = tt
are_allowed P rank (k ∷ ks) h = (h k (inl refl), are_allowed P rank ks (λ l s. h l (inr s)))

pub names_allowed : (P : ℕ → Type 0) (rank : Key → ℕ) (ts : List Term) → ((k : Key) → StandsIn k (each ts named) → P (rank k)) → NameAllowed P (all_ranked rank ts)
unfolding NameAllowed all_ranked each
names_allowed P rank [] h = tt
names_allowed P rank (t ∷ ts) h = (
  subst (AreAllowed P) (sym (ranks-ranked rank t)) (are_allowed P rank (named t) (λ k s. h k (stands-left k (named t) (each ts named) s))),
  names_allowed P rank ts (λ k s. h k (stands-right k (named t) (each ts named) s)),
)

-- ---- marks

pub marked-terms : (m : Marks) (ts : List RankedTerm) → after_terms marked_term m ts ≡ marked m (each ts ranks_of)
unfolding after_terms each marked_term
marked-terms m [] = sym (marked-nil m)
marked-terms m (t ∷ ts) = marked-terms (marked m (ranks_of t)) ts ∙ marked-append m (ranks_of t) (each ts ranks_of)

has-new : (q x : ℕ) (row : List ℕ) → has q (with_new row x) ≡ (has q row || eqb q x)
unfolding with_new
has-new q x row = by (has x row) refl
  where
    or_same : (b c : Bool) → (c ≡ true → b ≡ true) → b ≡ (b || c)
    or_same true c h = refl
    or_same false true h = h refl
    or_same false false h = refl

    by : (t : Bool) → has x row ≡ t → has q (cond t row (row ++ x ∷ [])) ≡ (has q row || eqb q x)
    by true e = or_same (has q row) (eqb q x) (λ s. ap (λ y. has y row) (eqb-true q x s) ∙ e)
    by false e = has-append q row (x ∷ []) ∙ ap (λ b. has q row || b) (has-one q x)

or_assoc : (a b c : Bool) → ((a || b) || c) ≡ (a || (b || c))
or_assoc true b c = refl
or_assoc false b c = refl

or_none : (a : Bool) → a ≡ (a || false)
or_none true = refl
or_none false = refl

pub has-all_new : (q : ℕ) (row xs : List ℕ) → has q (with_all_new row xs) ≡ (has q row || has q xs)
unfolding with_all_new has
has-all_new q row [] = or_none (has q row)
has-all_new q row (x ∷ xs) = has-all_new q (with_new row x) xs ∙ ap (λ b. b || has q xs) (has-new q x row) ∙ or_assoc (has q row) (eqb q x) (has q xs)

distinct-push : (xs : List ℕ) (x : ℕ) → AreDistinct xs → has x xs ≡ false → AreDistinct (xs ++ x ∷ [])
unfolding AreDistinct has
distinct-push [] x d h = (refl, tt)
distinct-push (y ∷ xs) x d h = (apart, distinct-push xs x d.1 (behind (eqb x y) h))
  where
    behind : (b : Bool) → (b || has x xs) ≡ false → has x xs ≡ false
    behind true h = cc
    behind false h = h

    other : (b : Bool) → (b || has x xs) ≡ false → b ≡ false
    other true h = cc
    other false h = refl

    apart : has y (xs ++ x ∷ []) ≡ false
    apart = has-append y xs (x ∷ []) ∙ ap₂ ◌||◌ d.0 (has-one y x ∙ ne_eqb y x (λ e. clash (eqb x y) (eq-eqb x y (sym e)) (other (eqb x y) h)))
      where
        clash : (b : Bool) → b ≡ true → b ≡ false → ⊥
        clash true u v = cc
        clash false u v = cc

distinct-new : (row : List ℕ) (x : ℕ) → AreDistinct row → AreDistinct (with_new row x)
unfolding with_new
distinct-new row x d = by (has x row) refl
  where
    by : (t : Bool) → has x row ≡ t → AreDistinct (cond t row (row ++ x ∷ []))
    by true e = d
    by false e = distinct-push row x d e

pub distinct-all_new : (row xs : List ℕ) → AreDistinct row → AreDistinct (with_all_new row xs)
unfolding with_all_new
distinct-all_new row [] d = d
distinct-all_new row (x ∷ xs) d = distinct-all_new (with_new row x) xs (distinct-new row x d)

-- ---- the needs of a rank

has-ranks : (P : ℕ → Type 0) (rank : Key → ℕ) (ks : List Key) (q : ℕ) → ((k : Key) → StandsIn k ks → P (rank k)) → has q (map rank ks) ≡ true → P q
unfolding has StandsIn
has-ranks P rank [] q h t = cc
has-ranks P rank (k ∷ ks) q h t = by (cases_eq q (rank k)) (has-ranks P rank ks q (λ l s. h l (inr s)))
  where
    behind : (b : Bool) → b ≡ false → (b || has q (map rank ks)) ≡ true → has q (map rank ks) ≡ true
    behind true e t = cc
    behind false e t = t

    by : (q ≡ rank k) ⊎ (q ≡ rank k → ⊥) → (has q (map rank ks) ≡ true → P q) → P q
    by (inl e) r = subst P (sym e) (h k (inl refl))
    by (inr d) r = r (behind (eqb q (rank k)) (ne_eqb q (rank k) d) t)

pub named_small : (T : Tensors) (X r q : ℕ) → ListsPlanned T X → NeedsComeFirst T X (key_at (planned T X) r) → needs_rank T X r q ≡ true → q < length (planned T X)
unfolding needs_rank named_ranks
named_small T X r q l f t = has-ranks (λ q. q < length (planned T X)) (λ key. place_of key (planned T X)) (needs T (key_at (planned T X) r)) q (λ k s. l.all k (f.needs k s).planned) t

-- what a marker has after the terms
pub are_named : (T : Tensors) (X r : ℕ) → ListsPlanned T X → NeedsComeFirst T X (key_at (planned T X) r) → AreNamed T X r (with_all_new [] (named_ranks T X r))
unfolding AreDistinct needs_rank has
are_named T X r l f = record {
  row = record {
    distinct = distinct-all_new [] (named_ranks T X r) tt;
    small = λ q t. named_small T X r q l f (sym (same q) ∙ t);
  };
  named = same;
}
  where
    same : (q : ℕ) → has q (with_all_new [] (named_ranks T X r)) ≡ needs_rank T X r q
    same q = has-all_new q [] (named_ranks T X r)

-- ---- the walk over the terms of a rank

pub head_read : (xs : List ℕ) → get_or xs 0 0 ≡ head_or 0 xs
unfolding head_or
head_read [] = refl
head_read (x ∷ xs) = refl

pub key_read_at : (keys all : List Key) (key : Key) (r : ℕ) → keys ≡ all → r < length all → key ≡ get_or keys r key → key ≡ key_at all r
unfolding key_at
key_read_at keys all key r e h g = get_or_read keys r key (omega (arith, ap length e)) g no_key ∙ ap (λ l. get_or l r no_key) e

-- what the key's terms name at its first index is allowed
pub walk_allowed : (p : Planning) (size : ℕ) (key : Key) (pivot : ℕ) → pivot ≡ head_or 0 key.idx → size ≡ length (keys_of p) → ListsPlanned (tensors_of p) p.bound → NeedsComeFirst (tensors_of p) p.bound key
    → NameAllowed (λ r. r < size) (all_ranked (rank_at p) (terms (tensors_of p) pivot key.g (remove pivot key.idx)))
unfolding rank_at keys_of needs
walk_allowed p size key pivot e n l f =
    subst (λ i. NameAllowed (λ r. r < size) (all_ranked (rank_at p) (terms (tensors_of p) i key.g (remove i key.idx)))) (sym e)
    (names_allowed (λ r. r < size) (rank_at p) (terms (tensors_of p) (head_or 0 key.idx) key.g (remove (head_or 0 key.idx) key.idx))
    (λ k s. subst (λ m. place_of k (planned (tensors_of p) p.bound) < m) (sym n) (l.all k (first k s).planned)))
  where
    first : (k : Key) → StandsIn k (each (terms (tensors_of p) (head_or 0 key.idx) key.g (remove (head_or 0 key.idx) key.idx)) named) → ComesFirst (tensors_of p) p.bound k key
    first k s = f.needs k s

pub collected : (p : Planning) (r : ℕ) (key : Key) (pivot : ℕ) (old new : Marks) → key ≡ key_at (keys_of p) r → pivot ≡ head_or 0 key.idx
    → new ≡ after_terms marked_term old (all_ranked (rank_at p) (terms (tensors_of p) pivot key.g (remove pivot key.idx))) → new ≡ marked old (named_ranks (tensors_of p) p.bound r)
unfolding named_ranks keys_of rank_at needs
collected p r key pivot old new k e h =
    h ∙ ap (λ i. after_terms marked_term old (all_ranked (rank_at p) (terms (tensors_of p) i key.g (remove i key.idx)))) e
    ∙ marked-terms old (all_ranked (rank_at p) (terms (tensors_of p) (head_or 0 key.idx) key.g (remove (head_or 0 key.idx) key.idx)))
    ∙ ap (marked old) (ranks-all_ranked (rank_at p) (terms (tensors_of p) (head_or 0 key.idx) key.g (remove (head_or 0 key.idx) key.idx)) ∙ ap (λ k. map (rank_at p) (needs (tensors_of p) k)) k)
