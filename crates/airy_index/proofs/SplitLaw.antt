-- The splits of a list: their parts, and how the numbers of ways add up.
use Rattle.std.proofs.Common.{◌≡◌, ℕ, zero, suc, ◌+◌, ◌-◌, ◌*◌, ◌^◌, ◌<◌, ◌≤◌, Bool, true, false, List, [], ◌∷◌, ◌++◌, map, refl, sym, ap, ap₂, subst, ◌∙◌, arith, inl, inr, nat_eq, ◌⊎◌, ◌&&◌, pow-add, eq-eqb, eqb-true, ne_eqb, replicate}
use Rattle.std.specs.List.{AllByRecursion}
use Rattle.airy_index.proofs.Words.{map-append, pow-suc, cases_lt, total, IsSortedFrom, Split, runs, into_runs, below, binomial, count_from, each, binomial-over, whole_length, put_before, chosen_split, all_splits}
use Rattle.std.proofs.Math.Nat.{add-mul}
use Rattle.std.proofs.lemmas.Bool.{false≢true}
use Rattle.airy_math.specs.Keys.{times, more, same_list}
use Rattle.airy_math.proofs.SumLemmas.{Each, Each-each, Each-map, Each-below, Each-weaken}
use Rattle.airy_math.proofs.MeasureLemmas.{measure, measure-length, measure-total, measure-replicate}
use Rattle.airy_index.specs.SplitLaw.{IsSplitOf, SplitsLaw, times_part}
use Rattle.airy_index.proofs.ChoiceLemmas.{splits-all, below_other}
use Rattle.airy_index.proofs.SortedLemmas.{sorted-weaken}
use Rattle.airy_index.proofs.RunLemmas.{merged, merged_if, into_runs-merged, whole_length-runs}

-- ---- the numbers of ways

total-append : (xs ys : List ℕ) → total (xs ++ ys) ≡ total xs + total ys
unfolding total
total-append [] ys = omega arith
total-append (x ∷ xs) ys = omega (arith, total-append xs ys)

-- a row of binomials, from k on
row : ℕ → ℕ → ℕ → ℕ
row n k m = total (map (binomial n) (count_from k m))

row-next : (n k m : ℕ) → row (suc n) (suc k) m ≡ row n k m + row n (suc k) m
unfolding row total count_from binomial
row-next n k zero = refl
row-next n k (suc m) = omega (arith, row-next n (suc k) m)

row-push : (n k m : ℕ) → row n k (suc m) ≡ row n k m + binomial n (k + m)
unfolding row total count_from
row-push n k zero =
    let here : k ≡ k + 0 = omega arith in
    omega (arith, ap (binomial n) here)
row-push n k (suc m) =
    let here : suc k + m ≡ k + suc m = omega arith in
    omega (arith, row-push n (suc k) m, ap (binomial n) here)

row-front : (n m : ℕ) → row n 0 (suc m) ≡ 1 + row n 1 m
unfolding row total count_from binomial
row-front n m = refl

row_zero : row 0 0 1 ≡ 1
unfolding row total count_from binomial
row_zero = refl

-- the binomials of a row add up to a power of 2
row-all : (n : ℕ) → row n 0 (suc n) ≡ 2 ^ n
unfolding binomial
row-all zero = row_zero
row-all (suc n) =
    let past : 1 + n ≡ suc n = omega arith in
    omega (arith, ap (binomial n) past, row-front (suc n) (suc n), row-next n 0 (suc n), row-front n n, row-push n 1 n, binomial-over n (suc n) (omega arith), row-all n, pow-suc 2 n)

-- ---- what stands in the parts

-- a number for each index, added up over the runs
pub weighted : (ℕ → ℕ) → List (ℕ × ℕ) → ℕ
weighted w [] = 0
weighted w (p ∷ ps) = p.1 * w p.0 + weighted w ps

weighted-merged : (w : ℕ → ℕ) (v c : ℕ) (rs : List (ℕ × ℕ)) → weighted w (merged v c rs) ≡ c * w v + weighted w rs
unfolding weighted
weighted-merged w v c [] = refl
weighted-merged w v c (r ∷ rs) = by (nat_eq v r.0) refl
  where
    by : (t : Bool) → nat_eq v r.0 ≡ t → weighted w (merged_if t v c r rs) ≡ c * w v + (r.1 * w r.0 + weighted w rs)
    by true e =
        let same : v ≡ r.0 = grind arith in
        omega (arith, ap (λ n. r.1 * w n) same)
    by false e = refl

weighted-runs : (w : ℕ → ℕ) (xs : List ℕ) → weighted w (runs xs) ≡ measure w xs
unfolding weighted runs measure
weighted-runs w [] = refl
weighted-runs w (x ∷ xs) = omega (arith, ap (weighted w) (into_runs-merged x (runs xs)), weighted-merged w x 1 (runs xs), weighted-runs w xs)

measure-times : (a : ℕ) (xs : List ℕ) → measure (λ b. more (nat_eq a b) 0) xs ≡ times a xs
unfolding measure times
measure-times a [] = refl
measure-times a (x ∷ xs) = by (nat_eq a x) (measure-times a xs)
  where
    by : (t : Bool) → measure (λ b. more (nat_eq a b) 0) xs ≡ times a xs → more t 0 + measure (λ b. more (nat_eq a b) 0) xs ≡ more t (times a xs)
    by true h = omega (arith, h)
    by false h = omega (arith, h)

-- both parts together have what the runs have
abbrev Together : List (ℕ × ℕ) → Split → Type 0
Together ps s = (w : ℕ → ℕ) → measure w s.part + measure w s.rest ≡ weighted w ps

step : (p : ℕ × ℕ) (ps : List (ℕ × ℕ)) (t : ℕ) → t < suc p.1 → (s : Split) (w : ℕ → ℕ) → measure w s.part + measure w s.rest ≡ weighted w ps
    → measure w (put_before p.0 p.1 t s).part + measure w (put_before p.0 p.1 t s).rest ≡ p.1 * w p.0 + weighted w ps
unfolding put_before
step p ps t h s w e =
    let split : t * w p.0 + (p.1 - t) * w p.0 ≡ p.1 * w p.0 = sym (add-mul t (p.1 - t) (w p.0)) ∙ ap (λ n. n * w p.0) (let n : t + (p.1 - t) ≡ p.1 = omega arith in n) in
    omega (arith, e, split, measure-replicate w t p.0 s.part, measure-replicate w (p.1 - t) p.0 s.rest)

together : (ps : List (ℕ × ℕ)) → Each (Together ps) (all_splits ps)
unfolding all_splits chosen_split weighted measure
together [] = (λ w. refl, tt)
together (p ∷ ps) =
    Each-each (Together (p ∷ ps)) (λ t. map (put_before p.0 p.1 t) (all_splits ps)) (below (suc p.1)) (Each-below _ (suc p.1) (λ t h.
    Each-map (Together (p ∷ ps)) (put_before p.0 p.1 t) (all_splits ps) (Each-weaken (Together ps) (λ s. Together (p ∷ ps) (put_before p.0 p.1 t s)) (all_splits ps) (λ s e w. step p ps t h s w (e w)) (together ps))))

-- ---- the order of the parts

-- the indices of the runs ascend, each at least k and below m
abbrev pub RunsFrom : ℕ → ℕ → List (ℕ × ℕ) → Type 0
RunsFrom k m [] = Unit
RunsFrom k m (p ∷ ps) = (k ≤ p.0) × (p.0 < m) × RunsFrom (suc p.0) m ps

from_into : (k m x : ℕ) (rs : List (ℕ × ℕ)) → k ≤ x → x < m → RunsFrom x m rs → RunsFrom k m (into_runs x rs)
unfolding into_runs
from_into k m x [] l h r = (l, h, tt)
from_into k m x (q ∷ rs) l h r = by (nat_eq x q.0) refl
  where
    by : (t : Bool) → nat_eq x q.0 ≡ t → RunsFrom k m (elim t [ true ↦ (x, suc q.1) ∷ rs | false ↦ (x, 1) ∷ q ∷ rs ])
    by true e = let same : q.0 ≡ x = grind arith in (l, h, subst (λ y. RunsFrom (suc y) m rs) same r.2)
    by false e = let behind : suc x ≤ q.0 = below_other x q.0 r.0 (λ s. false≢true (sym e ∙ eq-eqb x q.0 s)) in (l, h, (behind, r.1, r.2))

runs_from : (k m : ℕ) (xs : List ℕ) → IsSortedFrom k m xs → RunsFrom k m (runs xs)
unfolding IsSortedFrom runs
runs_from k m [] h = tt
runs_from k m (x ∷ xs) h = from_into k m x (runs xs) h.0 h.1 (runs_from x m xs h.2)

sorted-replicate : (t k v m : ℕ) (xs : List ℕ) → k ≤ v → v < m → IsSortedFrom (suc v) m xs → IsSortedFrom k m (replicate t v ++ xs)
unfolding IsSortedFrom
sorted-replicate zero k v m xs l h s = sorted-weaken k (suc v) m xs (omega arith) s
sorted-replicate (suc t) k v m xs l h s = (l, h, sorted-replicate t v v m xs (omega arith) h s)

-- both parts are in order
abbrev pub Sorted : ℕ → ℕ → Split → Type 0
Sorted k m s = IsSortedFrom k m s.part × IsSortedFrom k m s.rest

pub sorted_parts : (k m : ℕ) (ps : List (ℕ × ℕ)) → RunsFrom k m ps → Each (Sorted k m) (all_splits ps)
unfolding all_splits chosen_split put_before IsSortedFrom
sorted_parts k m [] h = ((tt, tt), tt)
sorted_parts k m (p ∷ ps) h =
    Each-each (Sorted k m) (λ t. map (put_before p.0 p.1 t) (all_splits ps)) (below (suc p.1)) (Each-below _ (suc p.1) (λ t l.
    Each-map (Sorted k m) (put_before p.0 p.1 t) (all_splits ps) (Each-weaken (Sorted (suc p.0) m) (λ s. Sorted k m (put_before p.0 p.1 t s)) (all_splits ps) (λ s e.
    (sorted-replicate t k p.0 m s.part h.0 h.1 e.0, sorted-replicate (p.1 - t) k p.0 m s.rest h.0 h.1 e.1)) (sorted_parts (suc p.0) m ps h.2))))

-- ---- each sub-list is the part of one split

-- an index below all runs has no part in them
weighted-below : (a k m : ℕ) (ps : List (ℕ × ℕ)) → RunsFrom k m ps → a < k → weighted (λ b. more (nat_eq a b) 0) ps ≡ 0
unfolding weighted
weighted-below a k m [] r h = refl
weighted-below a k m (p ∷ ps) r h =
    let other : nat_eq a p.0 ≡ false = ne_eqb a p.0 (λ e. omega (arith, r.0)) in
    omega (arith, ap (λ t. p.1 * more t 0) other, weighted-below a (suc p.0) m ps r.2 (omega (arith, r.0)))

times-below : (a k m : ℕ) (ys : List ℕ) → IsSortedFrom k m ys → a < k → times a ys ≡ 0
unfolding times IsSortedFrom
times-below a k m [] s h = refl
times-below a k m (y ∷ ys) s h =
    let other : nat_eq a y ≡ false = ne_eqb a y (λ e. omega (arith, s.0)) in
    ap (λ t. more t (times a ys)) other ∙ times-below a y m ys s.2 (omega (arith, s.0))

pub times-first : (y : ℕ) (ys : List ℕ) → 0 < times y (y ∷ ys)
unfolding times
times-first y ys = rw (eq-eqb y y refl) (omega arith)

-- copies of v in front of a list
times-replicate : (a v t : ℕ) (zs : List ℕ) → times a (replicate t v ++ zs) ≡ t * more (nat_eq a v) 0 + times a zs
unfolding times
times-replicate a v zero zs = omega arith
times-replicate a v (suc t) zs = by (nat_eq a v) (times-replicate a v t zs)
  where
    by : (s : Bool) → times a (replicate t v ++ zs) ≡ t * more s 0 + times a zs → more s (times a (replicate t v ++ zs)) ≡ suc t * more s 0 + times a zs
    by true e = omega (arith, e)
    by false e = omega (arith, e)

-- a list in order begins with its copies of v, where v is the least that it may have
record Front (v m : ℕ) (ys : List ℕ) : Type 0 where
  t : ℕ
  zs : List ℕ
  whole : ys ≡ replicate t v ++ zs
  behind : IsSortedFrom (suc v) m zs

front : (v m : ℕ) (ys : List ℕ) → IsSortedFrom v m ys → Front v m ys
unfolding IsSortedFrom
front v m [] s = record { t = 0; zs = []; whole = refl; behind = tt }
front v m (y ∷ ys) s = by (nat_eq v y) refl (front v m ys)
  where
    by : (b : Bool) → nat_eq v y ≡ b → (IsSortedFrom v m ys → Front v m ys) → Front v m (y ∷ ys)
    by true e f =
        let same : y ≡ v = grind arith in
        let g = f (subst (λ n. IsSortedFrom n m ys) same s.2) in
        record { t = suc g.t; zs = g.zs; whole = ap₂ ◌∷◌ same g.whole; behind = g.behind }
    by false e f =
        let above : suc v ≤ y = below_other v y s.0 (λ p. false≢true (sym e ∙ eq-eqb v y p)) in
        record { t = 0; zs = y ∷ ys; whole = refl; behind = (above, s.1, s.2) }

suc_eq : (a b : ℕ) → nat_eq (suc a) (suc b) ≡ nat_eq a b
suc_eq a b = by (nat_eq a b) refl
  where
    by : (t : Bool) → nat_eq a b ≡ t → nat_eq (suc a) (suc b) ≡ t
    by true e = eq-eqb (suc a) (suc b) (ap suc (eqb-true a b e))
    by false e = ne_eqb (suc a) (suc b) (λ s. false≢true (sym e ∙ eq-eqb a b (omega (arith, s))))

-- lists that begin with copies of v and go on above v are equal where the copies and the rests are
same_fronts : (v m a b : ℕ) (xs ys : List ℕ) → IsSortedFrom (suc v) m xs → IsSortedFrom (suc v) m ys → same_list (replicate a v ++ xs) (replicate b v ++ ys) ≡ (nat_eq a b && same_list xs ys)
unfolding same_list IsSortedFrom
same_fronts v m zero zero xs ys h k = refl
same_fronts v m zero (suc b) [] ys h k = let none : nat_eq 0 (suc b) ≡ false = ne_eqb 0 (suc b) (λ e. omega arith) in rw none refl
same_fronts v m zero (suc b) (x ∷ xs) ys h k =
    let none : nat_eq 0 (suc b) ≡ false = ne_eqb 0 (suc b) (λ e. omega arith) in
    let other : nat_eq x v ≡ false = ne_eqb x v (λ e. omega (arith, h.0)) in
    rw (none, other) refl
same_fronts v m (suc a) zero xs [] h k = let none : nat_eq (suc a) 0 ≡ false = ne_eqb (suc a) 0 (λ e. omega arith) in rw none refl
same_fronts v m (suc a) zero xs (y ∷ ys) h k =
    let none : nat_eq (suc a) 0 ≡ false = ne_eqb (suc a) 0 (λ e. omega arith) in
    let other : nat_eq v y ≡ false = ne_eqb v y (λ e. omega (arith, k.0)) in
    rw (none, other) refl
same_fronts v m (suc a) (suc b) xs ys h k =
    let same : nat_eq v v ≡ true = eq-eqb v v refl in
    rw (same, suc_eq a b) (same_fronts v m a b xs ys h k)

times_part-append : (ys : List ℕ) (ss rs : List Split) → times_part ys (ss ++ rs) ≡ times_part ys ss + times_part ys rs
unfolding times_part
times_part-append ys [] rs = omega arith
times_part-append ys (s ∷ ss) rs = by (same_list s.part ys) (times_part-append ys ss rs)
  where
    by : (t : Bool) → times_part ys (ss ++ rs) ≡ times_part ys ss + times_part ys rs → more t (times_part ys (ss ++ rs)) ≡ more t (times_part ys ss) + times_part ys rs
    by true e = omega (arith, e)
    by false e = e

module _ (v m x t : ℕ) (zs : List ℕ) (behind : IsSortedFrom (suc v) m zs) (ss : List Split) where
  -- with as many copies
  times_part-same : (a : ℕ) → a ≡ t → (rs : List Split) → Each (Sorted (suc v) m) rs → times_part (replicate t v ++ zs) (map (put_before v x a) rs) ≡ times_part zs rs
  unfolding times_part put_before
  times_part-same a e [] h = refl
  times_part-same a e (s ∷ rs) h =
      let same : nat_eq a t ≡ true = eq-eqb a t e in
      let first : same_list (replicate a v ++ s.part) (replicate t v ++ zs) ≡ same_list s.part zs = same_fronts v m a t s.part zs h.0.0 behind ∙ ap (λ b. b && same_list s.part zs) same in
      ap₂ more first (times_part-same a e rs h.1)

  -- with another number of copies
  times_part-other : (a : ℕ) → (a ≡ t → ⊥) → (rs : List Split) → Each (Sorted (suc v) m) rs → times_part (replicate t v ++ zs) (map (put_before v x a) rs) ≡ 0
  unfolding times_part put_before
  times_part-other a n [] h = refl
  times_part-other a n (s ∷ rs) h =
      let other : nat_eq a t ≡ false = ne_eqb a t n in
      let first : same_list (replicate a v ++ s.part) (replicate t v ++ zs) ≡ false = same_fronts v m a t s.part zs h.0.0 behind ∙ ap (λ b. b && same_list s.part zs) other in
      ap₂ more first (times_part-other a n rs h.1)

  -- no number of copies from k on is t
  times_part-past : (k n : ℕ) → t < k → Each (Sorted (suc v) m) ss → times_part (replicate t v ++ zs) (each (count_from k n) (λ a. map (put_before v x a) ss)) ≡ 0
  unfolding count_from each times_part
  times_part-past k zero l h = refl
  times_part-past k (suc n) l h =
      times_part-append (replicate t v ++ zs) (map (put_before v x k) ss) (each (count_from (suc k) n) (λ a. map (put_before v x a) ss))
      ∙ ap₂ ◌+◌ (times_part-other k (λ e. omega arith) ss h) (times_part-past (suc k) n (omega arith) h)

  -- one number of copies is t
  times_part-found : (k n : ℕ) → k ≤ t → t < k + n → Each (Sorted (suc v) m) ss → times_part (replicate t v ++ zs) (each (count_from k n) (λ a. map (put_before v x a) ss)) ≡ times_part zs ss
  unfolding count_from each times_part
  times_part-found k zero l u h = absurd (omega arith)
  times_part-found k (suc n) l u h =
      times_part-append (replicate t v ++ zs) (map (put_before v x k) ss) (each (count_from (suc k) n) (λ a. map (put_before v x a) ss))
      ∙ by (cases_lt k t) (λ l. times_part-found (suc k) n l (omega arith) h)
    where
      by : (k < t) ⊎ (t ≤ k) → (suc k ≤ t → times_part (replicate t v ++ zs) (each (count_from (suc k) n) (λ a. map (put_before v x a) ss)) ≡ times_part zs ss)
          → times_part (replicate t v ++ zs) (map (put_before v x k) ss) + times_part (replicate t v ++ zs) (each (count_from (suc k) n) (λ a. map (put_before v x a) ss)) ≡ times_part zs ss
      by (inl l) f = omega (arith, times_part-other k (λ e. omega arith) ss h, f l)
      by (inr g) f = omega (arith, times_part-same k (omega arith) ss h, times_part-past (suc k) n (omega arith) h)

-- no index of the list is below the first run
raised : (k m : ℕ) (p : ℕ × ℕ) (ps : List (ℕ × ℕ)) (ys : List ℕ) → RunsFrom k m (p ∷ ps) → IsSortedFrom k m ys → ((a : ℕ) → times a ys ≤ weighted (λ b. more (nat_eq a b) 0) (p ∷ ps)) → IsSortedFrom p.0 m ys
unfolding IsSortedFrom
raised k m p ps [] r s few = tt
raised k m p ps (y ∷ ys) r s few = (by (cases_lt y p.0), s.1, s.2)
  where
    by : (y < p.0) ⊎ (p.0 ≤ y) → p.0 ≤ y
    by (inl l) =
        let from : p.0 ≤ p.0 = omega arith in
        absurd (omega (arith, few y, times-first y ys, weighted-below y p.0 m (p ∷ ps) (from, r.1, r.2) l))
    by (inr g) = g

-- what is left of a list without its copies of the first index stands no more often than the runs left have it
fewer : (v x m t : ℕ) (ps : List (ℕ × ℕ)) (zs : List ℕ) → RunsFrom (suc v) m ps → IsSortedFrom (suc v) m zs → ((a : ℕ) → times a (replicate t v ++ zs) ≤ weighted (λ b. more (nat_eq a b) 0) ((v, x) ∷ ps))
    → (t ≤ x) × ((a : ℕ) → times a zs ≤ weighted (λ b. more (nat_eq a b) 0) ps)
unfolding weighted
fewer v x m t ps zs r s few = (at_first, λ a. by a (nat_eq a v) refl (few a))
  where
    at_first : t ≤ x
    at_first =
        let same : nat_eq v v ≡ true = eq-eqb v v refl in
        omega (arith, few v, times-replicate v v t zs, ap (λ b. t * more b 0) same, ap (λ b. x * more b 0) same, weighted-below v (suc v) m ps r (omega arith))

    by : (a : ℕ) (b : Bool) → nat_eq a v ≡ b → times a (replicate t v ++ zs) ≤ x * more (nat_eq a v) 0 + weighted (λ b. more (nat_eq a b) 0) ps → times a zs ≤ weighted (λ b. more (nat_eq a b) 0) ps
    by a true e h = let l : a < suc v = omega (arith, eqb-true a v e) in omega (arith, times-below a (suc v) m zs s l)
    by a false e h = omega (arith, h, times-replicate a v t zs, ap (λ b. t * more b 0) e, ap (λ b. x * more b 0) e)

-- A list in order that has no index more often than the runs is the part of one split.
once_all : (k m : ℕ) (ps : List (ℕ × ℕ)) (ys : List ℕ) → RunsFrom k m ps → IsSortedFrom k m ys → ((a : ℕ) → times a ys ≤ weighted (λ b. more (nat_eq a b) 0) ps) → times_part ys (all_splits ps) ≡ 1
unfolding all_splits chosen_split times_part weighted same_list below
once_all k m [] [] r s few = refl
once_all k m [] (y ∷ ys) r s few = absurd (omega (arith, few y, times-first y ys))
once_all k m (p ∷ ps) ys r s few =
    let f = front p.0 m ys (raised k m p ps ys r s few) in
    let least = fewer p.0 p.1 m f.t ps f.zs r.2 f.behind (λ a. subst (λ l. times a l ≤ weighted (λ b. more (nat_eq a b) 0) (p ∷ ps)) f.whole (few a)) in
    ap (λ l. times_part l (each (below (suc p.1)) (λ t. map (put_before p.0 p.1 t) (all_splits ps)))) f.whole
    ∙ times_part-found p.0 m p.1 f.t f.zs f.behind (all_splits ps) 0 (suc p.1) (omega arith) (omega (arith, least.0)) (sorted_parts (suc p.0) m ps r.2)
    ∙ once_all (suc p.0) m ps f.zs r.2 f.behind least.1

-- ---- the law

each_split : (xs : List ℕ) (ss : List Split) → Each (Together (runs xs)) ss → Each (Sorted 0 256) ss → AllByRecursion (IsSplitOf xs) ss
each_split xs [] h k = tt
each_split xs (s ∷ ss) h k = (
  record {
    times = λ a. omega (arith, h.0 (λ b. more (nat_eq a b) 0), measure-times a s.part, measure-times a s.rest, weighted-runs (λ b. more (nat_eq a b) 0) xs, measure-times a xs);
    lengths = omega (arith, h.0 (λ b. 1), measure-length s.part, measure-length s.rest, weighted-runs (λ b. 1) xs, measure-length xs);
    totals = omega (arith, h.0 (λ b. b), measure-total s.part, measure-total s.rest, weighted-runs (λ b. b) xs, measure-total xs);
    part_sorted = k.0.0;
    rest_sorted = k.0.1;
  },
  each_split xs ss h.1 k.1,
)

ways-map : (v x t : ℕ) (ss : List Split) → total (map (λ s. s.ways) (map (put_before v x t) ss)) ≡ binomial x t * total (map (λ s. s.ways) ss)
unfolding total put_before
ways-map v x t [] = omega arith
ways-map v x t (s ∷ ss) = omega (arith, ways-map v x t ss)

ways-each : (v x : ℕ) (ts : List ℕ) (ss : List Split) → total (map (λ s. s.ways) (each ts (λ t. map (put_before v x t) ss))) ≡ total (map (binomial x) ts) * total (map (λ s. s.ways) ss)
unfolding total each
ways-each v x [] ss = omega arith
ways-each v x (t ∷ ts) ss =
    ap total (map-append (λ s. s.ways) (map (put_before v x t) ss) (each ts (λ t. map (put_before v x t) ss)))
    ∙ total-append (map (λ s. s.ways) (map (put_before v x t) ss)) (map (λ s. s.ways) (each ts (λ t. map (put_before v x t) ss)))
    ∙ omega (arith, ways-map v x t ss, ways-each v x ts ss)

-- the numbers of ways of all splits add up to a power of 2
ways-all : (ps : List (ℕ × ℕ)) → total (map (λ s. s.ways) (all_splits ps)) ≡ 2 ^ whole_length ps
unfolding all_splits chosen_split whole_length total below row
ways-all [] = refl
ways-all (p ∷ ps) = ways-each p.0 p.1 (below (suc p.1)) (all_splits ps) ∙ ap₂ ◌*◌ (row-all p.1) (ways-all ps) ∙ sym (pow-add 2 p.1 (total (map (λ p. p.1) ps)))

pub splits_law : SplitsLaw
splits_law = record {
  each = λ xs h. rw (splits-all xs) (each_split xs (all_splits (runs xs)) (together (runs xs)) (sorted_parts 0 256 (runs xs) (runs_from 0 256 xs h)));
  once = λ xs ys h k few. ap (times_part ys) (splits-all xs) ∙ once_all 0 256 (runs xs) ys (runs_from 0 256 xs h) k (λ a. omega (arith, few a, weighted-runs (λ b. more (nat_eq a b) 0) xs, measure-times a xs));
  ways = λ xs. ap (λ ss. total (map (λ s. s.ways) ss)) (splits-all xs) ∙ ways-all (runs xs) ∙ ap (λ n. 2 ^ n) (whole_length-runs xs);
}
