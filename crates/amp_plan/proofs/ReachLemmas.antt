-- How far the excess of a part reaches, and which parts are passed over.
use Rattle.std.proofs.Common.{◌≡◌, ℕ, zero, suc, ◌+◌, ◌-◌, ◌*◌, ◌<◌, ◌≤◌, ◌^◌, Bool, true, false, List, [], ◌∷◌, ◌++◌, length, map, Some, None, refl, sym, subst, ◌∙◌, arith, ℤ, pos, negsuc, ◌+ℤ◌, ◌-ℤ◌, cond, replicate, ◌≤ℤ◌}
use Rattle.amp_plan.proofs.Words.{unsigned_abs, AllByRecursion, ints, and_parts, false≢true, natural, Key, key_of, insert, stable, covers, live, eq_z, per_n, Split, Shape, All, Exact, AtMost, put_before, chosen_split, all_splits, looked_up, Planning, tensors_of, rank_at, RankedTerm, Twice, split_part, live_rank, for_ranks, law_excess, covers_excess, choice_part, IsShare, FitsShare, IsChosen, Share, Chosen}
use Rattle.airy_math.specs.Rational.{whole}
use Rattle.airy_math.specs.Sums.{below}
use Rattle.index_lists.specs.Measures.{excess, gain, loss}
use Rattle.index_lists.specs.Parts.{behind, listed}
use Rattle.amp_plan.specs.Shares.{can_reach}
use Rattle.index_lists.proofs.SplitLemmas.{each-none, all-weaken, all-both, all-map, all-counting}
use Rattle.index_lists.proofs.MeasureLemmas.{excess-append, excess-insert, excess-small, covers-excess, AreBytes, bytes_below}

-- A part and the rest of a list: what they have together, and how far the part's excess reaches.
pub record IsShared (c : ℤ) (xs : List ℕ) (u : Split) : Type 0 where
  pub most : excess c u.part ≤ℤ pos (gain c xs)
  pub least : pos 0 ≤ℤ (excess c u.part +ℤ pos (loss c xs))

above : (z : ℤ) → z ≤ℤ pos (natural z)
unfolding natural
above (pos n) = omega (arith, ints)
above (negsuc n) = omega (arith, ints)

pub gain-replicate : (c : ℤ) (n x : ℕ) (xs : List ℕ) → gain c (replicate n x ++ xs) ≡ n * natural (pos x -ℤ c) + gain c xs
unfolding gain
gain-replicate c zero x xs = omega arith
gain-replicate c (suc n) x xs = omega (arith, gain-replicate c n x xs)

pub loss-replicate : (c : ℤ) (n x : ℕ) (xs : List ℕ) → loss c (replicate n x ++ xs) ≡ n * natural (c -ℤ pos x) + loss c xs
unfolding loss
loss-replicate c zero x xs = omega arith
loss-replicate c (suc n) x xs = omega (arith, loss-replicate c n x xs)

most-taken : (c : ℤ) (x t n : ℕ) (ys xs : List ℕ) → t ≤ n → excess c ys ≤ℤ pos (gain c xs) → excess c (replicate t x ++ ys) ≤ℤ pos (gain c (replicate n x ++ xs))
unfolding excess gain
most-taken c x zero zero ys xs l h = h
most-taken c x zero (suc n) ys xs l h = let r = most-taken c x zero n ys xs (omega arith) h in omega (arith, ints, r)
most-taken c x (suc t) zero ys xs l h = absurd (omega arith)
most-taken c x (suc t) (suc n) ys xs l h = let r = most-taken c x t n ys xs (omega arith) h in omega (arith, ints, r, above (pos x -ℤ c))

least-taken : (c : ℤ) (x t n : ℕ) (ys xs : List ℕ) → t ≤ n → pos 0 ≤ℤ (excess c ys +ℤ pos (loss c xs)) → pos 0 ≤ℤ (excess c (replicate t x ++ ys) +ℤ pos (loss c (replicate n x ++ xs)))
unfolding excess loss
least-taken c x zero zero ys xs l h = h
least-taken c x zero (suc n) ys xs l h = let r = least-taken c x zero n ys xs (omega arith) h in omega (arith, ints, r)
least-taken c x (suc t) zero ys xs l h = absurd (omega arith)
least-taken c x (suc t) (suc n) ys xs l h = let r = least-taken c x t n ys xs (omega arith) h in omega (arith, ints, r, above (c -ℤ pos x))

pub shared : (c : ℤ) (rs : List (ℕ × ℕ)) → AllByRecursion (IsShared c (listed rs)) (all_splits rs)
unfolding all_splits below listed chosen_split excess gain loss put_before
shared c [] = (record { most = omega (arith, ints); least = omega (arith, ints) }, tt)
shared c (r ∷ rs) = all-counting (IsShared c (listed (r ∷ rs))) (λ t. map (put_before r.0 r.1 t) (all_splits rs)) 0 (suc r.1) (λ t l.
    all-map (IsShared c (listed (r ∷ rs))) (put_before r.0 r.1 t) (all_splits rs)
    (all-weaken (IsShared c (listed rs)) (λ u. IsShared c (listed (r ∷ rs)) (put_before r.0 r.1 t u)) (all_splits rs) (λ u i. record {
      most = most-taken c r.0 t r.1 u.part (listed rs) (omega arith) i.most;
      least = least-taken c r.0 t r.1 u.part (listed rs) (omega arith) i.least;
    }) (shared c rs)))

-- ---- what is passed over

-- a key that the shape covers has at most the law's excess
covered-most : (s : Shape) (g : ℕ) (e : ℤ) → unsigned_abs e ≤ 2 ^ 20 → covers_excess s g e ≡ true → e ≤ℤ law_excess s g
unfolding covers_excess law_excess eq_z
covered-most All g e l h = omega (arith, ints, l)
covered-most (Exact w) g e l h = grind (arith, ints)
covered-most (AtMost w) g e l h = grind (arith, ints)

-- a key of a live product has at most the law's excess
pub live-excess : (p : Planning) (c : ℤ) (g x : ℕ) (xs : List ℕ) → c ≡ per_n p.tensors.shape → unsigned_abs c ≤ 99 → x < 256 → AreBytes xs → length xs ≤ 25 → live (tensors_of p).shape (key_of g (insert x xs)) ≡ true
    → ((pos x -ℤ c) +ℤ excess c xs) ≤ℤ law_excess p.tensors.shape g
unfolding tensors_of looked_up live key_of
live-excess p c g x xs e small byte bytes few h =
    let covered : covers p.tensors.shape (key_of g (insert x xs)) ≡ true = (and_parts (stable (key_of g (insert x xs))) (covers p.tensors.shape (key_of g (insert x xs))) h).1 in
    let sum : excess (per_n p.tensors.shape) (insert x xs) ≡ (pos x -ℤ c) +ℤ excess c xs = subst (λ z. excess z (insert x xs) ≡ (pos x -ℤ c) +ℤ excess c xs) e (excess-insert c x xs) in
    let bound : unsigned_abs ((pos x -ℤ c) +ℤ excess c xs) ≤ 2 ^ 20 = omega (arith, ints, small, byte, excess-small c xs small bytes, few) in
    covered-most p.tensors.shape g ((pos x -ℤ c) +ℤ excess c xs) bound (subst (λ z. covers_excess p.tensors.shape g z ≡ true) sum (sym (covers-excess p.tensors.shape (key_of g (insert x xs))) ∙ covered))

pub no_ranks : (p : Planning) (L R : Key) (f : ℕ → ℕ → RankedTerm) → (live (tensors_of p).shape L ≡ true → live (tensors_of p).shape R ≡ true → ⊥) → for_ranks (live_rank p L) (live_rank p R) f ≡ []
unfolding for_ranks live_rank
no_ranks p L R f n = by (live (tensors_of p).shape L) (live (tensors_of p).shape R) n
  where
    by : (s t : Bool) → (s ≡ true → t ≡ true → ⊥) → for_ranks (cond s (Some (rank_at p L)) None) (cond t (Some (rank_at p R)) None) f ≡ []
    by true true n = absurd (n refl refl)
    by true false n = refl
    by false t n = refl

-- a product is live only where the part's excess lies between the share's two numbers
pub live_within : (p : Planning) (h : Share) (t : Split) → IsShare p h → FitsShare p h t → live (tensors_of p).shape (key_of h.k (insert h.pair.now.a t.part)) ≡ true → live (tensors_of p).shape (key_of (h.genus - h.k) (insert h.pair.now.b t.rest)) ≡ true
    → (h.low ≤ℤ excess h.per_n t.part) × (excess h.per_n t.part ≤ℤ h.high)
unfolding excess tensors_of looked_up
live_within p h t is f left right =
    let e : excess h.per_n (h.pair.now.a ∷ []) ≡ h.left.excess = sym is.left.excess in
    let d : excess h.per_n (h.pair.now.b ∷ (t.part ++ t.rest)) ≡ h.right.excess = sym f.right.excess in
    let sum = excess-append h.per_n t.part t.rest in
    let part = f.is_part.part in
    let rest = f.is_part.rest in
    let l = live-excess p h.per_n h.k h.pair.now.a t.part is.law is.small_law (omega (arith, is.a, is.dim)) (bytes_below 0 p.tensors.dim t.part (omega (arith, is.dim)) part.sorted) (omega (arith, part.level, is.bound)) left in
    let r = live-excess p h.per_n (h.genus - h.k) h.pair.now.b t.rest is.law is.small_law (omega (arith, is.b, is.dim)) (bytes_below 0 p.tensors.dim t.rest (omega (arith, is.dim)) rest.sorted) (omega (arith, rest.level, is.bound)) right in
    (omega (arith, ints, is.low, r, d, sum), omega (arith, ints, is.high, l, e))

reached : (h : Share) (c : Chosen) (s e : ℤ) → c.part.excess ≡ s → h.low ≤ℤ (s +ℤ e) → (s +ℤ e) ≤ℤ h.high → e ≤ℤ pos c.gain → pos 0 ≤ℤ (e +ℤ pos c.loss) → can_reach h c ≡ true
unfolding can_reach
reached h c s e i low high most least = grind (arith, ints)

excess-behind : (s u : Split) (c : ℤ) → excess c (behind s u).part ≡ excess c s.part +ℤ excess c u.part
unfolding behind
excess-behind s u c = excess-append c s.part u.part

none_live : (p : Planning) (h : Share) (left : List (ℕ × ℕ)) (c : Chosen) (s u : Split) → IsShare p h → IsChosen p h left c s → can_reach h c ≡ false → FitsShare p h (behind s u) → IsShared h.per_n (listed left) u
    → split_part p h.genus h.pair.now.a h.pair.now.b h.pair.now.weight h.k (behind s u) ≡ []
unfolding split_part
none_live p h left c s u is k e f i =
    let t = behind s u in
    no_ranks p (key_of h.k (insert h.pair.now.a t.part)) (key_of (h.genus - h.k) (insert h.pair.now.b t.rest)) (Twice h.pair.now.weight (whole t.ways)) (λ a b.
    let w = live_within p h t is f a b in
    false≢true (sym e ∙ reached h c (excess h.per_n s.part) (excess h.per_n u.part) k.part.excess (subst (λ z. h.low ≤ℤ z) (excess-behind s u h.per_n) w.0) (subst (λ z. z ≤ℤ h.high) (excess-behind s u h.per_n) w.1)
    (subst (λ n. excess h.per_n u.part ≤ℤ pos n) (sym k.gain) i.most) (subst (λ n. pos 0 ≤ℤ (excess h.per_n u.part +ℤ pos n)) (sym k.loss) i.least)))

-- where the part's excess can't come between the share's two numbers, there is no product
pub passed_over : {p : Planning} {h : Share} {left : List (ℕ × ℕ)} {c : Chosen} {s : Split} → IsShare p h → IsChosen p h left c s → can_reach h c ≡ false → choice_part p h s left ≡ []
unfolding choice_part
passed_over {p} {h} {left} {c} {s} is k e =
    each-none (λ u. split_part p h.genus h.pair.now.a h.pair.now.b h.pair.now.weight h.k (behind s u)) (all_splits left)
    (all-both (λ u. FitsShare p h (behind s u)) (IsShared h.per_n (listed left)) (λ u. split_part p h.genus h.pair.now.a h.pair.now.b h.pair.now.weight h.k (behind s u) ≡ []) (all_splits left)
    (λ u f i. none_live p h left c s u is k e f i) k.fits (shared h.per_n left))
