-- The rank of a live key, found by making the key and looking it up.
use Rattle.std.proofs.Common.{◌≡◌, ℕ, suc, zero, ◌-◌, ◌<◌, ◌≤◌, Bool, true, false, List, [], ◌∷◌, ◌++◌, length, map, get_or, refl, sym, ap, subst, ◌∙◌, arith, Option, Some, None, Result, Ok, Err, cond, nat_lt, nat_eq, lt-ltb, le-ltb}
use Rattle.amp_plan.proofs.Words.{and_from, Key, key_of, euler, stable, insert, remove, ordered, ordered_with, IsSortedFrom, covers, live, AllBelow, ascending, Each-keep, KeyErr, NoPlace, TooMany, Unstable, ℚ, each, Tensors, row_b, row_c, Each, Each-map, Each-each, Each-below, looked_up, Planning, tensors_of, rank_at, are_below, place_in, At, Zero, HasRoom, live_rank, length-insert, length-ordered, ordered-sorted}
use Rattle.airy_math.proofs.MoveLemmas.{ascending-insert, ascending-remove, all_below-insert, all_below-remove}
use Rattle.airy_math.proofs.PlannedLaw.{small}
use Rattle.airy_math.specs.Sums.{below}
use Rattle.airy_math.proofs.PlanLemmas.{sorted_small}

-- ---- lists

ordered_with-push : (done xs : List ℕ) (x : ℕ) → ordered_with done (xs ++ x ∷ []) ≡ insert x (ordered_with done xs)
unfolding ordered_with
ordered_with-push done [] x = refl
ordered_with-push done (y ∷ xs) x = ordered_with-push (insert y done) xs x

pub ordered-push : (xs : List ℕ) (x : ℕ) → ordered (xs ++ x ∷ []) ≡ insert x (ordered xs)
unfolding ordered
ordered-push xs x = ordered_with-push [] xs x

all_are_below : (dim : ℕ) (xs : List ℕ) → AllBelow dim xs → are_below dim xs ≡ true
unfolding are_below
all_are_below dim [] h = refl
all_are_below dim (x ∷ xs) h = and_from (nat_lt x dim) (are_below dim xs) (lt-ltb x dim h.0) (all_are_below dim xs h.1)

-- ---- the bound

pub few_indices : (p : Planning) (g : ℕ) (xs : List ℕ) → p.bound ≤ 24 → HasRoom (tensors_of p) p.bound g (ordered xs) → length xs < 26
few_indices p g xs w h = omega (arith, h.level, length-ordered xs)

-- ---- keys that are made

-- a list that becomes the indices in order
pub record Orders (slice J : List ℕ) (x : ℕ) : Type 0 where
  pub same : ordered slice ≡ insert x J

pub length-slice : (slice J : List ℕ) (x : ℕ) → Orders slice J x → length slice ≡ suc (length J)
length-slice slice J x o = sym (length-ordered slice) ∙ ap length o.same ∙ length-insert x J

-- a key that was made is stable
pub made_stable : (g : ℕ) (slice J : List ℕ) (x : ℕ) (key : Key) → Orders slice J x → length J < 26
    → (((0 < length slice) × (length slice ≤ 26) × (euler g (length slice) ≡ 0)) → ◌≡◌ {A = Result Key KeyErr} (Ok key) (Err Unstable))
    → stable (key_of g (insert x J)) ≡ true
unfolding stable key_of
made_stable g slice J x key o few h =
    let len = length-slice slice J x o in
    let long : length slice ≡ length (insert x J) = len ∙ sym (length-insert x J) in
    let some : euler g (length (insert x J)) ≡ 0 → ⊥ = λ e. differ (h (omega arith, omega arith, ap (euler g) long ∙ e)) in
    lt-ltb 0 (euler g (length (insert x J))) (omega (arith, some))
  where
    differ : ◌≡◌ {A = Result Key KeyErr} (Ok key) (Err Unstable) → ⊥
    differ e = cc

-- a key that isn't made isn't stable
pub not_made : (g : ℕ) (slice J : List ℕ) (x : ℕ) (r : Result Key KeyErr) (e : KeyErr) → Orders slice J x → length J < 26 → r ≡ Err e
    → (r ≡ Err NoPlace → slice ≡ []) → (r ≡ Err TooMany → 26 < length slice)
    → (r ≡ Err Unstable → ((0 < length slice) × (length slice ≤ 26) × (euler g (length slice) ≡ 0)))
    → euler g (length (insert x J)) ≡ 0
not_made g slice J x r NoPlace o few h none many unstable = let n : length slice ≡ 0 = ap length (none h) in absurd (omega (arith, n, length-slice slice J x o))
not_made g slice J x r TooMany o few h none many unstable = absurd (omega (arith, many h, length-slice slice J x o))
not_made g slice J x r Unstable o few h none many unstable =
    let long : length (insert x J) ≡ length slice = length-insert x J ∙ sym (length-slice slice J x o) in
    ap (euler g) long ∙ (unstable h).2

-- ---- places

-- the key with one more index
module _ (p : Planning) (g x : ℕ) (J : List ℕ) (room : HasRoom (tensors_of p) p.bound g J) (below : x < p.tensors.dim) where
  abbrev K : Key
  K = key_of g (insert x J)

  all_below : are_below p.tensors.dim (insert x J) ≡ true
  unfolding looked_up tensors_of
  all_below = all_are_below p.tensors.dim (insert x J) (all_below-insert p.tensors.dim x J below (small 0 p.tensors.dim J room.sorted))

  not_beyond : nat_lt p.bound (euler g (length (insert x J))) ≡ false
  unfolding euler
  not_beyond = le-ltb p.bound (euler g (length (insert x J))) (omega (arith, room.level, length-insert x J))

  -- the place of the key
  pub place_here : place_in p K ≡ cond (covers p.tensors.shape K) (At (rank_at p K)) Zero
  unfolding place_in key_of
  place_here = rw (not_beyond, all_below) refl

  live_here : stable K ≡ true → live_rank p K ≡ cond (covers p.tensors.shape K) (Some (rank_at p K)) None
  unfolding live_rank live tensors_of looked_up
  live_here s = rw s refl

  same_place : (c : Bool) (r : ℕ) → At r ≡ cond c (At (rank_at p K)) Zero → Some r ≡ cond c (Some (rank_at p K)) None
  same_place true r h = cc
  same_place false r h = cc

  no_place : (c : Bool) → ((r : ℕ) → cond c (At (rank_at p K)) Zero ≡ At r → ⊥) → ◌≡◌ {A = Option ℕ} None (cond c (Some (rank_at p K)) None)
  no_place true h = absurd (h (rank_at p K) refl)
  no_place false h = refl

  pub at_rank : stable K ≡ true → (r : ℕ) → At r ≡ place_in p K → Some r ≡ live_rank p K
  at_rank s r h = same_place (covers p.tensors.shape K) r (h ∙ place_here) ∙ sym (live_here s)

  pub not_at : stable K ≡ true → ((r : ℕ) → place_in p K ≡ At r → ⊥) → None ≡ live_rank p K
  not_at s h = no_place (covers p.tensors.shape K) (λ r e. h r (place_here ∙ e)) ∙ sym (live_here s)

  pub not_stable : euler g (length (insert x J)) ≡ 0 → None ≡ live_rank p K
  unfolding live_rank live stable key_of
  not_stable e = rw e refl

-- ---- lists that are in order

pub room_ordered : {T : Tensors} {X g : ℕ} {J : List ℕ} → HasRoom T X g J → HasRoom T X g (ordered J)
room_ordered {T} {X} {g} {J} h = subst (HasRoom T X g) (sym (ordered-sorted 0 T.dim J h.sorted)) h

-- the rank that is found for a list in order
pub rank_ordered : (p : Planning) (g x : ℕ) (J : List ℕ) (r : Option ℕ) → HasRoom (tensors_of p) p.bound g J → r ≡ live_rank p (key_of g (insert x (ordered J))) → r ≡ live_rank p (key_of g (insert x J))
rank_ordered p g x J r h e = e ∙ ap (λ l. live_rank p (key_of g (insert x l))) (ordered-sorted 0 (tensors_of p).dim J h.sorted)

-- the rank that is found for what is a list in order
pub found_beside : (p : Planning) (x : ℕ) {g : ℕ} {J slice : List ℕ} {r : Option ℕ} → slice ≡ J → HasRoom (tensors_of p) p.bound g J → r ≡ live_rank p (key_of g (insert x (ordered slice))) → r ≡ live_rank p (key_of g (insert x J))
found_beside p x {g} {J} {slice} {r} e h q = rank_ordered p g x J r h (q ∙ ap (λ l. live_rank p (key_of g (insert x (ordered l)))) e)

-- ---- lists with one more or one less

pub sorted-insert : (m x : ℕ) (xs : List ℕ) → x < m → IsSortedFrom 0 m xs → IsSortedFrom 0 m (insert x xs)
sorted-insert m x xs h s = sorted_small 0 m (insert x xs) (ascending-insert 0 x xs (omega arith) (ascending 0 m xs s)) (all_below-insert m x xs h (small 0 m xs s))

pub sorted-remove : (m x : ℕ) (xs : List ℕ) → IsSortedFrom 0 m xs → IsSortedFrom 0 m (remove x xs)
sorted-remove m x xs s = sorted_small 0 m (remove x xs) (ascending-remove 0 x xs (ascending 0 m xs s)) (all_below-remove m x xs (small 0 m xs s))

pub length-remove : (a : ℕ) (xs : List ℕ) → length (remove a xs) ≤ length xs
unfolding remove
length-remove a [] = omega arith
length-remove a (x ∷ xs) = by (nat_eq a x) (length-remove a xs)
  where
    by : (t : Bool) → length (remove a xs) ≤ length xs → length {A = ℕ} (elim t [ true ↦ xs | false ↦ x ∷ remove a xs ]) ≤ suc (length xs)
    by true h = omega arith
    by false h = omega arith

-- room for a joined term
pub room_joined : (p : Planning) (g b : ℕ) (J : List ℕ) → b < p.tensors.dim → (g ≡ 0 → ⊥) → HasRoom (tensors_of p) p.bound g J → HasRoom (tensors_of p) p.bound (g - 1) (insert b J)
unfolding tensors_of looked_up
room_joined p g b J l n h = record { sorted = sorted-insert p.tensors.dim b J l h.sorted; level = omega (arith, n, h.level, length-insert b J) }

-- room for a B term
pub room_less : {T : Tensors} {X g : ℕ} {J : List ℕ} (j : ℕ) → HasRoom T X g J → HasRoom T X g (remove j J)
room_less {T} {X} {g} {J} j h = record { sorted = sorted-remove T.dim j J h.sorted; level = omega (arith, h.level, length-remove j J) }

pub few_in_room : (p : Planning) (g : ℕ) (J : List ℕ) → p.bound ≤ 24 → HasRoom (tensors_of p) p.bound g J → length J ≤ 25
few_in_room p g J w h = omega (arith, h.level)

-- the list with b at its end
pub ordered_beside : {T : Tensors} {X g : ℕ} {J slice : List ℕ} (b : ℕ) → HasRoom T X g J → slice ≡ J ++ b ∷ [] → ordered slice ≡ insert b J
ordered_beside {T} {X} {g} {J} {slice} b h e = ap ordered e ∙ ordered-push J b ∙ ap (insert b) (ordered-sorted 0 T.dim J h.sorted)

-- ---- entries of rows

-- what a test keeps holds of each element, and so of one of them
pub each-item : {A : Type 0} (P : A → Type 0) (xs : List A) (i : ℕ) (x : A) → i < length xs → x ≡ get_or xs i x → Each P xs → P x
each-item P [] i x l e h = absurd (omega arith)
each-item P (y ∷ xs) zero x l e h = subst P (sym e) h.0
each-item P (y ∷ xs) (suc i) x l e h = each-item P xs i x (omega arith) e h.1

pub row_b-small : (T : Tensors) (i j : ℕ) → Each (λ e. e.0 < T.dim) (row_b T i j)
unfolding row_b
row_b-small T i j = Each-keep _ _ (map (λ a. (a, T.B i j a)) (below T.dim)) (Each-map _ (λ a. (a, T.B i j a)) (below T.dim) (Each-below _ T.dim (λ a p t. p)))

pub row_c-small : (T : Tensors) (i : ℕ) → Each (λ e. (e.0 < T.dim) × (e.1 < T.dim)) (row_c T i)
unfolding row_c
row_c-small T i =
    Each-keep _ _ (each (below T.dim) (λ a. map (λ b. (a, b, T.C i a b)) (below T.dim)))
    (Each-each _ _ (below T.dim) (Each-below _ T.dim (λ a p. Each-map _ (λ b. (a, b, T.C i a b)) (below T.dim) (Each-below _ T.dim (λ b q t. (p, q))))))

pub entry_b-small : (p : Planning) (i j k : ℕ) (row : List (ℕ × ℚ)) (x : ℕ × ℚ) → row ≡ row_b (tensors_of p) i j → k < length row → x ≡ get_or row k x → x.0 < p.tensors.dim
unfolding tensors_of looked_up
entry_b-small p i j k row x e l h = each-item (λ e. e.0 < p.tensors.dim) row k x l h (subst (Each (λ e. e.0 < p.tensors.dim)) (sym e) (row_b-small (tensors_of p) i j))

pub entry_c-small : (p : Planning) (i k : ℕ) (row : List (ℕ × ℕ × ℚ)) (x : ℕ × ℕ × ℚ) → row ≡ row_c (tensors_of p) i → k < length row → x ≡ get_or row k x → (x.0 < p.tensors.dim) × (x.1 < p.tensors.dim)
unfolding tensors_of looked_up
entry_c-small p i k row x e l h = each-item (λ e. (e.0 < p.tensors.dim) × (e.1 < p.tensors.dim)) row k x l h (subst (Each (λ e. (e.0 < p.tensors.dim) × (e.1 < p.tensors.dim))) (sym e) (row_c-small (tensors_of p) i))
