-- Ranks that are marked, each once.
use Rattle.std.proofs.Common.{◌≡◌, ℕ, zero, suc, ◌+◌, ◌<◌, ◌≤◌, Bool, true, false, ◌||◌, List, [], ◌∷◌, ◌++◌, length, get_or, set, refl, sym, ◌∙◌, ap, subst, arith, length-set, length-append, cond, eqb, replicate, ◌⊎◌, inl, inr, get_or-set_same, get_or-set_other, eq-eqb, ne_eqb}
use Rattle.amp_plan.proofs.Words.{cases_eq, times, has, Marks, IsMarked, marked, with_new, with_all_new}
use Rattle.amp_plan.proofs.RowLemmas.{has-append, has-one}

times-none : (a b : ℕ) (xs : List ℕ) → b < a → ((q : ℕ) → get_or xs q 0 ≤ b) → times a xs ≡ 0
unfolding times
times-none a b [] h l = refl
times-none a b (x ∷ xs) h l =
    let d : eqb a x ≡ false = ne_eqb a x (λ e. omega (arith, l 0)) in
    rw d (times-none a b xs h (λ q. l (suc q)))

times-set : (a : ℕ) (xs : List ℕ) (i : ℕ) → i < length xs → eqb a (get_or xs i 0) ≡ false → times a (set xs i a) ≡ suc (times a xs)
unfolding times
times-set a [] i h d = absurd (omega arith)
times-set a (x ∷ xs) zero h d = let s : eqb a a ≡ true = eq-eqb a a refl in rw (s, d) refl
times-set a (x ∷ xs) (suc i) h d = by (eqb a x) (times-set a xs i (omega arith) d)
  where
    by : (t : Bool) → times a (set xs i a) ≡ suc (times a xs) → Rattle.airy_math.specs.Keys.more t (times a (set xs i a)) ≡ suc (Rattle.airy_math.specs.Keys.more t (times a xs))
    by true e = ap suc e
    by false e = e

times-less : (a : ℕ) (xs : List ℕ) (i : ℕ) → i < length xs → eqb a (get_or xs i 0) ≡ false → times a xs < length xs
unfolding times
times-less a [] i h d = absurd (omega arith)
times-less a (x ∷ xs) zero h d = rw d (omega (arith, most a xs))
  where
    most : (a : ℕ) (xs : List ℕ) → times a xs ≤ length xs
    most a [] = omega arith
    most a (x ∷ xs) = by (eqb a x) (most a xs)
      where
        by : (t : Bool) → times a xs ≤ length xs → Rattle.airy_math.specs.Keys.more t (times a xs) ≤ suc (length xs)
        by true h = omega arith
        by false h = omega arith
times-less a (x ∷ xs) (suc i) h d = by (eqb a x) (times-less a xs i (omega arith) d)
  where
    by : (t : Bool) → times a xs < length xs → Rattle.airy_math.specs.Keys.more t (times a xs) < suc (length xs)
    by true h = omega arith
    by false h = omega arith

-- no rank yet
pub marked-none : (stamps : List ℕ) (before stamp capacity : ℕ) → before < stamp → ((q : ℕ) → get_or stamps q 0 ≤ before) → length stamps ≤ capacity → IsMarked stamps stamp capacity []
unfolding has
marked-none stamps before stamp capacity h l room = record {
  old = λ q. omega (arith, l q);
  stamped = λ q p. ne_eqb stamp (get_or stamps q 0) (λ e. omega (arith, l q));
  within = λ q e. cc;
  counted = sym (times-none stamp before stamps h l);
  room = room;
}

-- there is room for a rank that isn't marked
pub marked-room : (stamps : List ℕ) (stamp capacity : ℕ) (row : List ℕ) (rank : ℕ) → IsMarked stamps stamp capacity row → rank < length stamps → (get_or stamps rank 0 ≡ stamp → ⊥) → length row < capacity
marked-room stamps stamp capacity row rank m h n =
    omega (arith, m.counted, m.room, times-less stamp stamps rank h (ne_eqb stamp (get_or stamps rank 0) (λ e. n (sym e))))

pub marked-more : (stamps : List ℕ) (stamp capacity : ℕ) (row : List ℕ) (rank : ℕ) → IsMarked stamps stamp capacity row → rank < length stamps → (get_or stamps rank 0 ≡ stamp → ⊥) → IsMarked (set stamps rank stamp) stamp capacity (row ++ rank ∷ [])
marked-more stamps stamp capacity row rank m h n = record {
  old = λ q. old q (cases_eq q rank);
  stamped = λ q p. stamped q (subst (λ k. q < k) (length-set stamps rank stamp) p) (cases_eq q rank);
  within = λ q e. subst (λ k. q < k) (sym (length-set stamps rank stamp)) (within q (cases_eq q rank) e);
  counted = length-append row (rank ∷ []) ∙ move (length row) ∙ ap suc m.counted ∙ sym (times-set stamp stamps rank h (ne_eqb stamp (get_or stamps rank 0) (λ e. n (sym e))));
  room = omega (arith, length-set stamps rank stamp, m.room);
}
  where
    move : (k : ℕ) → k + 1 ≡ suc k
    move k = omega arith

    or_false : (b : Bool) → (b || false) ≡ b
    or_false true = refl
    or_false false = refl

    or_true : (b : Bool) → (b || true) ≡ true
    or_true true = refl
    or_true false = refl

    whole : (q : ℕ) → has q (row ++ rank ∷ []) ≡ (has q row || eqb q rank)
    whole q = has-append q row (rank ∷ []) ∙ ap (λ b. has q row || b) (has-one q rank)

    old : (q : ℕ) → (q ≡ rank) ⊎ (q ≡ rank → ⊥) → get_or (set stamps rank stamp) q 0 ≤ stamp
    old q (inl e) = let same : get_or (set stamps rank stamp) q 0 ≡ stamp = ap (λ i. get_or (set stamps rank stamp) i 0) e ∙ get_or-set_same stamps rank stamp 0 h in omega arith
    old q (inr d) = let same : get_or (set stamps rank stamp) q 0 ≡ get_or stamps q 0 = get_or-set_other stamps rank q stamp 0 d in omega (arith, m.old q)

    stamped : (q : ℕ) → q < length stamps → (q ≡ rank) ⊎ (q ≡ rank → ⊥) → eqb stamp (get_or (set stamps rank stamp) q 0) ≡ has q (row ++ rank ∷ [])
    stamped q p (inl e) =
        eq-eqb stamp _ (sym (ap (λ i. get_or (set stamps rank stamp) i 0) e ∙ get_or-set_same stamps rank stamp 0 h))
        ∙ sym (whole q ∙ ap (λ b. has q row || b) (eq-eqb q rank e) ∙ or_true (has q row))
    stamped q p (inr d) =
        ap (eqb stamp) (get_or-set_other stamps rank q stamp 0 d) ∙ m.stamped q p
        ∙ sym (whole q ∙ ap (λ b. has q row || b) (ne_eqb q rank d) ∙ or_false (has q row))

    within : (q : ℕ) → (q ≡ rank) ⊎ (q ≡ rank → ⊥) → has q (row ++ rank ∷ []) ≡ true → q < length stamps
    within q (inl e) t = subst (λ i. i < length stamps) (sym e) h
    within q (inr d) t = m.within q (sym (whole q ∙ ap (λ b. has q row || b) (ne_eqb q rank d) ∙ or_false (has q row)) ∙ t)

-- what is marked after a rank
pub marked-new : (m : Marks) (rank : ℕ) → has rank m.row ≡ false → marked m (rank ∷ []) ≡ record m { row = m.row ++ rank ∷ [] }
unfolding marked with_all_new with_new
marked-new m rank e = ap (λ b. record m { row = cond b m.row (m.row ++ rank ∷ []) }) e

pub marked-same : (m : Marks) (rank : ℕ) → has rank m.row ≡ true → marked m (rank ∷ []) ≡ m
unfolding marked with_all_new with_new
marked-same m rank e = ap (λ b. record m { row = cond b m.row (m.row ++ rank ∷ []) }) e

pub zeros-small : (xs : List ℕ) (n : ℕ) → xs ≡ replicate n 0 → (q : ℕ) → get_or xs q 0 ≤ 0
zeros-small xs n e q = subst (λ l. get_or l q 0 ≤ 0) (sym e) (small n q)
  where
    small : (n q : ℕ) → get_or (replicate n 0) q 0 ≤ 0
    small zero q = omega arith
    small (suc n) zero = omega arith
    small (suc n) (suc q) = small n q

with_all-append : (row xs ys : List ℕ) → with_all_new row (xs ++ ys) ≡ with_all_new (with_all_new row xs) ys
unfolding with_all_new
with_all-append row [] ys = refl
with_all-append row (x ∷ xs) ys = with_all-append (with_new row x) xs ys

pub marked-append : (m : Marks) (xs ys : List ℕ) → marked (marked m xs) ys ≡ marked m (xs ++ ys)
unfolding marked
marked-append m xs ys = ap (λ l. record m { row = l }) (sym (with_all-append m.row xs ys))

pub marked-nil : (m : Marks) → marked m [] ≡ m
unfolding marked with_all_new
marked-nil m = refl

pub same_size : (old new : Marks) (qs : List ℕ) → new ≡ marked old qs → (r : ℕ) → (r < new.size → r < old.size) × (r < old.size → r < new.size)
unfolding marked
same_size old new qs e r = (subst (λ n. r < n) (ap (λ m. m.size) e), subst (λ n. r < n) (sym (ap (λ m. m.size) e)))
