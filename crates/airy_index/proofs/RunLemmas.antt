-- The runs of a list, read from left to right.
use Rattle.std.proofs.Common.{◌≡◌, ℕ, suc, ◌+◌, ◌<◌, ◌≤◌, Bool, true, false, List, [], ◌∷◌, ◌++◌, map, length, drop, refl, sym, ◌∙◌, ap, arith, append_assoc, length-append, nat_eq, slice_index}
use Rattle.airy_index.proofs.Words.{drop_more, map-append, nil_from_length, total, runs, into_runs, Run, counts_of, whole_length, IsChoice, TakesNone, IsWalk}

-- c copies of v before a run, which is of the same index where the test says so
abbrev pub merged_if : Bool → ℕ → ℕ → (ℕ × ℕ) → List (ℕ × ℕ) → List (ℕ × ℕ)
merged_if true v c r rs = (v, c + r.1) ∷ rs
merged_if false v c r rs = (v, c) ∷ r ∷ rs

-- c copies of v before the runs
abbrev pub merged : ℕ → ℕ → List (ℕ × ℕ) → List (ℕ × ℕ)
merged v c [] = (v, c) ∷ []
merged v c (r ∷ rs) = merged_if (nat_eq v r.0) v c r rs

pub into_runs-merged : (x : ℕ) (rs : List (ℕ × ℕ)) → into_runs x rs ≡ merged x 1 rs
unfolding into_runs
into_runs-merged x [] = refl
into_runs-merged x (r ∷ rs) = by (nat_eq x r.0)
  where
    by : (t : Bool) → ◌≡◌ {A = List (ℕ × ℕ)} (elim t [ true ↦ (x, suc r.1) ∷ rs | false ↦ (x, 1) ∷ r ∷ rs ]) (merged_if t x 1 r rs)
    by true = let e : suc r.1 ≡ 1 + r.1 = omega arith in ap (λ n. (x, n) ∷ rs) e
    by false = refl

-- one more of the same index
merged-same : (v c : ℕ) (rs : List (ℕ × ℕ)) → merged v c (merged v 1 rs) ≡ merged v (c + 1) rs
merged-same v c [] = let e : nat_eq v v ≡ true = grind arith in rw (e, merged) refl
merged-same v c (r ∷ rs) = by (nat_eq v r.0)
  where
    by : (t : Bool) → merged v c (merged_if t v 1 r rs) ≡ merged_if t v (c + 1) r rs
    by true =
        let e : nat_eq v v ≡ true = grind arith in
        let n : c + (1 + r.1) ≡ (c + 1) + r.1 = omega arith in
        rw (e, merged) (ap (λ m. (v, m) ∷ rs) n)
    by false = let e : nat_eq v v ≡ true = grind arith in rw (e, merged) refl

-- another index
merged-other : (v c x : ℕ) (rs : List (ℕ × ℕ)) → (x ≡ v → ⊥) → merged v c (merged x 1 rs) ≡ (v, c) ∷ merged x 1 rs
merged-other v c x [] n = let e : nat_eq v x ≡ false = grind arith in rw (e, merged) refl
merged-other v c x (r ∷ rs) n = by (nat_eq x r.0)
  where
    by : (t : Bool) → merged v c (merged_if t x 1 r rs) ≡ (v, c) ∷ merged_if t x 1 r rs
    by true = let e : nat_eq v x ≡ false = grind arith in rw (e, merged) refl
    by false = let e : nat_eq v x ≡ false = grind arith in rw (e, merged) refl

runs-drop : (xs : List ℕ) (i : ℕ) → i < length xs → runs (drop i xs) ≡ merged (slice_index xs i) 1 (runs (drop (i + 1) xs))
unfolding runs
runs-drop xs i h = ap runs (drop_more xs i 0 h) ∙ into_runs-merged (slice_index xs i) (runs (drop (i + 1) xs))

-- the index at hand is one more of the last run
pub merged-more : (v c : ℕ) (xs : List ℕ) (i : ℕ) → i < length xs → slice_index xs i ≡ v → merged v c (runs (drop i xs)) ≡ merged v (c + 1) (runs (drop (i + 1) xs))
merged-more v c xs i h e = ap (merged v c) (runs-drop xs i h ∙ ap (λ x. merged x 1 (runs (drop (i + 1) xs))) e) ∙ merged-same v c (runs (drop (i + 1) xs))

-- the index at hand begins a run
pub merged-next : (v c : ℕ) (xs : List ℕ) (i : ℕ) → i < length xs → (slice_index xs i ≡ v → ⊥) → merged v c (runs (drop i xs)) ≡ (v, c) ∷ merged (slice_index xs i) 1 (runs (drop (i + 1) xs))
merged-next v c xs i h n = ap (merged v c) (runs-drop xs i h) ∙ merged-other v c (slice_index xs i) (runs (drop (i + 1) xs)) n

pub merged-end : (v c : ℕ) (xs : List ℕ) (i : ℕ) → length xs ≤ i → merged v c (runs (drop i xs)) ≡ (v, c) ∷ []
unfolding runs
merged-end v c xs i h = let e : drop i xs ≡ [] = nil_from_length (drop i xs) (omega (arith, Rattle.std.proofs.Common.length-drop i xs)) in rw e refl

pub runs-cons : (x : ℕ) (xs : List ℕ) → runs (x ∷ xs) ≡ merged x 1 (runs (drop 0 xs))
unfolding runs
runs-cons x xs = into_runs-merged x (runs xs)

pub TakesNone-append : (rs qs : List Run) → TakesNone rs → TakesNone qs → TakesNone (rs ++ qs)
unfolding TakesNone
TakesNone-append [] qs h k = k
TakesNone-append (r ∷ rs) qs h k = (h.0, TakesNone-append rs qs h.1 k)

-- The runs found, then the run at hand and the runs of what is left behind i indices, are those of the list.
pub record ReadsRuns (found : List Run) (run : Run) (others : List ℕ) (i : ℕ) (all : List ℕ) : Type 0 where
  pub counts : counts_of found ++ merged run.index run.count (runs (drop i others)) ≡ runs all
  pub none : TakesNone found
  pub untaken : run.taken ≡ 0
  pub room : length found ≤ i
  pub small : run.count ≤ i + 1

abbrev pub single : ℕ → Run
single x = record { index = x; count = 1; taken = 0 }

pub reads_first : (x : ℕ) (xs : List ℕ) → ReadsRuns [] (single x) xs 0 (x ∷ xs)
unfolding TakesNone
reads_first x xs = record {
  counts = sym (runs-cons x xs);
  none = tt;
  untaken = refl;
  room = omega arith;
  small = omega arith;
}

-- the next index is one more of the run at hand
pub reads_same : (found : List Run) (run : Run) (others : List ℕ) (i : ℕ) (all : List ℕ) → ReadsRuns found run others i all → i < length others → slice_index others i ≡ run.index
    → ReadsRuns found (record run { count = run.count + 1 }) others (i + 1) all
reads_same found run others i all h l e = record {
  counts = ap (λ rs. counts_of found ++ rs) (sym (merged-more run.index run.count others i l e)) ∙ h.counts;
  none = h.none;
  untaken = h.untaken;
  room = omega (arith, h.room);
  small = omega (arith, h.small);
}

-- the next index begins a run
pub reads_other : (found : List Run) (run : Run) (others : List ℕ) (i : ℕ) (all : List ℕ) → ReadsRuns found run others i all → i < length others → (slice_index others i ≡ run.index → ⊥)
    → ReadsRuns (found ++ run ∷ []) (single (slice_index others i)) others (i + 1) all
unfolding TakesNone
reads_other found run others i all h l n = record {
  counts =
      ap (λ rs. rs ++ merged (slice_index others i) 1 (runs (drop (i + 1) others))) (map-append (λ r. (r.index, r.count)) found (run ∷ []))
      ∙ append_assoc (counts_of found) ((run.index, run.count) ∷ []) (merged (slice_index others i) 1 (runs (drop (i + 1) others)))
      ∙ ap (λ rs. counts_of found ++ rs) (sym (merged-next run.index run.count others i l n)) ∙ h.counts;
  none = TakesNone-append found (run ∷ []) h.none (h.untaken, tt);
  untaken = refl;
  room = omega (arith, h.room, length-append found (run ∷ []));
  small = omega arith;
}

pub reads_all : (found : List Run) (run : Run) (others : List ℕ) (i : ℕ) (all : List ℕ) → ReadsRuns found run others i all → length others ≤ i → counts_of (found ++ run ∷ []) ≡ runs all
reads_all found run others i all h l =
    map-append (λ r. (r.index, r.count)) found (run ∷ [])
    ∙ ap (λ rs. counts_of found ++ rs) (sym (merged-end run.index run.count others i l)) ∙ h.counts

pub reads_none : (found : List Run) (run : Run) (others : List ℕ) (i : ℕ) (all : List ℕ) → ReadsRuns found run others i all → TakesNone (found ++ run ∷ [])
unfolding TakesNone
reads_none found run others i all h = TakesNone-append found (run ∷ []) h.none (h.untaken, tt)

choice_of_none : (rs : List Run) → TakesNone rs → IsChoice rs
unfolding TakesNone IsChoice
choice_of_none [] h = tt
choice_of_none (r ∷ rs) h = (omega (arith, h.0), choice_of_none rs h.1)

length-merged : (v c : ℕ) (rs : List (ℕ × ℕ)) → whole_length (merged v c rs) ≡ c + whole_length rs
unfolding whole_length total
length-merged v c [] = omega arith
length-merged v c (r ∷ rs) = by (nat_eq v r.0)
  where
    by : (t : Bool) → whole_length (merged_if t v c r rs) ≡ c + whole_length (r ∷ rs)
    by true = omega arith
    by false = refl

-- the counts of the runs of a list add up to its length
pub whole_length-runs : (xs : List ℕ) → whole_length (runs xs) ≡ length xs
unfolding runs whole_length total
whole_length-runs [] = refl
whole_length-runs (x ∷ xs) = omega (arith, ap whole_length (into_runs-merged x (runs xs)), length-merged x 1 (runs xs), whole_length-runs xs)

-- a walk begins with the runs of a short list, of which nothing is taken
pub fresh_is_walk : (xs : List ℕ) (rs : List Run) → length xs ≤ 25 → counts_of rs ≡ runs xs → TakesNone rs → IsWalk rs
fresh_is_walk xs rs l e h = record {
  choice = choice_of_none rs h;
  short = omega (arith, ap whole_length e, whole_length-runs xs, l);
}
