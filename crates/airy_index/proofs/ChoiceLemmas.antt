-- The splits from the first choice on are all splits, and each next choice leaves the splits behind the chosen one.
use Rattle.std.proofs.Common.{◌≡◌, ℕ, suc, ◌+◌, ◌-◌, ◌<◌, List, [], ◌∷◌, ◌++◌, map, length, refl, sym, ap, ap₂, ◌∙◌, arith, drop, length-drop, Bool, true, false, not, take_all, ◌≤◌}
use Rattle.std.specs.Bool.{OnTrue, OnFalse}
use Rattle.airy_index.proofs.Words.{refill, nil_from_length, Split, runs, below, count_from, each, Run, counts_of, put_before, chosen_split, all_splits, splits_after, splits_left, TakesNone}
use Rattle.airy_math.specs.Splits.{pairs, spread, weight, splits_of, splits}
use Rattle.airy_math.proofs.KeyLemmas.{map-map, map_pairs-cons, append-nil}
use Rattle.airy_math.proofs.EachLemmas.{each-cong}

-- the splits of a list with one distinct index more
splits_of-more : (v x : ℕ) (vs es : List ℕ) → splits_of (v ∷ vs) (x ∷ es) ≡ each (below (suc x)) (λ t. map (put_before v x t) (splits_of vs es))
unfolding splits_of spread weight put_before
splits_of-more v x vs es =
    let inner : List ℕ × List ℕ → Split = λ pq. record { part = spread vs pq.0; rest = spread vs pq.1; ways = weight es pq.0 } in
    map_pairs-cons (λ pq. record { part = spread (v ∷ vs) pq.0; rest = spread (v ∷ vs) pq.1; ways = weight (x ∷ es) pq.0 }) x es
    ∙ each-cong (λ t. map (λ pq. put_before v x t (inner pq)) (pairs es)) (λ t. map (put_before v x t) (map inner (pairs es))) (below (suc x)) (λ t.
    sym (map-map (put_before v x t) inner (pairs es)))

all_splits-is : (ps : List (ℕ × ℕ)) → all_splits ps ≡ splits_of (map (λ p. p.0) ps) (map (λ p. p.1) ps)
unfolding all_splits chosen_split splits_of pairs spread weight
all_splits-is [] = refl
all_splits-is (p ∷ ps) =
    each-cong (λ t. map (put_before p.0 p.1 t) (all_splits ps)) (λ t. map (put_before p.0 p.1 t) (splits_of (map (λ p. p.0) ps) (map (λ p. p.1) ps))) (below (suc p.1)) (λ t. ap (map (put_before p.0 p.1 t)) (all_splits-is ps))
    ∙ sym (splits_of-more p.0 p.1 (map (λ p. p.0) ps) (map (λ p. p.1) ps))

-- where nothing is taken, the chosen split and those after it are all
pub first_choice : (rs : List Run) → TakesNone rs → chosen_split rs ∷ splits_after rs ≡ all_splits (counts_of rs)
unfolding TakesNone chosen_split splits_after all_splits each below count_from
first_choice [] h = refl
first_choice (r ∷ rs) h = by r.taken h.0 (first_choice rs h.1)
  where
    by : (t : ℕ) → t ≡ 0 → chosen_split rs ∷ splits_after rs ≡ all_splits (counts_of rs) → put_before r.index r.count t (chosen_split rs) ∷ (map (put_before r.index r.count t) (splits_after rs) ++ each (count_from (suc t) (r.count - t)) (λ t. map (put_before r.index r.count t) (all_splits (counts_of rs)))) ≡ all_splits (counts_of (r ∷ rs))
    by t e h =
        let less : r.count - 0 ≡ r.count = omega arith in
        rw (e, less) (ap (λ l. map (put_before r.index r.count 0) l ++ each (count_from 1 r.count) (λ t. map (put_before r.index r.count t) (all_splits (counts_of rs)))) h)

-- the splits of a list are those of all choices from its runs
pub splits-all : (xs : List ℕ) → splits xs ≡ all_splits (runs xs)
unfolding splits
splits-all xs = sym (all_splits-is (runs xs))

-- the walk over the runs of a list begins with all its splits
pub fresh_walk : (xs : List ℕ) (rs : List Run) → counts_of rs ≡ runs xs → TakesNone rs → chosen_split rs ∷ splits_after rs ≡ splits xs
fresh_walk xs rs e h = first_choice rs h ∙ ap all_splits e ∙ sym (splits-all xs)

-- the next choice is made behind the first index
pub next_behind : (r : Run) (rs rs' : List Run) → counts_of rs' ≡ counts_of rs → splits_after rs ≡ chosen_split rs' ∷ splits_after rs' → splits_after (r ∷ rs) ≡ chosen_split (r ∷ rs') ∷ splits_after (r ∷ rs')
unfolding splits_after chosen_split
next_behind r rs rs' e h = rw (h, e) refl

-- no choice is left behind the first index, of which one more is taken
pub next_here : (r : Run) (rs rs' : List Run) → r.taken < r.count → counts_of rs' ≡ counts_of rs → splits_after rs ≡ [] → TakesNone rs' → splits_after (r ∷ rs) ≡ chosen_split (record r { taken = r.taken + 1 } ∷ rs') ∷ splits_after (record r { taken = r.taken + 1 } ∷ rs')
unfolding splits_after chosen_split each count_from
next_here r rs rs' l e h n =
    let put : ℕ → Split → Split = put_before r.index r.count in
    let behind = λ (t : ℕ) (ps : List (ℕ × ℕ)). each (count_from (suc t) (r.count - t)) (λ s. map (put s) (all_splits ps)) in
    let up : suc r.taken ≡ r.taken + 1 = omega arith in
    let left : r.count - r.taken ≡ suc (r.count - suc r.taken) = omega arith in
    ap₂ (λ a k. map (put r.taken) a ++ each (count_from (suc r.taken) k) (λ s. map (put s) (all_splits (counts_of rs)))) h left
    ∙ ap (λ ps. map (put (suc r.taken)) (all_splits ps) ++ behind (suc r.taken) ps) (sym e)
    ∙ ap (λ ss. map (put (suc r.taken)) ss ++ behind (suc r.taken) (counts_of rs')) (sym (first_choice rs' n))
    ∙ ap (λ t. map (put t) (chosen_split rs' ∷ splits_after rs') ++ behind t (counts_of rs')) up

-- no choice is left
pub no_next : (r : Run) (rs : List Run) → r.taken ≡ r.count → splits_after rs ≡ [] → splits_after (r ∷ rs) ≡ []
unfolding splits_after each count_from
no_next r rs e h =
    let left : r.count - r.taken ≡ 0 = omega arith in
    rw (h, left) refl

-- the chosen split is the first of those left, and the next choice leaves the others
pub left_step : (ended more : Bool) (rs rs' : List Run) (s : Split) → ended ≡ false → s ≡ chosen_split rs → OnTrue more (splits_after rs ≡ chosen_split rs' ∷ splits_after rs') → OnFalse more (splits_after rs ≡ [])
    → splits_left ended rs ≡ s ∷ splits_left (not more) rs'
unfolding splits_left
left_step false true rs rs' s e h p q = ap₂ ◌∷◌ (sym h) p
left_step false false rs rs' s e h p q = ap₂ ◌∷◌ (sym h) q
left_step true more rs rs' s e h p q = absurd cc

pub left_end : (ended : Bool) (rs : List Run) → ended ≡ true → splits_left ended rs ≡ []
unfolding splits_left
left_end ended rs e = rw e refl

-- a list that is filled with as many elements has these
pub refill_same : (rs ws : List Run) → length ws ≡ length rs → refill (length rs) rs ws ≡ ws
refill_same rs ws e =
    let none : drop (length ws) rs ≡ [] = nil_from_length _ (omega (arith, length-drop (length ws) rs)) in
    rw none (rw (append-nil ws) (take_all (length rs) ws (omega arith)))

-- a number that isn't the greatest is less
pub below_other : (a b : ℕ) → a ≤ b → (a ≡ b → ⊥) → a < b
below_other a b h n = grind arith
