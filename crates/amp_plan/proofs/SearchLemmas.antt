-- Searches: from left to right, and by halves.
use Rattle.std.proofs.Common.{◌≡◌, ℕ, ◌+◌, ◌<◌, ◌≤◌, Bool, true, false, List, [], ◌∷◌, length, drop, get_or, refl, sym, ◌∙◌, ap, arith, length-drop, ltb, ◌⊎◌, inl, inr, slice_index}
use Rattle.amp_plan.proofs.Words.{cases_lt, cases_order, Key, place_of, are_below, AreInOrder}
use Rattle.std.proofs.lemmas.List.{drop_more}
use Rattle.airy_math.specs.Keys.{before}
use Rattle.airy_math.proofs.BeforeLemmas.{before-self, before-back}
use Rattle.airy_math.proofs.RankLaw.{get_or-place}

pub below-more : (dim : ℕ) (xs : List ℕ) (i : ℕ) → i < length xs → slice_index xs i < dim → are_below dim (drop i xs) ≡ are_below dim (drop (i + 1) xs)
unfolding are_below
below-more dim xs i h l = let t : ltb (slice_index xs i) dim ≡ true = grind arith in ap (are_below dim) (drop_more xs i 0 h) ∙ rw t refl

pub below-less : (dim : ℕ) (xs : List ℕ) (i : ℕ) → i < length xs → dim ≤ slice_index xs i → are_below dim (drop i xs) ≡ false
unfolding are_below
below-less dim xs i h l = let t : ltb (slice_index xs i) dim ≡ false = grind arith in ap (are_below dim) (drop_more xs i 0 h) ∙ rw t refl

below-nil : (dim : ℕ) (xs : List ℕ) → length xs ≡ 0 → are_below dim xs ≡ true
unfolding are_below
below-nil dim [] h = refl
below-nil dim (x ∷ xs) h = absurd (omega arith)

pub below-end : (dim : ℕ) (xs : List ℕ) (i : ℕ) → length xs ≤ i → are_below dim (drop i xs) ≡ true
below-end dim xs i h = below-nil dim (drop i xs) (omega (arith, length-drop i xs))

-- ---- a search by halves

-- a key that is before it stands before its place
pub place-above : (key : Key) (keys : List Key) (i : ℕ) → AreInOrder keys → place_of key keys < length keys → i < length keys → before (get_or keys i key) key ≡ true → i < place_of key keys
place-above key keys i o h l b = by (cases_order i (place_of key keys))
  where
    at : get_or keys (place_of key keys) key ≡ key
    at = get_or-place key key keys h

    clash : (t : Bool) → t ≡ true → t ≡ false → ⊥
    clash true u v = cc
    clash false u v = cc

    by : (i ≡ place_of key keys) ⊎ ((i < place_of key keys) ⊎ (place_of key keys < i)) → i < place_of key keys
    by (inl e) = absurd (clash (before key key) (sym (ap (λ k. before k key) (ap (λ j. get_or keys j key) e ∙ at)) ∙ b) (before-self key))
    by (inr (inl s)) = s
    by (inr (inr s)) = absurd (clash (before key (get_or keys i key)) (sym (ap (λ k. before k (get_or keys i key)) at) ∙ o key (place_of key keys) i s l) (before-back (get_or keys i key) key b))

-- a key that isn't before it doesn't
pub place-below : (key : Key) (keys : List Key) (i : ℕ) → AreInOrder keys → place_of key keys < length keys → before (get_or keys i key) key ≡ false → place_of key keys ≤ i
place-below key keys i o h b = by (cases_lt i (place_of key keys))
  where
    clash : (t : Bool) → t ≡ true → t ≡ false → ⊥
    clash true u v = cc
    clash false u v = cc

    by : (i < place_of key keys) ⊎ (place_of key keys ≤ i) → place_of key keys ≤ i
    by (inl s) = absurd (clash (before (get_or keys i key) key) (ap (before (get_or keys i key)) (sym (get_or-place key key keys h)) ∙ o key i (place_of key keys) s h) b)
    by (inr s) = s
