-- What becomes of the items where one more is put before them, and where each stands.
use Rattle.std.proofs.Common.{◌≡◌, ℕ, suc, ◌+◌, ◌<◌, ◌≤◌, Bool, true, false, List, [], ◌∷◌, ◌++◌, length, length-append, get_or, set, refl, sym, ap, ◌∙◌, arith, cond, nat_eq, get_or-set_other}
use Rattle.std.proofs.Math.Seq.{get_or-append_seam}
use Rattle.std.proofs.lemmas.List.{get_or_append_left}
use Rattle.std.proofs.lemmas.Grind.{get_or-set_at}
use Rattle.item_chains.specs.Chains.{from_first, shown, linked, all_linked}
use Rattle.item_chains.specs.declared.chains.Linked.{Linked}

pub shown-put : {T : Type 0} (ls : List (Linked T)) (l : Linked T) → shown (ls ++ l ∷ []) ≡ (l.number, l.item) ∷ shown ls
unfolding shown
shown-put [] l = refl
shown-put (k ∷ ls) l = ap (λ xs. xs ++ (k.number, k.item) ∷ []) (shown-put ls l)

pub length-linked : {T : Type 0} (xs : List (ℕ × T)) → length (all_linked xs) ≡ length xs
unfolding all_linked
length-linked [] = refl
length-linked (x ∷ xs) =
    let e : length (all_linked xs ++ linked x xs ∷ []) ≡ length (all_linked xs) + 1 = length-append (all_linked xs) (linked x xs ∷ []) in
    omega (arith, e, length-linked xs)

-- an item stands as far from the beginning as there are items behind it
pub linked-at : {T : Type 0} (before after : List (ℕ × T)) (x : ℕ × T) (d : Linked T) → get_or (all_linked (before ++ x ∷ after)) (length after) d ≡ linked x after
unfolding all_linked
linked-at [] after x d =
    ap (λ i. get_or (all_linked after ++ linked x after ∷ []) i d) (sym (length-linked after)) ∙ get_or-append_seam (all_linked after) (linked x after) [] d
linked-at (b ∷ before) after x d =
    let all = before ++ x ∷ after in
    let long : length (before ++ x ∷ after) ≡ length before + suc (length after) = length-append before (x ∷ after) in
    get_or_append_left (all_linked all) (linked b all ∷ []) d (length after) (omega (arith, length-linked all, long)) ∙ linked-at before after x d

-- the first of each number, where one more is put before them
pub firsts-put : {T : Type 0} (firsts : List ℕ) (xs : List (ℕ × T)) (x : ℕ × T) (k : ℕ) → length firsts ≡ 64 → x.0 < 64 → k ≡ suc (length xs)
    → ((n : ℕ) → n < 64 → get_or firsts n 0 ≡ from_first n xs) → (n : ℕ) → n < 64 → get_or (set firsts x.0 k) n 0 ≡ from_first n (x ∷ xs)
unfolding from_first
firsts-put firsts xs x k many small e before n l = by (nat_eq x.0 n) refl
  where
    by : (t : Bool) → nat_eq x.0 n ≡ t → get_or (set firsts x.0 k) n 0 ≡ cond t (suc (length xs)) (from_first n xs)
    by true same = get_or-set_at firsts x.0 n k 0 (grind arith) (omega (arith, many, small)) ∙ e
    by false other = get_or-set_other firsts x.0 n k 0 (λ f. grind arith) ∙ before n l

pub first-within : {T : Type 0} (n : ℕ) (xs : List (ℕ × T)) → from_first n xs ≤ length xs
unfolding from_first
first-within n [] = omega arith
first-within n (x ∷ xs) = by (nat_eq x.0 n) (first-within n xs)
  where
    by : (t : Bool) → from_first n xs ≤ length xs → cond t (suc (length xs)) (from_first n xs) ≤ suc (length xs)
    by true r = omega arith
    by false r = omega (arith, r)
