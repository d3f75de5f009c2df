-- The lists of a volume, and sums of lists.
use Rattle.std.proofs.Common.{◌≡◌, ℕ, zero, suc, ◌+◌, ◌-◌, ◌≤◌, List, [], ◌∷◌, ◌++◌, map, get_or, refl, sym, ap, ◌∙◌, arith}
use Rattle.correlators.proofs.Words.{map-append, total, below, count_from, each, each-count_append, map-cong, map-map, lists_of_sum, behind}
use Rattle.airy_math.proofs.EachLemmas.{append_assoc}
use Rattle.airy_math.proofs.KeyLemmas.{append-nil}

-- no element is above the sum
pub at_most-total : (xs : List ℕ) (i : ℕ) → get_or xs i 0 ≤ total xs
unfolding total
at_most-total [] i = omega arith
at_most-total (x ∷ xs) zero = omega arith
at_most-total (x ∷ xs) (suc i) = omega (arith, at_most-total xs i)

pub total-push : (xs : List ℕ) (x : ℕ) → total (xs ++ x ∷ []) ≡ total xs + x
unfolding total
total-push [] x = omega arith
total-push (y ∷ xs) x = omega (arith, total-push xs x)

pub each-next : {B : Type 0} (f : ℕ → List B) (k : ℕ) → each (below (k + 1)) f ≡ each (below k) f ++ f k
unfolding below each count_from
each-next f k =
    let z : 0 + k ≡ k = omega arith in
    each-count_append f 0 k 1 ∙ ap (λ m. each (below k) f ++ each (count_from m 1) f) z ∙ ap (λ l. each (below k) f ++ l) (append-nil (f k))

-- ---- lists behind a prefix

-- of the lists of m + 1 numbers with the sum s those whose others have a sum below k
unfoldable pub first_lists : ℕ → ℕ → ℕ → List (List ℕ)
first_lists m s k = each (below k) λ j. map (λ ds. (s - j) ∷ ds) (lists_of_sum m j)

pub behind-none : (prefix : List ℕ) (m s : ℕ) → behind prefix (first_lists m s 0) ≡ []
unfolding behind first_lists below count_from each
behind-none prefix m s = refl

pub behind-all : (prefix : List ℕ) (m n s : ℕ) → n ≡ suc m → behind prefix (lists_of_sum n s) ≡ behind prefix (first_lists m s (s + 1))
unfolding first_lists lists_of_sum
behind-all prefix m n s e = let t : s + 1 ≡ suc s = omega arith in rw (e, t) refl

pub behind-next : (prefix : List ℕ) (m s k : ℕ) → behind prefix (first_lists m s (k + 1)) ≡ behind prefix (first_lists m s k) ++ behind (prefix ++ (s - k) ∷ []) (lists_of_sum m k)
unfolding behind first_lists
behind-next prefix m s k =
    ap (map (λ ds. prefix ++ ds)) (each-next (λ j. map (λ ds. (s - j) ∷ ds) (lists_of_sum m j)) k)
    ∙ map-append (λ ds. prefix ++ ds) (first_lists m s k) (map (λ ds. (s - k) ∷ ds) (lists_of_sum m k))
    ∙ ap (λ l. map (λ ds. prefix ++ ds) (first_lists m s k) ++ l)
    (map-map (λ ds. prefix ++ ds) (λ ds. (s - k) ∷ ds) (lists_of_sum m k)
    ∙ map-cong (λ ds. prefix ++ (s - k) ∷ ds) (λ ds. (prefix ++ (s - k) ∷ []) ++ ds) (lists_of_sum m k) (λ ds. sym (append_assoc prefix ((s - k) ∷ []) ds)))

none_more : (s k n : ℕ) → each (count_from (suc k) n) (λ j. map (λ ds. (s - j) ∷ ds) (lists_of_sum 0 j)) ≡ []
unfolding each count_from lists_of_sum
none_more s k zero = refl
none_more s k (suc n) = none_more s (suc k) n

-- the last number is what is left
pub behind-last : (prefix : List ℕ) (n s : ℕ) → n ≡ 1 → behind prefix (lists_of_sum n s) ≡ (prefix ++ s ∷ []) ∷ []
unfolding behind lists_of_sum below count_from each
behind-last prefix n s e =
    let z : s - 0 ≡ s = omega arith in
    ap (λ n. map (λ ds. prefix ++ ds) (lists_of_sum n s)) e
    ∙ ap (λ l. (prefix ++ (s - 0) ∷ []) ∷ map (λ ds. prefix ++ ds) l) (none_more s 0 s)
    ∙ ap (λ m. (prefix ++ m ∷ []) ∷ []) z

pub behind-nothing : (ls : List (List ℕ)) → behind [] ls ≡ ls
unfolding behind
behind-nothing [] = refl
behind-nothing (l ∷ ls) = ap (λ m. l ∷ m) (behind-nothing ls)
