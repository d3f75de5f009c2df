-- Codes of lists, and how large codes are.
use Rattle.std.proofs.Common.{ℕ, zero, suc, ◌+◌, ◌*◌, ◌%◌, ◌<◌, ◌≤◌, ◌^◌, ◌≡◌, refl, ap, ◌∙◌, Bool, true, false, List, [], ◌∷◌, ◌++◌, leb, length, take, set, get_or, ◌⊎◌, inl, inr, length-take-le, get_or-set_other, arith}
use Rattle.std.proofs.lemmas.Bool.{cases_lt}
use Rattle.std.proofs.lemmas.List.{take_more}
use Rattle.std.proofs.lemmas.Grind.{get_or-set_at}
use Rattle.airy_math.specs.Keys.{total, insert}
use Rattle.key_index.specs.Codes.{code_root, code_prime, code_of_index, code_of_list}

-- the code of the next index
pub index_code-next : (x : ℕ) → code_of_index (x + 1) ≡ code_of_index x * code_root % code_prime
unfolding code_of_index
index_code-next x = ap code_of_index (next x) ∙ step x
  where
    next : (x : ℕ) → x + 1 ≡ suc x
    next x = omega arith

    step : (x : ℕ) → code_of_index (suc x) ≡ code_of_index x * code_root % code_prime
    step x = refl

-- the code of an index is below 2^58
pub index_code-small : (x : ℕ) → code_of_index x < 2 ^ 58
unfolding code_of_index code_root code_prime
index_code-small zero = omega arith
index_code-small (suc x) = below (code_of_index x * 178136169051924959)
  where
    below : (n : ℕ) → n % 288230376151711717 < 2 ^ 58
    below n = omega arith

-- of no index
pub list_code-none : code_of_list [] ≡ 0
unfolding code_of_list total
list_code-none = refl

-- with an index in front
pub list_code-more : (x : ℕ) (xs : List ℕ) → code_of_list (x ∷ xs) ≡ code_of_index x + code_of_list xs
unfolding code_of_list total
list_code-more x xs = refl

pub list_code-append : (xs ys : List ℕ) → code_of_list (xs ++ ys) ≡ code_of_list xs + code_of_list ys
unfolding code_of_list total
list_code-append [] ys = omega arith
list_code-append (x ∷ xs) ys = omega (arith, list_code-append xs ys)

-- with an index at the end
pub list_code-push : (x : ℕ) (xs : List ℕ) → code_of_list (xs ++ x ∷ []) ≡ code_of_list xs + code_of_index x
list_code-push x xs = omega (arith, list_code-append xs (x ∷ []), list_code-more x [], list_code-none)

-- with an index in its place
pub list_code-insert : (x : ℕ) (xs : List ℕ) → code_of_list (insert x xs) ≡ code_of_index x + code_of_list xs
unfolding insert
list_code-insert x [] = list_code-more x []
list_code-insert x (y ∷ ys) = by (list_code-insert x ys) (leb x y)
  where
    by : code_of_list (insert x ys) ≡ code_of_index x + code_of_list ys → (t : Bool) → code_of_list (elim t [ true ↦ x ∷ y ∷ ys | false ↦ y ∷ insert x ys ]) ≡ code_of_index x + code_of_list (y ∷ ys)
    by behind true = list_code-more x (y ∷ ys)
    by behind false = omega (arith, list_code-more y (insert x ys), list_code-more y ys, behind)

-- the codes of n indices add up to at most n (2^58 - 1)
pub list_code-small : (xs : List ℕ) → code_of_list xs + length xs ≤ length xs * 2 ^ 58
list_code-small [] = omega (arith, list_code-none)
list_code-small (x ∷ xs) = omega (arith, list_code-more x xs, index_code-small x, list_code-small xs)

-- the code of the first i + 1 indices
pub list_code-next : (xs : List ℕ) (i : ℕ) → i < length xs → code_of_list (take (i + 1) xs) ≡ code_of_list (take i xs) + code_of_index (get_or xs i 0)
list_code-next xs i h = ap code_of_list (take_more xs i 0 h) ∙ list_code-push (get_or xs i 0) (take i xs)

-- the code of the first i indices is small
pub list_code-taken : (xs : List ℕ) (i : ℕ) → i ≤ length xs → code_of_list (take i xs) ≤ i * 2 ^ 58
list_code-taken xs i h = omega (arith, list_code-small (take i xs), length-take-le i xs h)

-- a table of codes that has one more
pub codes-more : (codes : List ℕ) (i code : ℕ) → i < length codes → code ≡ code_of_index i → ((x : ℕ) → x < i → get_or codes x 0 ≡ code_of_index x) → (x : ℕ) → x < i + 1 → get_or (set codes i code) x 0 ≡ code_of_index x
codes-more codes i code h e before x l = by (cases_lt x i)
  where
    at : (i x : ℕ) → i ≤ x → x < i + 1 → i ≡ x
    at i x s l = omega arith

    by : (x < i) ⊎ (i ≤ x) → get_or (set codes i code) x 0 ≡ code_of_index x
    by (inl s) = get_or-set_other codes i x code 0 (λ f. grind arith) ∙ before x s
    by (inr s) = get_or-set_at codes i x code 0 (omega arith) h ∙ e ∙ ap code_of_index (at i x s l)
