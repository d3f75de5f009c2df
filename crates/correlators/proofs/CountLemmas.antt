-- How many lists of numbers have a sum of at most s.
use Rattle.std.proofs.Common.{◌≡◌, ℕ, zero, suc, ◌+◌, ◌-◌, ◌*◌, ◌<◌, ◌≤◌, List, [], ◌∷◌, map, length, refl, sym, ap, ap₂, ◌∙◌, arith, length-append}
use Rattle.correlators.proofs.Words.{length-map, euler, below, count_from, each, binomial, binomial-over, binomial-zero, lists_of_sum, lists_up_to, greatest_sum, counted}
use Rattle.correlators.proofs.ListLemmas.{each-next}
use Rattle.airy_math.proofs.SplitLemmas.{binomial-all, binomial-suc}

-- a first number that is given by the others
length-each : (s : ℕ) (f : ℕ → List (List ℕ)) (ks : List ℕ) → length (each ks (λ k. map (λ ds. (s - k) ∷ ds) (f k))) ≡ length (each ks f)
unfolding each
length-each s f [] = refl
length-each s f (k ∷ ks) =
    length-append (map (λ ds. (s - k) ∷ ds) (f k)) (each ks (λ k. map (λ ds. (s - k) ∷ ds) (f k)))
    ∙ ap₂ (λ a b. a + b) (length-map (f k) (λ ds. (s - k) ∷ ds)) (length-each s f ks) ∙ sym (length-append (f k) (each ks f))

one_more : (n s : ℕ) → length (lists_of_sum (suc n) s) ≡ length (lists_up_to n s)
unfolding lists_of_sum lists_up_to
one_more n s = length-each s (lists_of_sum n) (below (suc s))

next_sum : (n s : ℕ) → length (lists_up_to n (suc s)) ≡ length (lists_up_to n s) + length (lists_of_sum n (suc s))
unfolding lists_up_to
next_sum n s =
    let e : suc (suc s) ≡ suc s + 1 = omega arith in
    ap (λ m. length (each (below m) (lists_of_sum n))) e ∙ ap length (each-next (lists_of_sum n) (suc s)) ∙ length-append (each (below (suc s)) (lists_of_sum n)) (lists_of_sum n (suc s))

first_sum : (n : ℕ) → length (lists_up_to n 0) ≡ length (lists_of_sum n 0)
unfolding lists_up_to below count_from each
first_sum n = length-append (lists_of_sum n 0) [] ∙ omega arith

no_sum : (n : ℕ) → length (lists_up_to n 0) ≡ 1
unfolding lists_of_sum
no_sum zero = first_sum zero ∙ none
  where
    none : length (lists_of_sum 0 0) ≡ 1
    none = refl
no_sum (suc n) = first_sum (suc n) ∙ one_more n 0 ∙ no_sum n

no_number : (s : ℕ) → length (lists_up_to 0 s) ≡ 1
unfolding lists_of_sum
no_number zero = no_sum 0
no_number (suc s) = next_sum 0 s ∙ omega (arith, no_number s)

row : (n : ℕ) → ((s : ℕ) → length (lists_up_to n s) ≡ binomial (s + n) n) → (s : ℕ) → length (lists_up_to (suc n) s) ≡ binomial (s + suc n) (suc n)
row n below_row zero = let e : 0 + suc n ≡ suc n = omega arith in no_sum (suc n) ∙ sym (ap (λ m. binomial m (suc n)) e ∙ binomial-all (suc n))
row n below_row (suc s) =
    let e : suc s + n ≡ s + suc n = omega arith in
    let t : suc s + suc n ≡ suc (s + suc n) = omega arith in
    next_sum (suc n) s ∙ ap₂ (λ a b. a + b) (row n below_row s) (one_more n (suc s) ∙ below_row (suc s) ∙ ap (λ m. binomial m n) e)
    ∙ swap (binomial (s + suc n) (suc n)) (binomial (s + suc n) n) ∙ sym (ap (λ m. binomial m (suc n)) t ∙ binomial-suc (s + suc n) n)
  where
    swap : (a b : ℕ) → a + b ≡ b + a
    swap a b = omega arith

lists_counted : (n s : ℕ) → length (lists_up_to n s) ≡ binomial (s + n) n
unfolding binomial
lists_counted zero s = no_number s ∙ sym (binomial-zero (s + 0))
lists_counted (suc n) s = row n (lists_counted n) s

pub counted_lists : (g n : ℕ) → 0 < euler g n → 1 ≤ n → counted g n ≡ length (lists_up_to n (greatest_sum g n))
unfolding counted euler
counted_lists g n stable some =
    let e : 3 * g + 2 * n - 3 ≡ greatest_sum g n + n = omega (arith, stable) in
    ap (λ m. binomial m n) e ∙ sym (lists_counted n (greatest_sum g n))
