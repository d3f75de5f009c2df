-- Lists put in order: what does not depend on the order.
use Rattle.std.proofs.Common.{◌≡◌, ℕ, ◌+◌, ◌*◌, Bool, true, false, List, [], ◌∷◌, refl, sym, ap, ◌∙◌, arith, leb, ltb}
use Rattle.correlators.proofs.Words.{and_parts, factorial, ordered, ordered_with, total, exponents, IsSortedFrom, raise, exponents-cons, raise_comm, sorted-insert, are_below, length_factorials}
use Rattle.std.proofs.lemmas.Bool.{ltb-true}
use Rattle.airy_math.specs.Keys.{insert}

-- F takes the elements one by one, in whatever order
module _ {A : Type 0} (F : List ℕ → A) (step : ℕ → A → A) (cons : (x : ℕ) (xs : List ℕ) → F (x ∷ xs) ≡ step x (F xs)) (swap : (x y : ℕ) (a : A) → step x (step y a) ≡ step y (step x a)) where
  of_inserted : (a : ℕ) (xs : List ℕ) → F (insert a xs) ≡ step a (F xs)
  unfolding insert
  of_inserted a [] = cons a []
  of_inserted a (x ∷ xs) = by (leb a x) (of_inserted a xs)
    where
      by : (t : Bool) → F (insert a xs) ≡ step a (F xs) → F (elim t [ true ↦ a ∷ x ∷ xs | false ↦ x ∷ insert a xs ]) ≡ step a (F (x ∷ xs))
      by true e = cons a (x ∷ xs)
      by false e = cons x (insert a xs) ∙ ap (step x) e ∙ swap x a (F xs) ∙ ap (step a) (sym (cons x xs))

  steps : List ℕ → A → A
  steps [] a = a
  steps (x ∷ xs) a = steps xs (step x a)

  steps-step : (x : ℕ) (xs : List ℕ) (a : A) → steps xs (step x a) ≡ step x (steps xs a)
  unfolding steps
  steps-step x [] a = refl
  steps-step x (y ∷ xs) a = ap (steps xs) (swap y x a) ∙ steps-step x xs (step y a)

  of_steps : (xs : List ℕ) → F xs ≡ steps xs (F [])
  unfolding steps
  of_steps [] = refl
  of_steps (x ∷ xs) = cons x xs ∙ ap (step x) (of_steps xs) ∙ sym (steps-step x xs (F []))

  of_ordered_with : (done xs : List ℕ) → F (ordered_with done xs) ≡ steps xs (F done)
  unfolding ordered_with steps
  of_ordered_with done [] = refl
  of_ordered_with done (x ∷ xs) = of_ordered_with (insert x done) xs ∙ ap (steps xs) (of_inserted x done)

  of_ordered : (xs : List ℕ) → F (ordered xs) ≡ F xs
  unfolding ordered
  of_ordered xs = of_ordered_with [] xs ∙ sym (of_steps xs)

pub total-ordered : (xs : List ℕ) → total (ordered xs) ≡ total xs
unfolding total
total-ordered = of_ordered total (λ x n. x + n) (λ x xs. refl) (λ x y n. omega arith)

pub exponents-ordered : (m : ℕ) (xs : List ℕ) → exponents m (ordered xs) ≡ exponents m xs
exponents-ordered m = of_ordered (exponents m) (λ x e. raise e x) (exponents-cons m) (λ x y e. raise_comm e y x)

pub factorials-ordered : (xs : List ℕ) → length_factorials (ordered xs) ≡ length_factorials xs
unfolding length_factorials
factorials-ordered = of_ordered length_factorials (λ x n. factorial (2 * x + 1) * n) (λ x xs. refl) (λ x y n. omega arith)

sorted_with : (m : ℕ) (done xs : List ℕ) → IsSortedFrom 0 m done → are_below m xs ≡ true → IsSortedFrom 0 m (ordered_with done xs)
unfolding ordered_with are_below
sorted_with m done [] s b = s
sorted_with m done (x ∷ xs) s b =
    let h = and_parts (ltb x m) (are_below m xs) b in
    sorted_with m (insert x done) xs (sorted-insert x 0 m done (omega arith) (ltb-true x m h.0) s) h.1

pub sorted-ordered : (m : ℕ) (xs : List ℕ) → are_below m xs ≡ true → IsSortedFrom 0 m (ordered xs)
unfolding ordered IsSortedFrom
sorted-ordered m xs b = sorted_with m [] xs tt b
