-- The first verdict over a list, step by step.
use Rattle.std.proofs.Common.{ℕ, suc, ◌+◌, ◌-◌, ◌<◌, ◌≤◌, ◌≡◌, refl, sym, ap, ap₂, ◌∙◌, List, [], ◌∷◌, ◌++◌, map, arith, length, drop, get_or, drop-cons, add-one}
use Rattle.std.proofs.lemmas.List.{drop_all}
use Rattle.airy_math.proofs.SameNumbers.{eq-same}
use Rattle.airy_math.specs.Sums.{below, count_from, each}
use Rattle.airy_math.specs.Tensors.{Tensors}
use Rattle.airy_relations.specs.Sides.{Rel, AA, BA, BB, BC, D}
use Rattle.airy_relations.specs.Places.{choices_k, choices_l, from_to, places, places_of}
use Rattle.airy_relations.specs.Verdicts.{Verdict, Closed, Differs, Over, or_later, first_over, verdict_at, verdict}
use Rattle.airy_relations.specs.Walks.{place, over_l, over_k, over_j, over_i}

-- ---- the first verdict over lists

or_assoc : (u v w : Verdict) → or_later (or_later u v) w ≡ or_later u (or_later v w)
unfolding or_later
or_assoc Closed v w = refl
or_assoc (Differs r p x y) v w = refl
or_assoc (Over r p) v w = refl

first-append : {A : Type 0} (f : A → Verdict) (xs ys : List A) → first_over (xs ++ ys) f ≡ or_later (first_over xs f) (first_over ys f)
unfolding first_over or_later
first-append f [] ys = refl
first-append f (x ∷ xs) ys = ap (or_later (f x)) (first-append f xs ys) ∙ sym (or_assoc (f x) (first_over xs f) (first_over ys f))

first-each : {A B : Type 0} (f : B → Verdict) (h : A → List B) (xs : List A) → first_over (each xs h) f ≡ first_over xs (λ x. first_over (h x) f)
unfolding first_over each
first-each f h [] = refl
first-each f h (x ∷ xs) = first-append f (h x) (each xs h) ∙ ap (or_later (first_over (h x) f)) (first-each f h xs)

first-map : {A B : Type 0} (f : B → Verdict) (h : A → B) (xs : List A) → first_over (map h xs) f ≡ first_over xs (λ x. f (h x))
unfolding first_over
first-map f h [] = refl
first-map f h (x ∷ xs) = ap (or_later (f (h x))) (first-map f h xs)

first-cong : {A : Type 0} (f g : A → Verdict) (xs : List A) → ((x : A) → f x ≡ g x) → first_over xs f ≡ first_over xs g
unfolding first_over
first-cong f g [] h = refl
first-cong f g (x ∷ xs) h = ap₂ or_later (h x) (first-cong f g xs h)

-- the places of a relation, index by index
places_are : (T : Tensors) (N : ℕ) (rel : Rel) → first_over (places_of N rel) (verdict_at T) ≡ over_i T N rel
unfolding places_of over_i over_j over_k over_l place
places_are T N rel =
    first-each (verdict_at T) _ (below N)
    ∙ first-cong _ _ (below N) (λ i. first-each (verdict_at T) _ (from_to (suc i) N)
    ∙ first-cong _ _ (from_to (suc i) N) (λ j. first-each (verdict_at T) _ (below (choices_k rel N))
    ∙ first-cong _ _ (below (choices_k rel N)) (λ k. first-map (verdict_at T) _ (below (choices_l rel N)))))

pub verdict_is : (T : Tensors) (N : ℕ) → verdict T N ≡ first_over (AA ∷ BA ∷ BB ∷ BC ∷ D ∷ []) (over_i T N)
unfolding verdict places
verdict_is T N = first-each (verdict_at T) (places_of N) (AA ∷ BA ∷ BB ∷ BC ∷ D ∷ []) ∙ first-cong _ _ (AA ∷ BA ∷ BB ∷ BC ∷ D ∷ []) (places_are T N)

-- ---- a walk along the numbers from a to b

pub from_more : (a b : ℕ) → a < b → from_to a b ≡ a ∷ from_to (a + 1) b
unfolding from_to count_from
from_more a b h = by (b - a) (b - (a + 1)) (omega arith)
  where
    next : suc a ≡ a + 1
    next = omega arith

    by : (n m : ℕ) → n ≡ suc m → count_from a n ≡ a ∷ count_from (a + 1) m
    by n m e = ap (count_from a) e ∙ ap (λ t. a ∷ count_from t m) next

pub from_nothing : (a b : ℕ) → b ≤ a → from_to a b ≡ []
unfolding from_to count_from
from_nothing a b h = ap (count_from a) (none a b h)
  where
    none : (a b : ℕ) → b ≤ a → b - a ≡ 0
    none a b h = omega arith

pub from_zero : (n : ℕ) → from_to 0 n ≡ below n
unfolding from_to below
from_zero n = ap (count_from 0) (same n)
  where
    same : (n : ℕ) → n - 0 ≡ n
    same n = omega arith

pub walk_step : (f : ℕ → Verdict) (a b : ℕ) → a < b → f a ≡ Closed → first_over (from_to a b) f ≡ first_over (from_to (a + 1) b) f
unfolding first_over or_later
walk_step f a b h e = ap (λ xs. first_over xs f) (from_more a b h) ∙ ap (λ v. or_later v (first_over (from_to (a + 1) b) f)) e

or_found : (v w : Verdict) → (v ≡ Closed → ⊥) → or_later v w ≡ v
unfolding or_later
or_found Closed w h = absurd (h refl)
or_found (Differs r p x y) w h = refl
or_found (Over r p) w h = refl

pub walk_found : (f : ℕ → Verdict) (a b : ℕ) → a < b → (f a ≡ Closed → ⊥) → first_over (from_to a b) f ≡ f a
unfolding first_over
walk_found f a b h e = ap (λ xs. first_over xs f) (from_more a b h) ∙ or_found (f a) (first_over (from_to (a + 1) b) f) e

pub walk_end : (f : ℕ → Verdict) (a b : ℕ) → b ≤ a → first_over (from_to a b) f ≡ Closed
unfolding first_over
walk_end f a b h = ap (λ xs. first_over xs f) (from_nothing a b h)

-- ---- a walk along a list

-- the element at the place i, and those behind it
list_at : {A : Type 0} (f : A → Verdict) (xs : List A) (i : ℕ) (d : A) → i < length xs → first_over (drop i xs) f ≡ or_later (f (get_or xs i d)) (first_over (drop (i + 1) xs) f)
unfolding first_over
list_at f xs i d h = rw (add-one, drop-cons xs i d h) refl

pub list_step : {A : Type 0} (f : A → Verdict) (xs : List A) (i : ℕ) (d : A) (v : Verdict) → i < length xs → v ≡ f (get_or xs i d) → v ≡ Closed → first_over (drop (i + 1) xs) f ≡ first_over (drop i xs) f
unfolding or_later
list_step f xs i d v h e q = sym (list_at f xs i d h ∙ ap (λ u. or_later u (first_over (drop (i + 1) xs) f)) (sym e ∙ q))

pub list_found : {A : Type 0} (f : A → Verdict) (xs : List A) (i : ℕ) (d : A) (v : Verdict) → i < length xs → v ≡ f (get_or xs i d) → (v ≡ Closed → ⊥) → v ≡ first_over (drop i xs) f
list_found f xs i d v h e q = e ∙ sym (list_at f xs i d h ∙ or_found (f (get_or xs i d)) (first_over (drop (i + 1) xs) f) (λ c. q (e ∙ c)))

pub list_end : {A : Type 0} (f : A → Verdict) (xs : List A) (i : ℕ) → length xs ≤ i → first_over (drop i xs) f ≡ Closed
unfolding first_over
list_end f xs i h = ap (λ ys. first_over ys f) (drop_all i xs h)

pub ruleset along_numbers = (walk_step, walk_found, walk_end, from_zero)

pub ruleset along_list = (list_end, verdict_is)

pub ruleset equal_sides = eq-same
