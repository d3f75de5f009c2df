-- The walk over the places.
use Rattle.std.proofs.Common.{◌≡◌, ℕ, zero, suc, ◌-◌, ◌<◌, ◌≤◌, refl, sym, ap, ap₂, ◌∙◌, arith, List, [], ◌∷◌, ◌++◌, map, append_assoc}
use Rattle.airymore.proofs.Words.{below, count_from, each, Place, from, of_one, of_pair, place, places}
use Rattle.airy_relations.specs.Places.{from_to}
use Rattle.airy_relations.proofs.VerdictLemmas.{from_nothing, from_zero}

to_more : (a m : ℕ) → a < m → from_to a m ≡ a ∷ from_to (suc a) m
unfolding from_to count_from
to_more a m h = let e : m - a ≡ suc (m - suc a) = omega arith in ap (count_from a) e

to_last : (a m : ℕ) → suc a ≡ m → from_to a m ≡ a ∷ []
unfolding from_to count_from
to_last a m h = let e : m - a ≡ 1 = omega arith in ap (count_from a) e

each_more : {B : Type 0} (f : ℕ → List B) (a m : ℕ) → a < m → each (from_to a m) f ≡ f a ++ each (from_to (suc a) m) f
unfolding each
each_more f a m h = ap (λ xs. each xs f) (to_more a m h)

each_none : {B : Type 0} (f : ℕ → List B) (a m : ℕ) → m ≤ a → each (from_to a m) f ≡ []
unfolding each
each_none f a m h = ap (λ xs. each xs f) (from_nothing a m h)

-- the places from the first of a pair on
from_pair : (m i j : ℕ) → from m (place i j 0) ≡ of_pair m i j ++ (each (from_to (suc j) m) (of_pair m i) ++ each (from_to (suc i) m) (of_one m))
unfolding from of_pair place
from_pair m i j = ap (λ xs. map (place i j) xs ++ (each (from_to (suc j) m) (of_pair m i) ++ each (from_to (suc i) m) (of_one m))) (from_zero m)

-- those of the pairs from j on, and then of the operators behind i
from_j : (m i j : ℕ) → j < m → each (from_to j m) (of_pair m i) ++ each (from_to (suc i) m) (of_one m) ≡ from m (place i j 0)
from_j m i j h =
    ap (λ xs. xs ++ each (from_to (suc i) m) (of_one m)) (each_more (of_pair m i) j m h)
    ∙ append_assoc (of_pair m i j) (each (from_to (suc j) m) (of_pair m i)) (each (from_to (suc i) m) (of_one m))
    ∙ sym (from_pair m i j)

-- those of the operators from i on
from_i : (m i : ℕ) → suc i < m → each (from_to i m) (of_one m) ≡ from m (place i (suc i) 0)
unfolding of_one
from_i m i h = each_more (of_one m) i m (omega arith) ∙ from_j m i (suc i) h

-- the first of the places from one on is that one
pub head_of : (m : ℕ) (p : Place) → p.a < m → (rest : List Place) × (from m p ≡ p ∷ rest)
unfolding from place
head_of m p h = (
  map (place p.i p.j) (from_to (suc p.a) m) ++ (each (from_to (suc p.j) m) (of_pair m p.i) ++ each (from_to (suc p.i) m) (of_one m)),
  ap (λ xs. map (place p.i p.j) xs ++ (each (from_to (suc p.j) m) (of_pair m p.i) ++ each (from_to (suc p.i) m) (of_one m))) (to_more p.a m h),
)

-- ---- the next place

one_more : (m i j a : ℕ) → suc a < m → from m (place i j a) ≡ place i j a ∷ from m (place i j (suc a))
unfolding from place
one_more m i j a h = ap (λ xs. map (place i j) xs ++ (each (from_to (suc j) m) (of_pair m i) ++ each (from_to (suc i) m) (of_one m))) (to_more a m (omega arith))

pub next_a : (m i j a b : ℕ) → b ≡ suc a → b < m → from m (place i j a) ≡ place i j a ∷ from m (place i j b)
next_a m i j a b e h = one_more m i j a (omega arith) ∙ ap (λ x. place i j a ∷ from m (place i j x)) (sym e)

-- behind the last of a pair
last_a : (m i j a : ℕ) → suc a ≡ m → from m (place i j a) ≡ place i j a ∷ (each (from_to (suc j) m) (of_pair m i) ++ each (from_to (suc i) m) (of_one m))
unfolding from place
last_a m i j a h = ap (λ xs. map (place i j) xs ++ (each (from_to (suc j) m) (of_pair m i) ++ each (from_to (suc i) m) (of_one m))) (to_last a m h)

pub next_j : (m i j a b : ℕ) → suc a ≡ m → b ≡ suc j → b < m → from m (place i j a) ≡ place i j a ∷ from m (place i b 0)
next_j m i j a b last e h =
    last_a m i j a last ∙ ap (λ ps. place i j a ∷ ps) (from_j m i (suc j) (omega arith)) ∙ ap (λ x. place i j a ∷ from m (place i x 0)) (sym e)

last_j : (m i j a : ℕ) → suc a ≡ m → suc j ≡ m → from m (place i j a) ≡ place i j a ∷ each (from_to (suc i) m) (of_one m)
last_j m i j a last end = last_a m i j a last ∙ ap (λ ps. place i j a ∷ (ps ++ each (from_to (suc i) m) (of_one m))) (each_none (of_pair m i) (suc j) m (omega arith))

pub next_i : (m i j a b d : ℕ) → suc a ≡ m → suc j ≡ m → b ≡ suc i → d ≡ suc b → d < m → from m (place i j a) ≡ place i j a ∷ from m (place b d 0)
next_i m i j a b d last end e f h =
    last_j m i j a last end ∙ ap (λ ps. place i j a ∷ ps) (from_i m (suc i) (omega arith)) ∙ ap₂ (λ x y. place i j a ∷ from m (place x y 0)) (sym e) (ap suc (sym e) ∙ sym f)

pub next_none : (m i j a : ℕ) → suc a ≡ m → suc j ≡ m → i < j → m ≤ suc (suc i) → from m (place i j a) ≡ place i j a ∷ []
unfolding of_one each
next_none m i j a last end order h =
    last_j m i j a last end
    ∙ ap (λ ps. place i j a ∷ ps) (ap (λ xs. each xs (of_one m)) (to_last (suc i) m (omega arith)) ∙ ap (λ ps. ps ++ []) (each_none (of_pair m (suc i)) (suc (suc i)) m h))

-- ---- the first

pub first_of : (m : ℕ) → 1 < m → from m (place 0 1 0) ≡ places m
unfolding places
first_of m h = sym (from_i m 0 h) ∙ ap (λ xs. each xs (of_one m)) (from_zero m)

pub first_none : (m : ℕ) → m < 2 → [] ≡ places m
unfolding places below count_from each of_one from_to
first_none zero h = refl
first_none (suc zero) h = refl
first_none (suc (suc m)) h = absurd (omega arith)
