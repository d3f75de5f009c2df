-- The places that a check looks at, one by one; and what the first verdict over them says.
use Rattle.std.proofs.Common.{ℕ, zero, suc, ◌+◌, ◌-◌, ◌<◌, ◌≤◌, ◌≡◌, refl, subst, ◌∙◌, List, [], ◌∷◌, map, ◌⊎◌, inl, inr, arith}
use Rattle.std.proofs.lemmas.Bool.{cases_lt}
use Rattle.airy_math.specs.Rational.{ℚ}
use Rattle.airy_math.specs.Sums.{below, count_from, each}
use Rattle.airy_math.proofs.EachLemmas.{Each-left, Each-right}
use Rattle.airy_math.proofs.SumLemmas.{Each, Each-below, Each-count, Each-each, Each-from_all, Each-map}
use Rattle.airy_relations.specs.Sides.{Rel, AA, BA, BB, BC, D}
use Rattle.airy_relations.specs.Places.{Place, choices_k, choices_l, from_to, places_of, places}
use Rattle.airy_relations.specs.Verdicts.{Verdict, Closed, Differs, Over, or_later, first_over}

-- a place of the list
pub record IsPlace (N : ℕ) (p : Place) : Type 0 where
  pub ordered : p.i < p.j
  pub j_below : p.j < N
  pub k_below : p.k < choices_k p.rel N
  pub l_below : p.l < choices_l p.rel N

-- what holds of these holds of each element
pub each_place : (N : ℕ) (P : Place → Type 0) → ((p : Place) → IsPlace N p → P p) → Each P (places N)
unfolding places places_of from_to
each_place N P h =
    Each-each P _ (AA ∷ BA ∷ BB ∷ BC ∷ D ∷ []) (Each-from_all _ (AA ∷ BA ∷ BB ∷ BC ∷ D ∷ []) (λ rel.
    Each-each P _ (below N) (Each-below _ N (λ i hi.
    Each-each P _ (count_from (suc i) (N - suc i)) (Each-count _ (suc i) (N - suc i) (λ j ij hj.
    Each-each P _ (below (choices_k rel N)) (Each-below _ (choices_k rel N) (λ k hk.
    Each-map P _ (below (choices_l rel N)) (Each-below _ (choices_l rel N) (λ l hl.
    h _ (record { ordered = ij; j_below = omega arith; k_below = hk; l_below = hl })))))))))))

at_each : {B : Type 0} (P : B → Type 0) (f : ℕ → List B) (a n x : ℕ) → Each P (each (count_from a n) f) → a ≤ x → x < a + n → Each P (f x)
unfolding each count_from
at_each P f a zero x h p q = absurd (omega arith)
at_each P f a (suc n) x h p q = by (cases_lt a x) (λ r. at_each P f (suc a) n x (Each-right P (f a) (each (count_from (suc a) n) f) h) r (omega arith))
  where
    same : x ≤ a → a ≡ x
    same r = omega arith

    by : (a < x) ⊎ (x ≤ a) → (suc a ≤ x → Each P (f x)) → Each P (f x)
    by (inl r) k = k r
    by (inr r) k = subst (λ y. Each P (f y)) (same r) (Each-left P (f a) (each (count_from (suc a) n) f) h)

one_by_one : {A B : Type 0} (P : B → Type 0) (f : A → B) (xs : List A) → Each P (map f xs) → Each P (each xs (λ x. f x ∷ []))
unfolding each
one_by_one P f [] h = tt
one_by_one P f (x ∷ xs) h = (h.0, one_by_one P f xs h.1)

module _ (N : ℕ) (P : Place → Type 0) (h : Each P (places N)) where
  first : (rel : Rel) (rels : List Rel) → Each P (each (rel ∷ rels) (places_of N)) → Each P (places_of N rel)
  unfolding each
  first rel rels = Each-left P (places_of N rel) (each rels (places_of N))

  behind : (rel : Rel) (rels : List Rel) → Each P (each (rel ∷ rels) (places_of N)) → Each P (each rels (places_of N))
  unfolding each
  behind rel rels = Each-right P (places_of N rel) (each rels (places_of N))

  at_rel : (rel : Rel) → Each P (places_of N rel)
  unfolding places
  at_rel AA = first AA _ h
  at_rel BA = first BA _ (behind AA _ h)
  at_rel BB = first BB _ (behind BA _ (behind AA _ h))
  at_rel BC = first BC _ (behind BB _ (behind BA _ (behind AA _ h)))
  at_rel D = first D _ (behind BC _ (behind BB _ (behind BA _ (behind AA _ h))))

  -- what holds of each element holds of these
  pub at_place : (p : Place) → IsPlace N p → P p
  unfolding places_of from_to below
  at_place p is =
      let is_i = at_each P _ 0 N p.i (at_rel p.rel) (omega arith) (omega (arith, is.ordered, is.j_below)) in
      let is_j = at_each P _ (suc p.i) (N - suc p.i) p.j is_i is.ordered (omega (arith, is.ordered, is.j_below)) in
      let is_k = at_each P _ 0 (choices_k p.rel N) p.k is_j (omega arith) (omega (arith, is.k_below)) in
      (at_each P _ 0 (choices_l p.rel N) p.l (one_by_one P _ (below (choices_l p.rel N)) is_k) (omega arith) (omega (arith, is.l_below))).0

-- where all is fine, each element is
pub each_closed : {A : Type 0} (f : A → Verdict) (xs : List A) → first_over xs f ≡ Closed → Each (λ x. f x ≡ Closed) xs
unfolding first_over or_later
each_closed f [] e = tt
each_closed f (x ∷ xs) e = by (f x) refl e (each_closed f xs)
  where
    by : (v : Verdict) → f x ≡ v → or_later v (first_over xs f) ≡ Closed → (first_over xs f ≡ Closed → Each (λ x. f x ≡ Closed) xs) → Each (λ x. f x ≡ Closed) (x ∷ xs)
    by Closed q e more = (q, more e)
    by (Differs r p u w) q e more = cc
    by (Over r p) q e more = cc

-- the element at which f says v
pub record IsFound {A : Type 0} (f : A → Verdict) (P : A → Type 0) (v : Verdict) : Type 0 where
  pub x : A
  pub holds : P x
  pub says : f x ≡ v

pub differs_found : {A : Type 0} (f : A → Verdict) (P : A → Type 0) (xs : List A) (r : Rel) (p : List ℕ) (u w : ℚ) → Each P xs → first_over xs f ≡ Differs r p u w → IsFound f P (Differs r p u w)
unfolding first_over or_later
differs_found f P [] r p u w h e = cc
differs_found f P (x ∷ xs) r p u w h e = by (f x) refl e (differs_found f P xs r p u w h.1)
  where
    by : (v : Verdict) → f x ≡ v → or_later v (first_over xs f) ≡ Differs r p u w → (first_over xs f ≡ Differs r p u w → IsFound f P (Differs r p u w)) → IsFound f P (Differs r p u w)
    by Closed q e more = more e
    by (Differs r' p' u' w') q e more = record { x = x; holds = h.0; says = q ∙ e }
    by (Over r' p') q e more = cc
