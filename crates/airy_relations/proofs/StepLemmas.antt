-- A total, step by step.
use Rattle.std.proofs.Common.{ℕ, ◌+◌, ◌<◌, ◌≤◌, ◌≡◌, refl, sym, ap, ◌∙◌, List, [], ◌∷◌, ◌++◌, map, eqb, Option, Some, None, option_and_then}
use Rattle.std.proofs.lemmas.List.{map-append}
use Rattle.airy_math.specs.Rational.{ℚ}
use Rattle.airy_math.specs.RationalLaws.{0ℚ}
use Rattle.airy_math.specs.Sums.{each}
use Rattle.airy_math.specs.Obtained.{IsInRange, obtained_sum, obtained_product, ◌⊛◌, both_obtained, obtained_from}
use Rattle.airy_math.specs.Terms.{obtained_half}
use Rattle.airy_math.specs.Tensors.{Tensors}
use Rattle.airy_relations.specs.Sides.{Product, Alone, Times, of_pair, obtained_value}
use Rattle.airy_relations.specs.Places.{from_to}
use Rattle.airy_relations.specs.Steps.{added, added_all}
use Rattle.airy_relations.proofs.ObtainedLemmas.{sum_zero, zero_sum, product_zero, product_zero_last, from_append}
use Rattle.airy_relations.proofs.VerdictLemmas.{from_more, from_nothing}
use Rattle.airy_math.proofs.ObtainedLaw.{none_stays}

-- a product with a factor 0 leaves the total
pub added_zero : (s x y : ℚ) → IsInRange s → x ≡ 0ℚ → added (Some s) (Times x y) ≡ Some s
unfolding added both_obtained obtained_value
added_zero s x y h e = ap (λ x. both_obtained obtained_sum (Some s) (obtained_product x y)) e ∙ ap (both_obtained obtained_sum (Some s)) (product_zero y) ∙ sum_zero s h

pub added_zero_last : (s x y : ℚ) → IsInRange s → y ≡ 0ℚ → added (Some s) (Times x y) ≡ Some s
unfolding added both_obtained obtained_value
added_zero_last s x y h e = ap (λ y. both_obtained obtained_sum (Some s) (obtained_product x y)) e ∙ ap (both_obtained obtained_sum (Some s)) (product_zero_last x) ∙ sum_zero s h

pub added_alone : (x : ℚ) → IsInRange x → added_all (Some 0ℚ) (Alone x ∷ []) ≡ Some x
unfolding added_all obtained_from both_obtained obtained_value
added_alone x h = zero_sum x h

pub all_append : (s : Option ℚ) (ps qs : List Product) → added_all s (ps ++ qs) ≡ added_all (added_all s ps) qs
unfolding added_all
all_append s ps qs = ap (obtained_from s) (map-append obtained_value ps qs) ∙ from_append s (map obtained_value ps) (map obtained_value qs)

pub all_none : (ps : List Product) → added_all None ps ≡ None
unfolding added_all
all_none ps = none_stays (map obtained_value ps)

-- the products of a, and then those of the numbers behind it
pub along_step : (h : ℕ → List Product) (s : Option ℚ) (a n : ℕ) → a < n → added_all s (each (from_to a n) h) ≡ added_all (added_all s (h a)) (each (from_to (a + 1) n) h)
unfolding each
along_step h s a n p = ap (λ xs. added_all s (each xs h)) (from_more a n p) ∙ all_append s (h a) (each (from_to (a + 1) n) h)

pub along_end : (h : ℕ → List Product) (s : Option ℚ) (a n : ℕ) → n ≤ a → added_all s (each (from_to a n) h) ≡ s
unfolding each added_all obtained_from
along_end h s a n p = ap (λ xs. added_all s (each xs h)) (from_nothing a n p)

-- a step by equal factors
pub stepped : (s : Option ℚ) (x y y' : ℚ) (r o : Option ℚ) → r ≡ added s (Times x y) → y ≡ y' → r ≡ o → added s (Times x y') ≡ o
stepped s x y y' r o e f g = ap (λ z. added s (Times x z)) (sym f) ∙ sym e ∙ g

-- an entry of row_c(i) with its weight
pub added_pair : (T : Tensors) (j : ℕ) (e : ℕ × ℕ × ℚ) (s : ℚ) → added (Some s) (of_pair T j e) ≡ option_and_then (λ w. added (Some s) (Times w (T.A j e.0 e.1))) (obtained_half (eqb e.0 e.1) e.2)
unfolding added of_pair obtained_value both_obtained ◌⊛◌
added_pair T j e s = by (obtained_half (eqb e.0 e.1) e.2)
  where
    by : (o : Option ℚ) → both_obtained obtained_sum (Some s) (both_obtained obtained_product o (Some (T.A j e.0 e.1))) ≡ option_and_then (λ w. both_obtained obtained_sum (Some s) (obtained_product w (T.A j e.0 e.1))) o
    by None = refl
    by (Some w) = refl
