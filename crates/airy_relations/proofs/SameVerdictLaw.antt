-- The verdict on places below dim is the same for two tensors with the same entries at indices below dim.
use Rattle.std.proofs.Common.{ℕ, ◌<◌, ◌≤◌, ◌≡◌, refl, ap, ap₂, ◌∙◌, not, ◌&&◌, List, [], ◌∷◌, ◌++◌, map, arith, leb, eqb, Some}
use Rattle.airy_math.specs.Obtained.{obtained_from}
use Rattle.airy_math.specs.Rational.{ℚ}
use Rattle.airy_math.specs.RationalLaws.{0ℚ}
use Rattle.airy_math.specs.Sums.{below, each, keep}
use Rattle.airy_math.specs.Tensors.{Tensors, SameEntries, is_zero, row_c}
use Rattle.airy_math.proofs.SumLemmas.{Each, Each-below, Each-each, Each-map, Each-weaken}
use Rattle.airy_math.proofs.PlannedLaw.{Each-keep}
use Rattle.airy_math.proofs.SamePlanLaw.{each-cong_each}
use Rattle.airy_relations.specs.Sides.{Rel, AA, BA, BB, BC, D, Product, Alone, Times, Weighted, at_BA, at_BB, at_BC, at_D, of_pair, products, obtained_value, obtained_side}
use Rattle.airy_relations.specs.Places.{Place, choices_k, choices_l, places}
use Rattle.airy_relations.specs.SameVerdict.{SameVerdictLaw}
use Rattle.airy_relations.specs.Verdicts.{Verdict, compared, or_later, first_over, verdict_at, verdict}
use Rattle.airy_relations.proofs.PlaceLemmas.{IsPlace, each_place}
use Rattle.airy_math.proofs.EachLemmas.{map-cong_each}

-- ---- lists

first-cong_each : {A : Type 0} (f h : A → Verdict) (xs : List A) → Each (λ x. f x ≡ h x) xs → first_over xs f ≡ first_over xs h
unfolding first_over
first-cong_each f h [] e = refl
first-cong_each f h (x ∷ xs) e = ap₂ or_later e.0 (first-cong_each f h xs e.1)

three : (x x' y y' z z' : Product) → x ≡ x' → y ≡ y' → z ≡ z' → x ∷ y ∷ z ∷ [] ≡ x' ∷ y' ∷ z' ∷ []
three x x' y y' z z' p q r = ap₂ ◌∷◌ p (ap₂ (λ u v. u ∷ v ∷ []) q r)

-- both indices of an entry of a row are below n
abbrev AreBelow : ℕ → ℕ × ℕ × ℚ → Type 0
AreBelow n e = (e.0 < n) × (e.1 < n)

row_c_below : (T : Tensors) (i : ℕ) → Each (AreBelow T.dim) (row_c T i)
unfolding row_c
row_c_below T i =
    Each-keep (AreBelow T.dim) _ (each (below T.dim) (λ a. map (λ b. (a, b, T.C i a b)) (below T.dim)))
    (Each-each _ (λ a. map (λ b. (a, b, T.C i a b)) (below T.dim)) (below T.dim) (Each-below _ T.dim (λ a p.
    Each-map _ (λ b. (a, b, T.C i a b)) (below T.dim) (Each-below _ T.dim (λ b q t. (p, q))))))

module _ (T T' : Tensors) (is : SameEntries T T') where
  -- ---- the products of a side

  row_c_same : (i : ℕ) → i < T.dim → row_c T i ≡ row_c T' i
  unfolding row_c
  row_c_same i p =
      ap (keep (λ r. leb r.0 r.1 && not (is_zero r.2)))
      (each-cong_each (λ a. line T a T.dim) (λ a. line T' a T.dim) (below T.dim) (Each-below _ T.dim (λ a q. map-cong_each {A = ℕ} {B = ℕ × ℕ × ℚ} (λ b. (a, b, T.C i a b)) (λ b. (a, b, T'.C i a b)) (below T.dim) (Each-below _ T.dim (λ b r. ap (λ v. (a, b, v)) (is.C i a b p q r)))))
      ∙ ap (λ m. each (below m) (λ a. line T' a m)) is.dim)
    where
      line : Tensors → ℕ → ℕ → List (ℕ × ℕ × ℚ)
      line S a m = map (λ b. (a, b, S.C i a b)) (below m)

  over_dim : (f f' : ℕ → List Product) → ((a : ℕ) → a < T.dim → f a ≡ f' a) → each (below T.dim) f ≡ each (below T'.dim) f'
  over_dim f f' e = each-cong_each f f' (below T.dim) (Each-below _ T.dim e) ∙ ap (λ m. each (below m) f') is.dim

  BA_same : (i j k l : ℕ) → i < T.dim → j < T.dim → k < T.dim → l < T.dim → (a : ℕ) → a < T.dim → at_BA T i j k l a ≡ at_BA T' i j k l a
  unfolding at_BA
  BA_same i j k l p q r s a t = three _ _ _ _ _ _ (ap₂ Times (is.B i j a p q t) (is.A a k l t r s)) (ap₂ Times (is.B i k a p r t) (is.A j a l q t s)) (ap₂ Times (is.B i l a p s t) (is.A j a k q t r))

  BB_same : (i j k l : ℕ) → i < T.dim → j < T.dim → k < T.dim → l < T.dim → (a : ℕ) → a < T.dim → at_BB T i j k l a ≡ at_BB T' i j k l a
  unfolding at_BB
  BB_same i j k l p q r s a t = three _ _ _ _ _ _ (ap₂ Times (is.B i j a p q t) (is.B a k l t r s)) (ap₂ Times (is.B i k a p r t) (is.B j a l q t s)) (ap₂ Times (is.C i l a p s t) (is.A j a k q t r))

  BC_same : (i j k l : ℕ) → i < T.dim → j < T.dim → k < T.dim → l < T.dim → (a : ℕ) → a < T.dim → at_BC T i j k l a ≡ at_BC T' i j k l a
  unfolding at_BC
  BC_same i j k l p q r s a t = three _ _ _ _ _ _ (ap₂ Times (is.B i j a p q t) (is.C a k l t r s)) (ap₂ Times (is.C i k a p r t) (is.B j a l q t s)) (ap₂ Times (is.C i l a p s t) (is.B j a k q t r))

  D_same : (i j : ℕ) → i < T.dim → j < T.dim → (a : ℕ) → a < T.dim → at_D T i j a ≡ at_D T' i j a
  unfolding at_D
  D_same i j p q a t = ap (λ x. x ∷ []) (ap₂ Times (is.B i j a p q t) (is.D a t))

  pairs_same : (i j : ℕ) → i < T.dim → j < T.dim → map (of_pair T j) (row_c T i) ≡ map (of_pair T' j) (row_c T' i)
  unfolding of_pair
  pairs_same i j p q =
      map-cong_each (of_pair T j) (of_pair T' j) (row_c T i) (Each-weaken (AreBelow T.dim) _ (row_c T i) (λ e b. ap (Weighted (eqb e.0 e.1) e.2) (is.A j e.0 e.1 q b.0 b.1)) (row_c_below T i))
      ∙ ap (map (of_pair T' j)) (row_c_same i p)

  -- ---- places below N

  module _ (N : ℕ) (h : N ≤ T.dim) where
    wide : (i : ℕ) → i < N → i < T.dim
    wide i p = omega arith

    products_same : (rel : Rel) (i j k l : ℕ) → i < N → j < N → k < choices_k rel N → l < choices_l rel N → products T rel i j k l ≡ products T' rel i j k l
    unfolding products choices_k choices_l
    products_same AA i j k l p q r s = ap (λ v. Alone v ∷ []) (is.A i j k (wide i p) (wide j q) (wide k r))
    products_same BA i j k l p q r s = over_dim (at_BA T i j k l) (at_BA T' i j k l) (BA_same i j k l (wide i p) (wide j q) (wide k r) (wide l s))
    products_same BB i j k l p q r s = over_dim (at_BB T i j k l) (at_BB T' i j k l) (BB_same i j k l (wide i p) (wide j q) (wide k r) (wide l s))
    products_same BC i j k l p q r s = over_dim (at_BC T i j k l) (at_BC T' i j k l) (BC_same i j k l (wide i p) (wide j q) (wide k r) (wide l s))
    products_same D i j k l p q r s = ap₂ ◌++◌ (over_dim (at_D T i j) (at_D T' i j) (D_same i j (wide i p) (wide j q))) (pairs_same i j (wide i p) (wide j q))

    side_same : (rel : Rel) (i j k l : ℕ) → i < N → j < N → k < choices_k rel N → l < choices_l rel N → obtained_side T rel i j k l ≡ obtained_side T' rel i j k l
    unfolding obtained_side
    side_same rel i j k l p q r s = ap (λ ps. obtained_from (Some 0ℚ) (map obtained_value ps)) (products_same rel i j k l p q r s)

    place_same : (p : Place) → IsPlace N p → verdict_at T p ≡ verdict_at T' p
    unfolding verdict_at
    place_same p is =
        let hi : p.i < N = omega (arith, is.ordered, is.j_below) in
        ap₂ (compared p) (side_same p.rel p.i p.j p.k p.l hi is.j_below is.k_below is.l_below) (side_same p.rel p.j p.i p.k p.l is.j_below hi is.k_below is.l_below)

pub same_verdict : SameVerdictLaw
unfolding verdict
same_verdict T T' is N h = first-cong_each (verdict_at T) (verdict_at T') (places N) (each_place N _ (place_same T T' is N h))
