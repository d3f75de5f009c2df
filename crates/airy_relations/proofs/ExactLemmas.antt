-- A side that is obtained is the exact one, and the exact one is the relation's expression.
use Rattle.std.proofs.Common.{ℕ, ◌<◌, ◌≡◌, refl, sym, ap, ap₂, ◌∙◌, Bool, true, false, not, ◌&&◌, List, [], ◌∷◌, map, ◌⊎◌, inl, inr, arith, ltb, leb, eqb, Option, Some, None}
use Rattle.std.proofs.lemmas.Bool.{cases_order, lt-ltb, le-ltb, eq-eqb, ne_eqb, lt-leb, le-leb}
use Rattle.airy_math.specs.Rational.{ℚ, ◌+ℚ◌, ◌*ℚ◌}
use Rattle.airy_math.specs.RationalLaws.{half, 0ℚ, +ℚ_assoc, 0ℚ_idl, 0ℚ-*ℚ, products_q}
use Rattle.airy_math.specs.Sums.{sum_over, when, each, below}
use Rattle.airy_math.specs.Tensors.{Tensors, IsSymmetric, is_zero, row_c}
use Rattle.airy_math.specs.Terms.{halved, obtained_half}
use Rattle.airy_math.specs.Relations.{rel_AA, rel_BA, rel_BB, rel_BC, rel_D}
use Rattle.airy_math.specs.Obtained.{obtained_sum, both_obtained, obtained_from}
use Rattle.airy_math.proofs.SumLemmas.{0ℚ_idr, sum-cong, sum-append, sum-map, sum-each, sum-keep, sum_both, triangle}
use Rattle.airy_math.proofs.PivotLemmas.{not_zero-when, when-and}
use Rattle.airy_math.proofs.ObtainedLaw.{sum_exact, product_exact, half_exact, self_exact, times_exact, none_stays}
use Rattle.airy_relations.specs.Sides.{Rel, AA, BA, BB, BC, D, Product, Alone, Times, Weighted, at_BA, at_BB, at_BC, at_D, of_pair, products, product_value, exact_side, obtained_value, obtained_side}
use Rattle.airy_relations.specs.Numbers.{expression}

-- ---- what is obtained is exact

value_exact : (p : Product) (v : ℚ) → obtained_value p ≡ Some v → v ≡ product_value p
unfolding obtained_value product_value
value_exact (Alone x) v e = self_exact x v e
value_exact (Times x y) v e = product_exact x y v e
value_exact (Weighted h x y) v e = times_exact (obtained_half h x) (halved h x) y v (half_exact h x) e

none_some : {A : Type 0} (v : ℚ) → ◌≡◌ {A = Option ℚ} None (Some v) → A
none_some v e = cc

total_exact : (ps : List Product) (s v : ℚ) → obtained_from (Some s) (map obtained_value ps) ≡ Some v → v ≡ s +ℚ sum_over ps product_value
unfolding obtained_from sum_over both_obtained
total_exact [] s v e = self_exact s v e ∙ sym (0ℚ_idr s)
total_exact (p ∷ ps) s v e = by (obtained_value p) (value_exact p) (λ z. total_exact ps z v) e
  where
    more : (y : ℚ) (o : Option ℚ) → y ≡ product_value p → obtained_sum s y ≡ o → ((z : ℚ) → obtained_from (Some z) (map obtained_value ps) ≡ Some v → v ≡ z +ℚ sum_over ps product_value) → obtained_from o (map obtained_value ps) ≡ Some v → v ≡ s +ℚ (product_value p +ℚ sum_over ps product_value)
    more y None u w r e = none_some v (sym (none_stays (map obtained_value ps)) ∙ e)
    more y (Some z) u w r e = r z e ∙ ap (λ x. x +ℚ sum_over ps product_value) (sum_exact s y z w ∙ ap (λ x. s +ℚ x) u) ∙ +ℚ_assoc _ _ _

    by : (o : Option ℚ) → ((w : ℚ) → o ≡ Some w → w ≡ product_value p) → ((z : ℚ) → obtained_from (Some z) (map obtained_value ps) ≡ Some v → v ≡ z +ℚ sum_over ps product_value) → obtained_from (both_obtained obtained_sum (Some s) o) (map obtained_value ps) ≡ Some v → v ≡ s +ℚ (product_value p +ℚ sum_over ps product_value)
    by None h r e = none_some v (sym (none_stays (map obtained_value ps)) ∙ e)
    by (Some y) h r e = more y (obtained_sum s y) (h y refl) refl r e

-- an obtained side is the exact one
pub side_exact : (T : Tensors) (rel : Rel) (i j k l : ℕ) (v : ℚ) → obtained_side T rel i j k l ≡ Some v → v ≡ exact_side T rel i j k l
unfolding obtained_side exact_side
side_exact T rel i j k l v e = total_exact (products T rel i j k l) 0ℚ v e ∙ 0ℚ_idl _

-- ---- the exact side is the expression

three_sum : (x y z : ℚ) → x +ℚ (y +ℚ (z +ℚ 0ℚ)) ≡ x +ℚ y +ℚ z
three_sum x y z = ap (λ t. x +ℚ (y +ℚ t)) (0ℚ_idr z) ∙ sym (+ℚ_assoc x y z)

-- a sum over the pairs with a at most b, where equal pairs count one half
pair_value : (a b : ℕ) (v y : ℚ) → when (leb a b && not (is_zero v)) (halved (eqb a b) v *ℚ y) ≡ when (ltb a b) (v *ℚ y) +ℚ when (eqb a b) (half *ℚ (v *ℚ y))
unfolding when
pair_value a b v y =
    when-and (leb a b) (not (is_zero v)) (halved (eqb a b) v *ℚ y)
    ∙ ap (when (leb a b)) (not_zero-when v (halved (eqb a b) v *ℚ y) (none (eqb a b)))
    ∙ by (leb a b) (ltb a b) (eqb a b) (at (cases_order a b))
  where
    none : (t : Bool) → v ≡ 0ℚ → halved t v *ℚ y ≡ 0ℚ
    none true z = ap (λ t. t *ℚ half *ℚ y) z ∙ ap (λ t. t *ℚ y) (0ℚ-*ℚ half) ∙ 0ℚ-*ℚ y
    none false z = ap (λ t. t *ℚ y) z ∙ 0ℚ-*ℚ y

    turned : (v *ℚ half) *ℚ y ≡ half *ℚ (v *ℚ y)
    turned = simp products_q

    at : (a ≡ b) ⊎ ((a < b) ⊎ (b < a)) → (leb a b ≡ true) × (ltb a b ≡ true) × (eqb a b ≡ false) ⊎ ((leb a b ≡ true) × (ltb a b ≡ false) × (eqb a b ≡ true) ⊎ (leb a b ≡ false) × (ltb a b ≡ false) × (eqb a b ≡ false))
    at (inl e) = inr (inl (le-leb a b (omega arith), le-ltb a b (omega arith), eq-eqb a b e))
    at (inr (inl h)) = inl (le-leb a b (omega arith), lt-ltb a b h, ne_eqb a b (λ e. omega arith))
    at (inr (inr h)) = inr (inr (lt-leb a b h, le-ltb a b (omega arith), ne_eqb a b (λ e. omega arith)))

    by : (p q r : Bool) → (p ≡ true) × (q ≡ true) × (r ≡ false) ⊎ ((p ≡ true) × (q ≡ false) × (r ≡ true) ⊎ (p ≡ false) × (q ≡ false) × (r ≡ false)) → when p (halved r v *ℚ y) ≡ when q (v *ℚ y) +ℚ when r (half *ℚ (v *ℚ y))
    by p q r (inl h) = simp (h.0, h.1, h.2) (sym (0ℚ_idr (v *ℚ y)))
    by p q r (inr (inl h)) = simp (h.0, h.1, h.2) (turned ∙ sym (0ℚ_idl (half *ℚ (v *ℚ y))))
    by p q r (inr (inr h)) = simp (h.0, h.1, h.2) (sym (0ℚ_idl 0ℚ))

-- the pairs of row_c(i), weighted, are one half of the sum over all a and b
row_sum : (T : Tensors) (i j : ℕ) → IsSymmetric T
    → sum_over (map (of_pair T j) (row_c T i)) product_value ≡ half *ℚ sum_both T.dim (λ a b. T.C i a b *ℚ T.A j a b)
unfolding product_value row_c of_pair
row_sum T i j s =
    sum-map product_value (of_pair T j) (row_c T i)
    ∙ sum-keep (λ r. leb r.0 r.1 && not (is_zero r.2)) value (each (below T.dim) line)
    ∙ sum-each passed line (below T.dim)
    ∙ sum-cong (λ a. sum_over (line a) passed) (λ a. sum_over (below T.dim) (target a)) (below T.dim) (λ a.
    sum-map passed (λ b. (a, b, T.C i a b)) (below T.dim) ∙ sum-cong (λ b. passed (a, b, T.C i a b)) (target a) (below T.dim) (λ b. pair_value a b (T.C i a b) (T.A j a b)))
    ∙ sym (triangle (λ a b. T.C i a b *ℚ T.A j a b) T.dim (λ a b p q. ap₂ ◌*ℚ◌ (s.C i a b) (s.A j a b)))
  where
    line : ℕ → List (ℕ × ℕ × ℚ)
    line a = map (λ b. (a, b, T.C i a b)) (below T.dim)

    value : ℕ × ℕ × ℚ → ℚ
    value r = halved (eqb r.0 r.1) r.2 *ℚ T.A j r.0 r.1

    passed : ℕ × ℕ × ℚ → ℚ
    passed r = when (leb r.0 r.1 && not (is_zero r.2)) (value r)

    target : ℕ → ℕ → ℚ
    target a b = when (ltb a b) (T.C i a b *ℚ T.A j a b) +ℚ when (eqb a b) (half *ℚ (T.C i a b *ℚ T.A j a b))

-- a sum of three products for each a
three_each : (f g h : ℕ → Product) (n : ℕ) → sum_over (each (below n) λ a. f a ∷ g a ∷ h a ∷ []) product_value ≡ (sum_over (below n) λ a. product_value (f a) +ℚ product_value (g a) +ℚ product_value (h a))
unfolding sum_over
three_each f g h n =
    sum-each product_value (λ a. f a ∷ g a ∷ h a ∷ []) (below n)
    ∙ sum-cong (λ a. product_value (f a) +ℚ (product_value (g a) +ℚ (product_value (h a) +ℚ 0ℚ))) (λ a. product_value (f a) +ℚ product_value (g a) +ℚ product_value (h a)) (below n) (λ a. three_sum _ _ _)

one_each : (f : ℕ → Product) (n : ℕ) → sum_over (each (below n) λ a. f a ∷ []) product_value ≡ (sum_over (below n) λ a. product_value (f a))
unfolding sum_over
one_each f n =
    sum-each product_value (λ a. f a ∷ []) (below n)
    ∙ sum-cong (λ a. product_value (f a) +ℚ 0ℚ) (λ a. product_value (f a)) (below n) (λ a. 0ℚ_idr (product_value (f a)))

pub expression_is : (T : Tensors) (rel : Rel) (i j k l : ℕ) → IsSymmetric T → exact_side T rel i j k l ≡ expression T rel i j k l
unfolding exact_side expression products at_BA at_BB at_BC at_D product_value sum_over rel_AA rel_BA rel_BB rel_BC rel_D
expression_is T AA i j k l s = 0ℚ_idr (T.A i j k)
expression_is T BA i j k l s = three_each (λ a. Times (T.B i j a) (T.A a k l)) (λ a. Times (T.B i k a) (T.A j a l)) (λ a. Times (T.B i l a) (T.A j a k)) T.dim
expression_is T BB i j k l s = three_each (λ a. Times (T.B i j a) (T.B a k l)) (λ a. Times (T.B i k a) (T.B j a l)) (λ a. Times (T.C i l a) (T.A j a k)) T.dim
expression_is T BC i j k l s = three_each (λ a. Times (T.B i j a) (T.C a k l)) (λ a. Times (T.C i k a) (T.B j a l)) (λ a. Times (T.C i l a) (T.B j a k)) T.dim
expression_is T D i j k l s =
    sum-append product_value (each (below T.dim) λ a. Times (T.B i j a) (T.D a) ∷ []) (map (of_pair T j) (row_c T i))
    ∙ ap₂ ◌+ℚ◌ (one_each (λ a. Times (T.B i j a) (T.D a)) T.dim) (row_sum T i j s)
