-- What the verdict says by exact numbers: Closed, that all relations hold; Differs, that the named one fails.
use Rattle.std.proofs.Common.{ℕ, ◌<◌, ◌≤◌, ◌≡◌, refl, sym, ap, ap₂, ◌∙◌, Bool, true, false, cond, List, ◌⊎◌, inl, inr, arith, Option, Some, None}
use Rattle.std.proofs.lemmas.Bool.{cases_order}
use Rattle.airy_math.specs.Rational.{ℚ}
use Rattle.airy_math.specs.Relations.{rel_AA, rel_BA, rel_BB, rel_BC, rel_D, Close}
use Rattle.airy_math.specs.Tensors.{Tensors, IsSymmetric, same_number}
use Rattle.airy_relations.specs.Sides.{Rel, AA, BA, BB, BC, D, obtained_side}
use Rattle.airy_relations.specs.Places.{Place, indices, choices_k, choices_l, places}
use Rattle.airy_relations.specs.Verdicts.{Verdict, Closed, Differs, Over, compared, verdict_at, verdict}
use Rattle.airy_relations.specs.Walks.{place}
use Rattle.airy_relations.specs.Numbers.{expression, Fails, TellsFailure}
use Rattle.airy_relations.proofs.ExactLemmas.{side_exact, expression_is}
use Rattle.airy_relations.proofs.PlaceLemmas.{IsPlace, each_place, at_place, each_closed, differs_found}
use Rattle.airy_math.proofs.SameNumbers.{same_true, same_self}

-- ---- one place

-- two obtained sides that are equal
record AreEqual (o o' : Option ℚ) : Type 0 where
  x : ℚ
  left : o ≡ Some x
  right : o' ≡ Some x

sides_equal : (p : Place) (o o' : Option ℚ) → compared p o o' ≡ Closed → AreEqual o o'
unfolding compared
sides_equal p None o' e = cc
sides_equal p (Some x) None e = cc
sides_equal p (Some x) (Some y) e = by (same_number x y) refl e
  where
    by : (t : Bool) → same_number x y ≡ t → cond t Closed (Differs p.rel (indices p) x y) ≡ Closed → AreEqual (Some x) (Some y)
    by true h e = record { x = x; left = refl; right = ap Some (sym (same_true x y h)) }
    by false h e = cc

-- two obtained sides that differ, and their place
record AreUnequal (p : Place) (o o' : Option ℚ) (rel : Rel) (at : List ℕ) (x y : ℚ) : Type 0 where
  left : o ≡ Some x
  right : o' ≡ Some y
  rel_is : rel ≡ p.rel
  place_is : at ≡ indices p
  differ : x ≡ y → ⊥

sides_differ : (p : Place) (o o' : Option ℚ) (rel : Rel) (at : List ℕ) (x y : ℚ) → compared p o o' ≡ Differs rel at x y → AreUnequal p o o' rel at x y
unfolding compared
sides_differ p None o' rel at x y e = cc
sides_differ p (Some u) None rel at x y e = cc
sides_differ p (Some u) (Some v) rel at x y e = by (same_number u v) refl e
  where
    unequal : same_number u v ≡ false → u ≡ v → ⊥
    unequal h q = clash (sym (same_self u) ∙ ap (same_number u) q ∙ h)
      where
        clash : true ≡ false → ⊥
        clash h = cc

    by : (t : Bool) → same_number u v ≡ t → cond t Closed (Differs p.rel (indices p) u v) ≡ Differs rel at x y → AreUnequal p (Some u) (Some v) rel at x y
    by true h e = cc
    by false h e =
        let ux : u ≡ x = cc in
        let vy : v ≡ y = cc in
        let ur : rel ≡ p.rel = cc in
        let ua : at ≡ indices p = cc in
        record { left = ap Some ux; right = ap Some vy; rel_is = ur; place_is = ua; differ = λ q. unequal h (ux ∙ q ∙ sym vy) }

pub either_order : (N : ℕ) (P : ℕ → ℕ → ℚ) → ((i j : ℕ) → i < j → j < N → P i j ≡ P j i) → (i j : ℕ) → i < N → j < N → P i j ≡ P j i
either_order N P h i j hi hj = at (cases_order i j)
  where
    at : (i ≡ j) ⊎ ((i < j) ⊎ (j < i)) → P i j ≡ P j i
    at (inl e) = ap₂ P e (sym e)
    at (inr (inl l)) = h i j l hj
    at (inr (inr l)) = sym (h j i l hi)

-- the free indices of a place are below N
choices_most : (rel : Rel) (N : ℕ) → 0 < N → (choices_k rel N ≤ N) × (choices_l rel N ≤ N)
unfolding choices_k choices_l
choices_most AA N h = (omega arith, omega arith)
choices_most BA N h = (omega arith, omega arith)
choices_most BB N h = (omega arith, omega arith)
choices_most BC N h = (omega arith, omega arith)
choices_most D N h = (omega arith, omega arith)

module _ (T : Tensors) (N : ℕ) (s : IsSymmetric T) where
  exact : (rel : Rel) (i j k l : ℕ) (x : ℚ) → obtained_side T rel i j k l ≡ Some x → x ≡ expression T rel i j k l
  exact rel i j k l x e = side_exact T rel i j k l x e ∙ expression_is T rel i j k l s

  -- ---- Closed

  place_holds : (p : Place) → verdict_at T p ≡ Closed → expression T p.rel p.i p.j p.k p.l ≡ expression T p.rel p.j p.i p.k p.l
  unfolding verdict_at
  place_holds p e =
      let h = sides_equal p (obtained_side T p.rel p.i p.j p.k p.l) (obtained_side T p.rel p.j p.i p.k p.l) e in
      sym (exact p.rel p.i p.j p.k p.l h.x h.left) ∙ exact p.rel p.j p.i p.k p.l h.x h.right

  pub closed_law : verdict T N ≡ Closed → Close T N
  unfolding verdict expression choices_k choices_l place
  closed_law e =
      record {
        AA = λ i j k hi hj hk. either_order N (λ i j. rel_AA T i j k) (λ i j p h. holds AA i j k 0 p h hk (omega arith)) i j hi hj;
        BA = λ i j k l hi hj hk hl. either_order N (λ i j. rel_BA T i j k l) (λ i j p h. holds BA i j k l p h hk hl) i j hi hj;
        BB = λ i j k l hi hj hk hl. either_order N (λ i j. rel_BB T i j k l) (λ i j p h. holds BB i j k l p h hk hl) i j hi hj;
        BC = λ i j k l hi hj hk hl. either_order N (λ i j. rel_BC T i j k l) (λ i j p h. holds BC i j k l p h hk hl) i j hi hj;
        D = λ i j hi hj. either_order N (λ i j. rel_D T i j) (λ i j p h. holds D i j 0 0 p h (omega arith) (omega arith)) i j hi hj;
      }
    where
      holds : (rel : Rel) (i j k l : ℕ) → i < j → j < N → k < choices_k rel N → l < choices_l rel N → expression T rel i j k l ≡ expression T rel j i k l
      holds rel i j k l ij jn kn ln =
          let p = place rel i j k l in
          place_holds p (at_place N _ (each_closed (verdict_at T) (places N) e) p (record { ordered = ij; j_below = jn; k_below = kn; l_below = ln }))

  -- ---- Differs

  -- where all relations hold, each of them does
  each_holds : Close T N → (rel : Rel) (i j k l : ℕ) → i < N → j < N → k < N → l < N → expression T rel i j k l ≡ expression T rel j i k l
  unfolding expression
  each_holds c AA i j k l p q r u = c.AA i j k p q r
  each_holds c BA i j k l p q r u = c.BA i j k l p q r u
  each_holds c BB i j k l p q r u = c.BB i j k l p q r u
  each_holds c BC i j k l p q r u = c.BC i j k l p q r u
  each_holds c D i j k l p q r u = c.D i j p q

  place_fails : (q : Place) (r : Rel) (p : List ℕ) (x y : ℚ) → IsPlace N q → verdict_at T q ≡ Differs r p x y → Fails T N r p x y
  unfolding verdict_at indices
  place_fails q r p x y is e =
      let h = sides_differ q (obtained_side T q.rel q.i q.j q.k q.l) (obtained_side T q.rel q.j q.i q.k q.l) r p x y e in
      let left = exact q.rel q.i q.j q.k q.l x h.left ∙ ap (λ r. expression T r q.i q.j q.k q.l) (sym h.rel_is) in
      let right = exact q.rel q.j q.i q.k q.l y h.right ∙ ap (λ r. expression T r q.j q.i q.k q.l) (sym h.rel_is) in
      let most = choices_most q.rel N (omega (arith, is.j_below)) in
      let kn : q.k < N = omega (arith, is.k_below, most.0) in
      let ln : q.l < N = omega (arith, is.l_below, most.1) in
      record {
        i = q.i;
        j = q.j;
        k = q.k;
        l = q.l;
        at = h.place_is;
        ordered = is.ordered;
        j_below = is.j_below;
        k_below = kn;
        l_below = ln;
        left_is = left;
        right_is = right;
        differ = h.differ;
        not_closed = λ c. h.differ (left ∙ each_holds c r q.i q.j q.k q.l (omega (arith, is.ordered, is.j_below)) is.j_below kn ln ∙ sym right);
      }

  pub failure_law : (v : Verdict) → v ≡ verdict T N → TellsFailure T N v
  unfolding TellsFailure verdict
  failure_law Closed e = tt
  failure_law (Differs r p x y) e =
      let f = differs_found (verdict_at T) (IsPlace N) (places N) r p x y (each_place N (IsPlace N) (λ p is. is)) (sym e) in
      place_fails f.x r p x y f.holds f.says
  failure_law (Over r p) e = tt
