-- Tensors with the same entries below dim have the same rows, terms, residues and relations.
use Prim.Native.Nat.{ℕ, zero, suc, ◌+◌, ◌-◌, ◌*◌, ◌/◌, ◌<◌, ◌≤◌}
use mathlib.Core.Path.{◌≡◌, sym, ap, ap₂, subst, ◌∙◌}
use mathlib.Core.Bool.{not, ◌&&◌}
use mathlib.Core.List.{[], List, ◌∷◌, ◌++◌, map}
use native.Mathlib.Omega.{arith}
use lib.Dec.{ltb, leb, eqb}
use lib.ListN.{length, replicate}
use Rattle.airy_math.specs.Rational.{ℚ, ◌+ℚ◌, ◌*ℚ◌, neg_ℚ, whole}
use Rattle.airy_math.specs.RationalLaws.{half, 0ℚ}
use Rattle.airy_math.specs.Sums.{sum_over, when, each, keep, below, count_from}
use Rattle.airy_math.specs.Keys.{Key, insert, remove, times, key_of, same_list, head_or, IsSortedFrom}
use Rattle.airy_math.specs.Shapes.{Shape, live, covers}
use Rattle.airy_math.specs.Splits.{runs, splits}
use Rattle.airy_math.specs.Tensors.{Tensors, SameEntries, is_zero, row_b, row_c}
use Rattle.airy_math.specs.Terms.{Term, Alone, Once, Joined, Twice, if_so, b_terms, c_terms, joined_terms, product_terms, terms, named, needs, term_value, pivot_sum, obtained_term, obtained_pivot_sum, StandsIn, RestsOn, directly, through}
use Rattle.airy_math.specs.Obtained.{obtained_from}
use Rattle.std.specs.Prelude.{Some}
use Rattle.airy_math.specs.Planned.{planned, lists_from, IsPlanned}
use Rattle.airy_math.specs.Series.{Series, derivative, variable_times, series_product, shift, monomial, a_part, b_part, c_part, d_part, residue}
use Rattle.airy_math.specs.Solutions.{Solves}
use Rattle.airy_math.specs.Relations.{rel_AA, rel_BA, rel_BB, rel_BC, rel_D, Close}
use Rattle.airy_math.specs.BelowDim.{SameAtKey, BelowDimLaw}
use Rattle.airy_math.proofs.SumLemmas.{Each-below, Each-weaken, sum-cong_each, sum_both, sum_both-cong}
use Rattle.airy_math.proofs.KeyLemmas.{AllBelow}
use Rattle.airy_math.proofs.MoveLemmas.{all_below-remove}
use Rattle.airy_math.proofs.MeasureLemmas.{runs_stand}
use Rattle.airy_math.proofs.PlannedLaw.{head_stands, small}
use Rattle.airy_math.proofs.CutLaw.{stands_below}
use Rattle.airy_math.proofs.NeedsLaw.{needs_first}
use Rattle.airy_math.proofs.SamePlanLaw.{each-cong_each}
use Rattle.airy_math.proofs.EachLemmas.{map-cong_each}

pub same_back : (T T' : Tensors) → SameEntries T T' → SameEntries T' T
same_back T T' is = record {
  dim = sym is.dim;
  shape = sym is.shape;
  A = λ i j k p q r. sym (is.A i j k (back i p) (back j q) (back k r));
  B = λ i j k p q r. sym (is.B i j k (back i p) (back j q) (back k r));
  C = λ i j k p q r. sym (is.C i j k (back i p) (back j q) (back k r));
  D = λ i p. sym (is.D i (back i p));
}
  where
    back : (i : ℕ) → i < T'.dim → i < T.dim
    back i p = subst (λ m. i < m) (sym is.dim) p

pub sum-below_cong : (f h : ℕ → ℚ) (m : ℕ) → ((a : ℕ) → a < m → f a ≡ h a) → sum_over (below m) f ≡ sum_over (below m) h
sum-below_cong f h m e = sum-cong_each f h (below m) (Each-below _ m e)

module _ (T T' : Tensors) (is : SameEntries T T') where
  -- ---- rows and terms

  row_b_same : (i j : ℕ) → i < T.dim → j < T.dim → row_b T i j ≡ row_b T' i j
  unfolding row_b
  row_b_same i j p q =
      ap (keep (λ r. not (is_zero r.1))) (map-cong_each {A = ℕ} {B = ℕ × ℚ} (λ a. (a, T.B i j a)) (λ a. (a, T'.B i j a)) (below T.dim) (Each-below _ T.dim (λ a r. ap (λ v. (a, v)) (is.B i j a p q r)))
      ∙ ap (λ m. map (λ a. (a, T'.B i j a)) (below m)) is.dim)

  row_c_same : (i : ℕ) → i < T.dim → row_c T i ≡ row_c T' i
  unfolding row_c
  row_c_same i p =
      ap (keep (λ r. leb r.0 r.1 && not (is_zero r.2)))
      (each-cong_each (λ a. line T a T.dim) (λ a. line T' a T.dim) (below T.dim) (Each-below _ T.dim (λ a q. map-cong_each {A = ℕ} {B = ℕ × ℕ × ℚ} (λ b. (a, b, T.C i a b)) (λ b. (a, b, T'.C i a b)) (below T.dim) (Each-below _ T.dim (λ b r. ap (λ v. (a, b, v)) (is.C i a b p q r)))))
      ∙ ap (λ m. each (below m) (λ a. line T' a m)) is.dim)
    where
      line : Tensors → ℕ → ℕ → List (ℕ × ℕ × ℚ)
      line S a m = map (λ b. (a, b, S.C i a b)) (below m)

  b_same : (i g : ℕ) (I : List ℕ) → i < T.dim → AllBelow T.dim I → b_terms T i g I ≡ b_terms T' i g I
  unfolding b_terms
  b_same i g I p b =
      each-cong_each _ _ (runs I) (Each-weaken _ _ (runs I) (λ jm st.
      ap₂ (λ (sh : Shape) (row : List (ℕ × ℚ)). each row (λ av. if_so (live sh (key_of g (insert av.0 (remove jm.0 I)))) (Once (whole jm.1) av.1 (key_of g (insert av.0 (remove jm.0 I))))))
      is.shape (row_b_same i jm.0 p (stands_below T.dim jm.0 I b st))) (runs_stand I))

  c_same : (i g : ℕ) (I : List ℕ) → i < T.dim → c_terms T i g I ≡ c_terms T' i g I
  unfolding c_terms joined_terms product_terms
  c_same i g I p = ap₂ (λ (sh : Shape) (row : List (ℕ × ℕ × ℚ)). each row (λ abv. joined sh abv ++ products sh abv)) is.shape (row_c_same i p)
    where
      joined : Shape → ℕ × ℕ × ℚ → List Term
      joined sh abv = if_so (ltb 0 g && live sh (key_of (g - 1) (insert abv.0 (insert abv.1 I)))) (Joined (eqb abv.0 abv.1) abv.2 (key_of (g - 1) (insert abv.0 (insert abv.1 I))))

      products : Shape → ℕ × ℕ × ℚ → List Term
      products sh abv = each (below (suc g)) (λ k. each (splits I) (λ s. if_so (live sh (key_of k (insert abv.0 s.part)) && live sh (key_of (g - k) (insert abv.1 s.rest))) (Twice (eqb abv.0 abv.1) abv.2 (whole s.ways) (key_of k (insert abv.0 s.part)) (key_of (g - k) (insert abv.1 s.rest)))))

  both_same : (i g : ℕ) (I : List ℕ) → i < T.dim → AllBelow T.dim I → b_terms T i g I ++ c_terms T i g I ≡ b_terms T' i g I ++ c_terms T' i g I
  both_same i g I p b = ap₂ ◌++◌ (b_same i g I p b) (c_same i g I p)

  terms_same : (i g : ℕ) (I : List ℕ) → i < T.dim → AllBelow T.dim I → terms T i g I ≡ terms T' i g I
  unfolding terms
  terms_same i zero [] p b = both_same i zero [] p b
  terms_same i zero (j ∷ []) p b = both_same i zero (j ∷ []) p b
  terms_same i zero (j ∷ k ∷ []) p b = ap (λ v. Alone v ∷ []) (is.A i j k p b.0 b.1.0)
  terms_same i zero (j ∷ k ∷ l ∷ I) p b = both_same i zero (j ∷ k ∷ l ∷ I) p b
  terms_same i (suc zero) [] p b = ap (λ v. Alone v ∷ []) (is.D i p)
  terms_same i (suc zero) (j ∷ I) p b = both_same i (suc zero) (j ∷ I) p b
  terms_same i (suc (suc g)) I p b = both_same i (suc (suc g)) I p b

  plan_same : (X : ℕ) → planned T X ≡ planned T' X
  unfolding planned
  plan_same X = ap₂ (λ (m : ℕ) (sh : Shape). each (count_from 1 X) (λ e. each (below (suc (e / 2 + 1))) (λ g. keep (λ key. ltb 0 (length key.idx) && covers sh key) (map (key_of g) (lists_from (e + 2 - 2 * g) 0 m))))) is.dim is.shape

  planned_on : (X : ℕ) (key : Key) → IsPlanned T X key → IsPlanned T' X key
  planned_on X key p = record {
    sorted = subst (λ m. IsSortedFrom 0 m key.idx) is.dim p.sorted;
    places = p.places;
    positive = p.positive;
    within = p.within;
    covered = ap (λ sh. covers sh key) (sym is.shape) ∙ p.covered;
  }

  at_key : (key : Key) → IsSortedFrom 0 T.dim key.idx → SameAtKey T T' key
  unfolding needs pivot_sum obtained_pivot_sum
  at_key key s = record {
    terms = same;
    needs = λ h. ap (λ ts. each ts named) (same (head_or 0 key.idx) (head_stands key.idx h));
    sums = λ F i h. ap (λ ts. sum_over ts (term_value F)) (same i h);
    obtained = λ F i h. ap (λ ts. obtained_from (Some 0ℚ) (map (obtained_term F) ts)) (same i h);
  }
    where
      b : AllBelow T.dim key.idx
      b = small 0 T.dim key.idx s

      same : (i : ℕ) → 0 < times i key.idx → terms T i key.g (remove i key.idx) ≡ terms T' i key.g (remove i key.idx)
      same i h = terms_same i key.g (remove i key.idx) (stands_below T.dim i key.idx b h) (all_below-remove T.dim i key.idx b)

  -- ---- residues

  residue_same : (f : Series) (i g : ℕ) (e : List ℕ) → i < T.dim → residue T f i g e ≡ residue T' f i g e
  unfolding residue a_part b_part c_part d_part
  residue_same f i g e p =
      ap (λ t. derivative i f g e +ℚ neg_ℚ t) (ap₂ ◌+ℚ◌ (ap₂ ◌+ℚ◌ (ap₂ ◌+ℚ◌ part_a part_b) part_c) part_d)
    where
      part_a : half *ℚ sum_both T.dim (λ a b. T.A i a b *ℚ monomial T.dim a b g e) ≡ half *ℚ sum_both T'.dim (λ a b. T'.A i a b *ℚ monomial T'.dim a b g e)
      part_a = ap (λ t. half *ℚ t) (sum_both-cong (λ a b. T.A i a b *ℚ monomial T.dim a b g e) (λ a b. T'.A i a b *ℚ monomial T.dim a b g e) T.dim (λ a b q r. ap (λ v. v *ℚ monomial T.dim a b g e) (is.A i a b p q r))
          ∙ ap (λ m. sum_both m (λ a b. T'.A i a b *ℚ monomial m a b g e)) is.dim)

      part_b : sum_both T.dim (λ a b. T.B i a b *ℚ variable_times a (derivative b f) g e) ≡ sum_both T'.dim (λ a b. T'.B i a b *ℚ variable_times a (derivative b f) g e)
      part_b = sum_both-cong (λ a b. T.B i a b *ℚ variable_times a (derivative b f) g e) (λ a b. T'.B i a b *ℚ variable_times a (derivative b f) g e) T.dim (λ a b q r. ap (λ v. v *ℚ variable_times a (derivative b f) g e) (is.B i a b p q r))
          ∙ ap (λ m. sum_both m (λ a b. T'.B i a b *ℚ variable_times a (derivative b f) g e)) is.dim

      beside : ℕ → ℕ → ℚ
      beside a b = shift (derivative a (derivative b f)) g e +ℚ series_product (derivative a f) (derivative b f) g e

      part_c : half *ℚ sum_both T.dim (λ a b. T.C i a b *ℚ beside a b) ≡ half *ℚ sum_both T'.dim (λ a b. T'.C i a b *ℚ beside a b)
      part_c = ap (λ t. half *ℚ t) (sum_both-cong (λ a b. T.C i a b *ℚ beside a b) (λ a b. T'.C i a b *ℚ beside a b) T.dim (λ a b q r. ap (λ v. v *ℚ beside a b) (is.C i a b p q r))
          ∙ ap (λ m. sum_both m (λ a b. T'.C i a b *ℚ beside a b)) is.dim)

      part_d : when (eqb g 1 && same_list e (replicate T.dim 0)) (T.D i) ≡ when (eqb g 1 && same_list e (replicate T'.dim 0)) (T'.D i)
      part_d = ap₂ (λ m v. when (eqb g 1 && same_list e (replicate m 0)) v) is.dim (is.D i p)

  solves_on : (X : ℕ) (f : Series) → Solves T X f → Solves T' X f
  solves_on X f so = record {
    is_stable = so.is_stable;
    has_indices = so.has_indices;
    is_bounded = so.is_bounded;
    constraints = λ i g e p len h k. let q = subst (λ m. i < m) (sym is.dim) p in sym (residue_same f i g e q) ∙ so.constraints i g e q (len ∙ sym is.dim) h k;
  }

  -- ---- relations

  sum_same : (f f' : ℕ → ℚ) → ((a : ℕ) → a < T.dim → f a ≡ f' a) → sum_over (below T.dim) f ≡ sum_over (below T'.dim) f'
  sum_same f f' e = sum-below_cong f f' T.dim e ∙ ap (λ m. sum_over (below m) f') is.dim

  three : (a a' b b' c c' : ℚ) → a ≡ a' → b ≡ b' → c ≡ c' → a +ℚ b +ℚ c ≡ a' +ℚ b' +ℚ c'
  three a a' b b' c c' p q r = ap₂ ◌+ℚ◌ (ap₂ ◌+ℚ◌ p q) r

  BA_same : (i j k l : ℕ) → i < T.dim → j < T.dim → k < T.dim → l < T.dim → rel_BA T i j k l ≡ rel_BA T' i j k l
  unfolding rel_BA
  BA_same i j k l p q r s = sum_same (λ a. T.B i j a *ℚ T.A a k l +ℚ T.B i k a *ℚ T.A j a l +ℚ T.B i l a *ℚ T.A j a k) (λ a. T'.B i j a *ℚ T'.A a k l +ℚ T'.B i k a *ℚ T'.A j a l +ℚ T'.B i l a *ℚ T'.A j a k) (λ a t.
      three _ _ _ _ _ _ (ap₂ ◌*ℚ◌ (is.B i j a p q t) (is.A a k l t r s)) (ap₂ ◌*ℚ◌ (is.B i k a p r t) (is.A j a l q t s)) (ap₂ ◌*ℚ◌ (is.B i l a p s t) (is.A j a k q t r)))

  BB_same : (i j k l : ℕ) → i < T.dim → j < T.dim → k < T.dim → l < T.dim → rel_BB T i j k l ≡ rel_BB T' i j k l
  unfolding rel_BB
  BB_same i j k l p q r s = sum_same (λ a. T.B i j a *ℚ T.B a k l +ℚ T.B i k a *ℚ T.B j a l +ℚ T.C i l a *ℚ T.A j a k) (λ a. T'.B i j a *ℚ T'.B a k l +ℚ T'.B i k a *ℚ T'.B j a l +ℚ T'.C i l a *ℚ T'.A j a k) (λ a t.
      three _ _ _ _ _ _ (ap₂ ◌*ℚ◌ (is.B i j a p q t) (is.B a k l t r s)) (ap₂ ◌*ℚ◌ (is.B i k a p r t) (is.B j a l q t s)) (ap₂ ◌*ℚ◌ (is.C i l a p s t) (is.A j a k q t r)))

  BC_same : (i j k l : ℕ) → i < T.dim → j < T.dim → k < T.dim → l < T.dim → rel_BC T i j k l ≡ rel_BC T' i j k l
  unfolding rel_BC
  BC_same i j k l p q r s = sum_same (λ a. T.B i j a *ℚ T.C a k l +ℚ T.C i k a *ℚ T.B j a l +ℚ T.C i l a *ℚ T.B j a k) (λ a. T'.B i j a *ℚ T'.C a k l +ℚ T'.C i k a *ℚ T'.B j a l +ℚ T'.C i l a *ℚ T'.B j a k) (λ a t.
      three _ _ _ _ _ _ (ap₂ ◌*ℚ◌ (is.B i j a p q t) (is.C a k l t r s)) (ap₂ ◌*ℚ◌ (is.C i k a p r t) (is.B j a l q t s)) (ap₂ ◌*ℚ◌ (is.C i l a p s t) (is.B j a k q t r)))

  D_same : (i j : ℕ) → i < T.dim → j < T.dim → rel_D T i j ≡ rel_D T' i j
  unfolding rel_D
  D_same i j p q = ap₂ ◌+ℚ◌ (sum_same (λ a. T.B i j a *ℚ T.D a) (λ a. T'.B i j a *ℚ T'.D a) (λ a t. ap₂ ◌*ℚ◌ (is.B i j a p q t) (is.D a t)))
      (ap (λ t. half *ℚ t) (sum_both-cong (λ a b. T.C i a b *ℚ T.A j a b) (λ a b. T'.C i a b *ℚ T'.A j a b) T.dim (λ a b t u. ap₂ ◌*ℚ◌ (is.C i a b p t u) (is.A j a b q t u)) ∙ ap (λ m. sum_both m (λ a b. T'.C i a b *ℚ T'.A j a b)) is.dim))

  close_on : (N : ℕ) → N ≤ T.dim → Close T N → Close T' N
  unfolding rel_AA
  close_on N h c = record {
    AA = λ i j k p q r. sym (is.A i j k (wide i p) (wide j q) (wide k r)) ∙ c.AA i j k p q r ∙ is.A j i k (wide j q) (wide i p) (wide k r);
    BA = λ i j k l p q r s. sym (BA_same i j k l (wide i p) (wide j q) (wide k r) (wide l s)) ∙ c.BA i j k l p q r s ∙ BA_same j i k l (wide j q) (wide i p) (wide k r) (wide l s);
    BB = λ i j k l p q r s. sym (BB_same i j k l (wide i p) (wide j q) (wide k r) (wide l s)) ∙ c.BB i j k l p q r s ∙ BB_same j i k l (wide j q) (wide i p) (wide k r) (wide l s);
    BC = λ i j k l p q r s. sym (BC_same i j k l (wide i p) (wide j q) (wide k r) (wide l s)) ∙ c.BC i j k l p q r s ∙ BC_same j i k l (wide j q) (wide i p) (wide k r) (wide l s);
    D = λ i j p q. sym (D_same i j (wide i p) (wide j q)) ∙ c.D i j p q ∙ D_same j i (wide j q) (wide i p);
  }
    where
      wide : (i : ℕ) → i < N → i < T.dim
      wide i p = omega arith

rests_on : (T T' : Tensors) → SameEntries T T' → (X : ℕ) (a b : Key) → IsPlanned T X a → RestsOn T a b → RestsOn T' a b
rests_on T T' is X a b p (directly s) = directly (subst (StandsIn b) ((at_key T T' is a p.sorted).needs p.places) s)
rests_on T T' is X a b p (through {b = c} s r) =
    through (subst (StandsIn c) ((at_key T T' is a p.sorted).needs p.places) s) (rests_on T T' is X c b ((needs_first T X a p).needs c s).planned r)

pub below_dim : BelowDimLaw
below_dim T T' is = record {
  plan = plan_same T T' is;
  planned_keys = λ X key. (planned_on T T' is X key, planned_on T' T (same_back T T' is) X key);
  keys = at_key T T' is;
  rests = λ X a b p. (rests_on T T' is X a b p, rests_on T' T (same_back T T' is) X a b (planned_on T T' is X a p));
  solutions = λ X f. (solves_on T T' is X f, solves_on T' T (same_back T T' is) X f);
  relations = λ N h. (close_on T T' is N h, close_on T' T (same_back T T' is) N (subst (λ m. N ≤ m) is.dim h));
}
