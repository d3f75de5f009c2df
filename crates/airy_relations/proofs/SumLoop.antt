-- The sums over a. That of three products for each a goes from one index with a value to the next: those between give 0.
use Rattle.std.proofs.Common.{ℕ, suc, ◌+◌, ◌-◌, ◌<◌, ◌≤◌, min, ◌≡◌, refl, sym, ap, ap₂, subst, map, drop, drop-cons, get_or, add-one, ◌∙◌, cond, List, [], ◌∷◌, ◌++◌, arith, eqb, length, ◌⊎◌, inl, inr, Option, Some, None}
use Rattle.std.proofs.lemmas.Bool.{cases_eq, cases_lt, eq-eqb, ne_eqb}
use Rattle.std.proofs.lemmas.List.{drop_all}
use Rattle.airy_math.specs.Tensors.{Tensors, row_c}
use Rattle.airy_math.specs.Obtained.{IsInRange, obtained_from}
use Rattle.airy_math.specs.Rational.{ℚ}
use Rattle.airy_math.specs.RationalLaws.{0ℚ}
use Rattle.airy_math.specs.Sums.{each, below, count_from}
use Rattle.airy_math.proofs.EachLemmas.{count-append, each-append}
use Rattle.airy_math.proofs.SumLemmas.{Each}
use Rattle.sparse_tensor.specs.declared.parts.Part.TheVariants.{A, B, C}
use Rattle.airy_relations.specs.Places.{from_to}
use Rattle.airy_relations.specs.Rows.{row_of, first_at, first_index, behind, lesser}
use Rattle.airy_relations.specs.Sides.{Product, Times, AA, BA, BB, BC, D, at_BA, at_BB, at_BC, at_D, of_pair, products, obtained_side}
use Rattle.airy_relations.specs.Steps.{added, added_all}
use Rattle.airy_relations.specs.Threes.{Factors, entry, three, factors, IsSumOfThree}
use Rattle.airy_relations.proofs.RowLemmas.{or_end, front, row_begins, row_gives, row_skips, row_ends}
use Rattle.airy_relations.proofs.StepLemmas.{added_zero, added_alone, all_append, all_none, along_step, along_end}
use Rattle.airy_relations.proofs.VerdictLemmas.{from_zero}

-- ---- the least index at which one of three rows begins

or-lesser : (n : ℕ) (p q : Option ℕ) → or_end n (lesser p q) ≡ min (or_end n p) (or_end n q)
or-lesser n None None = omega arith
or-lesser n None (Some b) = omega arith
or-lesser n (Some a) None = omega arith
or-lesser n (Some a) (Some b) = omega arith

abbrev least_front : ℕ → List (ℕ × ℚ) → List (ℕ × ℚ) → List (ℕ × ℚ) → ℕ
least_front n x y z = min (front n x) (min (front n y) (front n z))

-- o is the least index at which one of the rows begins
abbrev pub IsLeast : List (ℕ × ℚ) → List (ℕ × ℚ) → List (ℕ × ℚ) → Option ℕ → Type 0
IsLeast x y z o = o ≡ lesser (first_index x) (lesser (first_index y) (first_index z))

pub is_least : (x y z : List (ℕ × ℚ)) (p q r o o' : Option ℕ) → o ≡ lesser p (lesser q r) → p ≡ first_index x → q ≡ first_index y → r ≡ first_index z → o ≡ o' → IsLeast x y z o'
is_least x y z p q r o o' e ep eq er eo = sym eo ∙ e ∙ ap₂ lesser ep (ap₂ lesser eq er)

least_is : (n : ℕ) (x y z : List (ℕ × ℚ)) (o : Option ℕ) → IsLeast x y z o → or_end n o ≡ least_front n x y z
least_is n x y z o e = ap (or_end n) e ∙ or-lesser n (first_index x) _ ∙ ap (min (front n x)) (or-lesser n (first_index y) (first_index z))

-- each turn shortens the rows
shorter_one : (a : ℕ) (row : List (ℕ × ℚ)) → a ≤ front (suc a) row → length (behind a row) + (suc a - front (suc a) row) ≤ length row
shorter_one a [] h = omega arith
shorter_one a (e ∷ es) h = by (cases_eq e.0 a)
  where
    by : (e.0 ≡ a) ⊎ (e.0 ≡ a → ⊥) → length (cond (eqb e.0 a) es (e ∷ es)) + (suc a - min (suc a) e.0) ≤ length (e ∷ es)
    by (inl q) = rw (eq-eqb e.0 a q) (omega arith)
    by (inr n) = rw (ne_eqb e.0 a n) (grind arith)

pub shorter : (x y z x' y' z' : List (ℕ × ℚ)) (a : ℕ) → IsLeast x y z (Some a) → x' ≡ behind a x → y' ≡ behind a y → z' ≡ behind a z → length x' + length y' + length z' < length x + length y + length z
shorter x y z x' y' z' a e p q r =
    let l : min (suc a) a ≡ least_front (suc a) x y z = least_is (suc a) x y z (Some a) e in
    omega (arith, l, shorter_one a x (omega (arith, l)), shorter_one a y (omega (arith, l)), shorter_one a z (omega (arith, l)), ap length p, ap length q, ap length r)

-- ---- the sum

-- products with first factors 0 leave the total
idle : (S : Factors) (t : ℚ) (cs : List ℕ) → IsInRange t → Each (λ c. S.f c ≡ 0ℚ) cs → Each (λ c. S.g c ≡ 0ℚ) cs → Each (λ c. S.h c ≡ 0ℚ) cs → added_all (Some t) (each cs (three S)) ≡ Some t
unfolding each three added_all obtained_from added
idle S t [] r p q s = refl
idle S t (c ∷ cs) r p q s =
    ap (λ o. added_all (added (added o (Times (S.g c) (S.v c))) (Times (S.h c) (S.w c))) (each cs (three S))) (added_zero t (S.f c) (S.u c) r p.0)
    ∙ ap (λ o. added_all (added o (Times (S.h c) (S.w c))) (each cs (three S))) (added_zero t (S.g c) (S.v c) r q.0)
    ∙ ap (λ o. added_all o (each cs (three S))) (added_zero t (S.h c) (S.w c) r s.0)
    ∙ idle S t cs r p.1 q.1 s.1

from_parts : (a d n : ℕ) → a + d ≤ n → from_to a n ≡ count_from a d ++ from_to (a + d) n
unfolding from_to
from_parts a d n h = ap (count_from a) sum ∙ count-append a d (n - (a + d))
  where
    sum : n - a ≡ d + (n - (a + d))
    sum = omega arith

module _ (S : Factors) (n : ℕ) (side : Option ℚ) where
  -- What holds at a: the rows go on from a, and the total with the products from a on adds up to the side.
  pub record IsAt (a : ℕ) (x y z : List (ℕ × ℚ)) (total : ℚ) : Type 0 where
    pub within : a ≤ n
    pub first_is : x ≡ row_of S.f a n
    pub second_is : y ≡ row_of S.g a n
    pub third_is : z ≡ row_of S.h a n
    pub total_is : added_all (Some total) (each (from_to a n) (three S)) ≡ side

  -- what holds before each turn: the sum has come to some index
  pub record IsUnder (x y z : List (ℕ × ℚ)) (total : ℚ) : Type 0 where
    pub a : ℕ
    pub at : IsAt a x y z total

  pub begins : (x y z : List (ℕ × ℚ)) (total : ℚ) → x ≡ row_of S.f 0 n → y ≡ row_of S.g 0 n → z ≡ row_of S.h 0 n → total ≡ 0ℚ
      → added_all (Some 0ℚ) (each (below n) (three S)) ≡ side → IsUnder x y z total
  begins x y z total p q r e d = record {
    a = 0;
    at = record { within = omega arith; first_is = p; second_is = q; third_is = r; total_is = ap₂ (λ s xs. added_all (Some s) (each xs (three S))) e (from_zero n) ∙ d };
  }

  -- where no row begins before a + d, nothing stands between a and a + d
  passed : (a d : ℕ) (x y z : List (ℕ × ℚ)) (total : ℚ) → IsAt a x y z total → IsInRange total → a + d ≤ n → a + d ≤ least_front n x y z → IsAt (a + d) x y z total
  passed a d x y z total at r l h =
      let p = row_skips S.f a d n x at.first_is l (omega arith) in
      let q = row_skips S.g a d n y at.second_is l (omega arith) in
      let s = row_skips S.h a d n z at.third_is l (omega arith) in
      record {
        within = l;
        first_is = p.rest;
        second_is = q.rest;
        third_is = s.rest;
        total_is = sym (ap (λ xs. added_all (Some total) (each xs (three S))) (from_parts a d n l)
            ∙ ap (added_all (Some total)) (each-append (count_from a d) (from_to (a + d) n) (three S))
            ∙ all_append (Some total) (each (count_from a d) (three S)) (each (from_to (a + d) n) (three S))
            ∙ ap (λ o. added_all o (each (from_to (a + d) n) (three S))) (idle S total (count_from a d) r p.zeros q.zeros s.zeros)) ∙ at.total_is;
      }

  -- the sum comes to an index before which no row begins
  comes : (b : ℕ) (x y z : List (ℕ × ℚ)) (total : ℚ) (u : IsUnder x y z total) → IsInRange total → b ≤ n → b ≤ least_front n x y z → u.a ≤ b → IsAt b x y z total
  comes b x y z total u r l h k = subst (λ c. IsAt c x y z total) same (passed u.a (b - u.a) x y z total u.at r (omega arith) (omega arith))
    where
      same : u.a + (b - u.a) ≡ b
      same = omega arith

  pub ends : (x y z : List (ℕ × ℚ)) (total : ℚ) → IsUnder x y z total → IsInRange total → IsLeast x y z None → side ≡ Some total
  ends x y z total u r e =
      let at = comes n x y z total u r (omega arith) (omega (arith, least_is n x y z None e)) u.at.within in
      sym at.total_is ∙ along_end (three S) (Some total) n n (omega arith)

  -- a turn at a: the rows begin there at the earliest
  pub record IsTurn (a : ℕ) (x y z : List (ℕ × ℚ)) (total : ℚ) : Type 0 where
    pub inside : a < n
    pub at : IsAt a x y z total

  pub turns : (b : ℕ) (x y z : List (ℕ × ℚ)) (total : ℚ) → IsUnder x y z total → IsInRange total → IsLeast x y z (Some b) → IsTurn b x y z total
  turns b x y z total u r e = by (cases_lt b n)
    where
      least : min n b ≡ least_front n x y z
      least = least_is n x y z (Some b) e

      from : (f : ℕ → ℚ) (row : List (ℕ × ℚ)) → row ≡ row_of f u.a n → u.a ≤ front n row
      from f row e = row_begins f u.a n row e u.at.within

      behind_a : u.a ≤ least_front n x y z
      behind_a = omega (arith, from S.f x u.at.first_is, from S.g y u.at.second_is, from S.h z u.at.third_is)

      by : (b < n) ⊎ (n ≤ b) → IsTurn b x y z total
      by (inl h) = record { inside = h; at = comes b x y z total u r (omega arith) (omega (arith, least)) (omega (arith, least, behind_a)) }
      by (inr h) =
          let at = comes n x y z total u r (omega arith) (omega (arith, least)) u.at.within in
          let e : ◌≡◌ {A = Option ℕ} (Some b) None = e ∙ ap₂ lesser (row_ends S.f n x at.first_is) (ap₂ lesser (row_ends S.g n y at.second_is) (row_ends S.h n z at.third_is)) in
          cc

  module _ (a : ℕ) (x y z : List (ℕ × ℚ)) (total : ℚ) (is : IsTurn a x y z total) (p q s : ℚ) (ep : p ≡ first_at a x) (eq : q ≡ first_at a y) (es : s ≡ first_at a z)
      (o : Option ℚ) (eo : o ≡ added_all (Some total) (Times p (S.u a) ∷ Times q (S.v a) ∷ Times s (S.w a) ∷ [])) where
    -- the products behind a, after the three at a by the values that the rows give
    rest : added_all o (each (from_to (a + 1) n) (three S)) ≡ side
    unfolding three
    rest =
        let fp : p ≡ S.f a = ep ∙ ap (first_at a) is.at.first_is ∙ (row_gives S.f a n is.inside).value in
        let fq : q ≡ S.g a = eq ∙ ap (first_at a) is.at.second_is ∙ (row_gives S.g a n is.inside).value in
        let fs : s ≡ S.h a = es ∙ ap (first_at a) is.at.third_is ∙ (row_gives S.h a n is.inside).value in
        let now : o ≡ added_all (Some total) (three S a) = eo ∙ rw (fp, fq, fs) refl in
        ap (λ t. added_all t (each (from_to (a + 1) n) (three S))) now ∙ sym (along_step (three S) (Some total) a n is.inside) ∙ is.at.total_is

    pub fails : o ≡ None → side ≡ None
    fails e = sym rest ∙ ap (λ t. added_all t (each (from_to (a + 1) n) (three S))) e ∙ all_none (each (from_to (a + 1) n) (three S))

    pub goes : (x' y' z' : List (ℕ × ℚ)) (t : ℚ) → x' ≡ behind a x → y' ≡ behind a y → z' ≡ behind a z → o ≡ Some t → IsUnder x' y' z' t
    goes x' y' z' t bx by bz e =
        let inside = is.inside in
        record {
          a = a + 1;
          at = record {
            within = omega arith;
            first_is = bx ∙ ap (behind a) is.at.first_is ∙ (row_gives S.f a n is.inside).rest;
            second_is = by ∙ ap (behind a) is.at.second_is ∙ (row_gives S.g a n is.inside).rest;
            third_is = bz ∙ ap (behind a) is.at.third_is ∙ (row_gives S.h a n is.inside).rest;
            total_is = ap (λ t. added_all t (each (from_to (a + 1) n) (three S))) (sym e) ∙ rest;
          };
        }

-- ---- the sum of D

unfoldable pub sum_D : Tensors → ℕ → ℕ → Option ℚ
sum_D T i j = added_all (Some 0ℚ) (each (below T.dim) (at_D T i j))

-- What holds at a: the row of B goes on from a, and the total with the products from a on adds up to the sum.
pub record IsAtD (T : Tensors) (i j a : ℕ) (row : List (ℕ × ℚ)) (total : ℚ) : Type 0 where
  pub row_is : row ≡ row_of (λ a. T.B i j a) a T.dim
  pub total_is : added_all (Some total) (each (from_to a T.dim) (at_D T i j)) ≡ sum_D T i j

pub begins_D : (T : Tensors) (i j : ℕ) (row : List (ℕ × ℚ)) (total : ℚ) → row ≡ row_of (λ a. T.B i j a) 0 T.dim → total ≡ 0ℚ → IsAtD T i j 0 row total
unfolding sum_D
begins_D T i j row total p e = record { row_is = p; total_is = ap₂ (λ s xs. added_all (Some s) (each xs (at_D T i j))) e (from_zero T.dim) }

module _ (T : Tensors) (i j a : ℕ) (row : List (ℕ × ℚ)) (total : ℚ) (is : IsAtD T i j a row total) (l : a < T.dim) (x : ℚ) (ex : x ≡ first_at a row) (o : Option ℚ) (eo : added (Some total) (Times x (T.D a)) ≡ o) where
  rest_D : added_all o (each (from_to (a + 1) T.dim) (at_D T i j)) ≡ sum_D T i j
  unfolding at_D added added_all obtained_from
  rest_D =
      let fx : x ≡ T.B i j a = ex ∙ ap (first_at a) is.row_is ∙ (row_gives (λ a. T.B i j a) a T.dim l).value in
      ap (λ t. added_all t (each (from_to (a + 1) T.dim) (at_D T i j))) (sym eo ∙ ap (λ y. added (Some total) (Times y (T.D a))) fx)
      ∙ sym (along_step (at_D T i j) (Some total) a T.dim l) ∙ is.total_is

  pub fails_D : o ≡ None → sum_D T i j ≡ None
  fails_D e = sym rest_D ∙ ap (λ t. added_all t (each (from_to (a + 1) T.dim) (at_D T i j))) e ∙ all_none (each (from_to (a + 1) T.dim) (at_D T i j))

  pub goes_D : (row' : List (ℕ × ℚ)) (t : ℚ) → row' ≡ behind a row → o ≡ Some t → IsAtD T i j (a + 1) row' t
  goes_D row' t b e = record {
    row_is = b ∙ ap (behind a) is.row_is ∙ (row_gives (λ a. T.B i j a) a T.dim l).rest;
    total_is = ap (λ t. added_all t (each (from_to (a + 1) T.dim) (at_D T i j))) (sym e) ∙ rest_D;
  }

pub ends_D : (T : Tensors) (i j a : ℕ) (row : List (ℕ × ℚ)) (total : ℚ) → IsAtD T i j a row total → T.dim ≤ a → sum_D T i j ≡ Some total
ends_D T i j a row total is l = sym is.total_is ∙ along_end (at_D T i j) (Some total) a T.dim l

side_D : (T : Tensors) (i j : ℕ) → obtained_side T D i j 0 0 ≡ added_all (sum_D T i j) (map (of_pair T j) (row_c T i))
unfolding obtained_side products sum_D added_all
side_D T i j = all_append (Some 0ℚ) (each (below T.dim) (at_D T i j)) (map (of_pair T j) (row_c T i))

pub pairs_begin : (T : Tensors) (i j : ℕ) (t : ℚ) (row : List (ℕ × ℕ × ℚ)) → sum_D T i j ≡ Some t → row ≡ row_c T i → added_all (Some t) (map (of_pair T j) row) ≡ obtained_side T D i j 0 0
pairs_begin T i j t row e p = sym (side_D T i j ∙ ap₂ (λ s r. added_all s (map (of_pair T j) r)) e (sym p))

pub pairs_none : (T : Tensors) (i j : ℕ) → sum_D T i j ≡ None → obtained_side T D i j 0 0 ≡ None
pairs_none T i j e = side_D T i j ∙ ap (λ s. added_all s (map (of_pair T j) (row_c T i))) e ∙ all_none (map (of_pair T j) (row_c T i))

-- the entry at the place i of a row, and those behind it
pub pair_step : (f : ℕ × ℕ × ℚ → Product) (i : ℕ) (s : ℚ) (o : Option ℚ) (xs : List (ℕ × ℕ × ℚ)) (x : ℕ × ℕ × ℚ) → i < length xs → x ≡ get_or xs i x → o ≡ added (Some s) (f x)
    → added_all (Some s) (map f (drop i xs)) ≡ added_all o (map f (drop (i + 1) xs))
unfolding added_all obtained_from added
pair_step f i s o xs x h e eo = rw (add-one, drop-cons xs i x h, ← e, eo) refl

pub pairs_end : (f : ℕ × ℕ × ℚ → Product) (i : ℕ) (s : ℚ) (xs : List (ℕ × ℕ × ℚ)) → length xs ≤ i → added_all (Some s) (map f (drop i xs)) ≡ Some s
unfolding added_all obtained_from
pairs_end f i s xs h = ap (λ ys. added_all (Some s) (map f ys)) (drop_all i xs h)

-- ---- the sides

pub side_AA : (T : Tensors) (i j k l : ℕ) → IsInRange (T.A i j k) → Some (T.A i j k) ≡ obtained_side T AA i j k l
unfolding obtained_side products added_all
side_AA T i j k l h = sym (added_alone (T.A i j k) h)

module _ (T : Tensors) (i j k l : ℕ) (x y z : List (ℕ × ℚ)) (o : Option ℚ) (ex : x ≡ row_of (λ a. T.B i j a) 0 T.dim) where
  pub side_BA : y ≡ row_of (λ a. T.B i k a) 0 T.dim → z ≡ row_of (λ a. T.B i l a) 0 T.dim → IsSumOfThree T x y z (A, A, A) j k l o → o ≡ obtained_side T BA i j k l
  unfolding IsSumOfThree factors three entry obtained_side products at_BA added_all
  side_BA ey ez h = h _ _ _ ex ey ez

  pub side_BB : y ≡ row_of (λ a. T.B i k a) 0 T.dim → z ≡ row_of (λ a. T.C i l a) 0 T.dim → IsSumOfThree T x y z (B, B, A) j k l o → o ≡ obtained_side T BB i j k l
  unfolding IsSumOfThree factors three entry obtained_side products at_BB added_all
  side_BB ey ez h = h _ _ _ ex ey ez

  pub side_BC : y ≡ row_of (λ a. T.C i k a) 0 T.dim → z ≡ row_of (λ a. T.C i l a) 0 T.dim → IsSumOfThree T x y z (C, B, B) j k l o → o ≡ obtained_side T BC i j k l
  unfolding IsSumOfThree factors three entry obtained_side products at_BC added_all
  side_BC ey ez h = h _ _ _ ex ey ez

-- D has no k and no l
pub any_D : (T : Tensors) (i j k l : ℕ) → obtained_side T D i j 0 0 ≡ obtained_side T D i j k l
unfolding obtained_side products
any_D T i j k l = refl
