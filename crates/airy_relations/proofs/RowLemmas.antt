-- A row read from its front gives the value at each index.
use Rattle.std.proofs.Common.{ℕ, zero, suc, ◌+◌, ◌-◌, ◌<◌, ◌≤◌, min, ◌≡◌, refl, sym, ap, ap₂, subst, ◌∙◌, Bool, true, false, cond, not, ◌&&◌, List, [], ◌∷◌, ◌++◌, map, arith, eqb, leb, ◌⊎◌, inl, inr, Option, Some, None, append-nil, add-one}
use Rattle.std.proofs.lemmas.Bool.{eq-eqb, ne_eqb, cases_lt, lt-leb, le-leb}
use Rattle.airy_math.specs.Rational.{ℚ}
use Rattle.airy_math.specs.RationalLaws.{0ℚ}
use Rattle.airy_math.specs.Sums.{below, count_from, keep, each}
use Rattle.airy_math.specs.Tensors.{Tensors, IsSymmetric, is_zero, row_b, row_c}
use Rattle.airy_math.proofs.PivotLemmas.{zero_number}
use Rattle.airy_relations.specs.Places.{from_to}
use Rattle.airy_relations.specs.Rows.{first_at, first_index, behind, row_of, other_of, with_other, others}
use Rattle.airy_relations.proofs.VerdictLemmas.{from_zero}
use Rattle.airy_math.proofs.EachLemmas.{each-cong, each-count_append, each-each, each-map, each-none, keep-singles}
use Rattle.airy_math.proofs.SamePlanLaw.{each-cong_each}
use Rattle.airy_math.proofs.SumLemmas.{Each, Each-below, Each-count}
use Rattle.airy_math.proofs.KeyLemmas.{eqb-self}

-- ---- a row, entry by entry

-- the values of f at count numbers from a on that aren't 0
abbrev counted : (ℕ → ℚ) → ℕ → ℕ → List (ℕ × ℚ)
counted f a n = keep (λ r. not (is_zero r.1)) (map (λ b. (b, f b)) (count_from a n))

counted_one : (f : ℕ → ℚ) (a n : ℕ) (b : Bool) → is_zero (f a) ≡ b → counted f a (suc n) ≡ cond b (counted f (suc a) n) ((a, f a) ∷ counted f (suc a) n)
unfolding count_from keep
counted_one f a n true e = rw (e, keep) refl
counted_one f a n false e = rw (e, keep) refl

row_one : (f : ℕ → ℚ) (a n : ℕ) (t : Bool) → a < n → is_zero (f a) ≡ t → row_of f a n ≡ cond t (row_of f (suc a) n) ((a, f a) ∷ row_of f (suc a) n)
unfolding row_of from_to
row_one f a n t l e = ap (counted f a) more ∙ counted_one f a (n - suc a) t e
  where
    more : n - a ≡ suc (n - suc a)
    more = omega arith

row_none : (f : ℕ → ℚ) (n : ℕ) → row_of f n n ≡ []
unfolding row_of from_to count_from keep
row_none f n = ap (counted f n) none
  where
    none : n - n ≡ 0
    none = omega arith

-- an index below n, where there is one, and else n
abbrev pub or_end : ℕ → Option ℕ → ℕ
or_end n None = n
or_end n (Some b) = min n b

-- the index below n at which a row begins, and else n
abbrev pub front : ℕ → List (ℕ × ℚ) → ℕ
front n row = or_end n (first_index row)

row_from : (f : ℕ → ℚ) (d a n : ℕ) → d ≡ n - a → a ≤ n → a ≤ front n (row_of f a n)
row_from f zero a n e l = subst (λ b. b ≤ front n (row_of f b n)) same (subst (λ row. n ≤ front n row) (sym (row_none f n)) (omega arith))
  where
    same : n ≡ a
    same = omega arith
row_from f (suc d) a n e l = by (is_zero (f a)) refl (row_from f d (suc a) n (omega arith) (omega arith))
  where
    by : (t : Bool) → is_zero (f a) ≡ t → suc a ≤ front n (row_of f (suc a) n) → a ≤ front n (row_of f a n)
    by true z w = subst (λ row. a ≤ front n row) (sym (row_one f a n true (omega arith) z)) (omega arith)
    by false z w = subst (λ row. a ≤ front n row) (sym (row_one f a n false (omega arith) z)) (omega arith)

pub row_begins : (f : ℕ → ℚ) (a n : ℕ) (row : List (ℕ × ℚ)) → row ≡ row_of f a n → a ≤ n → a ≤ front n row
row_begins f a n row e l = subst (λ r. a ≤ front n r) (sym e) (row_from f (n - a) a n refl l)

-- A row that begins behind a has no value there.
past_first : (a n : ℕ) (row : List (ℕ × ℚ)) → a < front n row → first_at a row ≡ 0ℚ
past_first a n [] h = refl
past_first a n (e ∷ es) h = ap (λ t. cond t e.1 0ℚ) (ne_eqb e.0 a (λ q. omega arith))

past_behind : (a n : ℕ) (row : List (ℕ × ℚ)) → a < front n row → behind a row ≡ row
past_behind a n [] h = refl
past_behind a n (e ∷ es) h = ap (λ t. cond t es (e ∷ es)) (ne_eqb e.0 a (λ q. omega arith))

-- What a row gives at the index where it begins: the value there, and the row behind it.
pub record Gives (f : ℕ → ℚ) (a n : ℕ) (row : List (ℕ × ℚ)) : Type 0 where
  pub value : first_at a row ≡ f a
  pub rest : behind a row ≡ row_of f (a + 1) n

pub row_gives : (f : ℕ → ℚ) (a n : ℕ) → a < n → Gives f a n (row_of f a n)
row_gives f a n l = by (is_zero (f a)) refl (row_from f (n - suc a) (suc a) n refl (omega arith))
  where
    next : row_of f (suc a) n ≡ row_of f (a + 1) n
    next = ap (λ b. row_of f b n) (sym (add-one a))

    by : (t : Bool) → is_zero (f a) ≡ t → a < front n (row_of f (suc a) n) → Gives f a n (row_of f a n)
    by true z w = subst (Gives f a n) (sym (row_one f a n true l z)) (record {
      value = past_first a n (row_of f (suc a) n) w ∙ sym (zero_number (f a) z);
      rest = past_behind a n (row_of f (suc a) n) w ∙ next;
    })
    by false z w = subst (Gives f a n) (sym (row_one f a n false l z)) (record {
      value = ap (λ t. cond t (f a) 0ℚ) (eqb-self a);
      rest = ap (λ t. cond t (row_of f (suc a) n) ((a, f a) ∷ row_of f (suc a) n)) (eqb-self a) ∙ next;
    })

-- Where a row begins d numbers behind a or later, these numbers have the value 0, and the row goes on behind them.
pub record Skips (f : ℕ → ℚ) (a d n : ℕ) (row : List (ℕ × ℚ)) : Type 0 where
  pub zeros : Each (λ c. f c ≡ 0ℚ) (count_from a d)
  pub rest : row ≡ row_of f (a + d) n

skips : (f : ℕ → ℚ) (d a n : ℕ) → a + d ≤ n → a + d ≤ front n (row_of f a n) → Skips f a d n (row_of f a n)
unfolding count_from
skips f zero a n l h = record { zeros = tt; rest = ap (λ b. row_of f b n) same }
  where
    same : a ≡ a + 0
    same = omega arith
skips f (suc d) a n l h = by (is_zero (f a)) refl (skips f d (suc a) n (omega arith))
  where
    same : suc a + d ≡ a + suc d
    same = omega arith

    by : (t : Bool) → is_zero (f a) ≡ t → (suc a + d ≤ front n (row_of f (suc a) n) → Skips f (suc a) d n (row_of f (suc a) n)) → Skips f a (suc d) n (row_of f a n)
    by true z ih =
        let e = row_one f a n true (omega arith) z in
        let s = ih (omega (arith, subst (λ r. a + suc d ≤ front n r) e h)) in
        record { zeros = (zero_number (f a) z, s.zeros); rest = e ∙ s.rest ∙ ap (λ b. row_of f b n) same }
    by false z ih = absurd (omega (arith, subst (λ r. a + suc d ≤ front n r) (row_one f a n false (omega arith) z) h))

pub row_skips : (f : ℕ → ℚ) (a d n : ℕ) (row : List (ℕ × ℚ)) → row ≡ row_of f a n → a + d ≤ n → a + d ≤ front n row → Skips f a d n row
row_skips f a d n row e l h = subst (Skips f a d n) (sym e) (skips f d a n l (subst (λ r. a + d ≤ front n r) e h))

-- a row that begins nowhere from a on
pub row_ends : (f : ℕ → ℚ) (n : ℕ) (row : List (ℕ × ℚ)) → row ≡ row_of f n n → first_index row ≡ None
row_ends f n row e = ap first_index (e ∙ row_none f n)

pub row_b_is : (T : Tensors) (i j : ℕ) → row_b T i j ≡ row_of (λ a. T.B i j a) 0 T.dim
unfolding row_b row_of
row_b_is T i j = ap (λ xs. keep (λ r. not (is_zero r.1)) (map (λ a. (a, T.B i j a)) xs)) (sym (from_zero T.dim))

-- ---- the entries of the pairs a at most b that have the index l

-- one entry, where it has the index l
abbrev with_l : ℕ → ℕ × ℕ × ℚ → List (ℕ × ℚ)
with_l l e = with_other (other_of e.0 e.1 l) e.2 []

others_are : (l : ℕ) (xs : List (ℕ × ℕ × ℚ)) → others l xs ≡ each xs (with_l l)
unfolding each
others_are l [] = refl
others_are l (x ∷ xs) = by (other_of x.0 x.1 l) (others_are l xs)
  where
    by : (o : Option ℕ) → others l xs ≡ each xs (with_l l) → with_other o x.2 (others l xs) ≡ with_other o x.2 [] ++ each xs (with_l l)
    by None h = h
    by (Some a) h = ap (λ t. (a, x.2) ∷ t) h

module _ (v : ℕ → ℕ → ℚ) (s : (a b : ℕ) → v a b ≡ v b a) (l n : ℕ) (inside : l < n) where
  -- the value at l and b, where it isn't 0
  abbrev one : ℕ → List (ℕ × ℚ)
  one b = cond (not (is_zero (v l b))) ((b, v l b) ∷ []) []

  -- what the pair (a, b) gives
  abbrev cell : ℕ → ℕ → List (ℕ × ℚ)
  cell a b = each (cond (leb a b && not (is_zero (v a b))) ((a, b, v a b) ∷ []) []) (with_l l)

  nothing : (t : Bool) (a b : ℕ) (w : ℚ) → (a ≡ l → ⊥) → (b ≡ l → ⊥) → each (cond t ((a, b, w) ∷ []) []) (with_l l) ≡ []
  unfolding each
  nothing true a b w p q = rw (ne_eqb a l p, ne_eqb b l q) refl
  nothing false a b w p q = refl

  greater : (a b : ℕ) → b < a → cell a b ≡ []
  unfolding each
  greater a b h = rw (lt-leb a b h) refl

  -- a pair without l gives nothing
  other : (a b : ℕ) → (a ≡ l → ⊥) → (b ≡ l → ⊥) → cell a b ≡ []
  other a b = nothing (leb a b && not (is_zero (v a b))) a b (v a b)

  -- those with l at their first place, and at their second one
  first_l : (b : ℕ) → l ≤ b → cell l b ≡ one b
  unfolding each
  first_l b h = rw (le-leb l b h) (by (not (is_zero (v l b))))
    where
      by : (t : Bool) → each (cond t ((l, b, v l b) ∷ []) []) (with_l l) ≡ cond t ((b, v l b) ∷ []) []
      by true = rw (eq-eqb l l refl) refl
      by false = refl

  second_l : (a : ℕ) → a < l → cell a l ≡ one a
  unfolding each
  second_l a h = rw (le-leb a l (omega arith), s a l) (by (not (is_zero (v l a))))
    where
      by : (t : Bool) → each (cond t ((a, l, v l a) ∷ []) []) (with_l l) ≡ cond t ((a, v l a) ∷ []) []
      by true = rw (ne_eqb a l (λ e. omega arith), eq-eqb l l refl) refl
      by false = refl

  -- the numbers below n are those below l, l, and those behind it
  parted : {B : Type 0} (f : ℕ → List B) → each (below n) f ≡ each (below l) f ++ (f l ++ each (count_from (suc l) (n - suc l)) f)
  unfolding each below count_from
  parted f = ap (λ m. each (count_from 0 m) f) sum ∙ each-count_append f 0 l (suc (n - suc l)) ∙ ap (λ m. each (count_from 0 l) f ++ (f m ++ each (count_from (suc m) (n - suc l)) f)) first
    where
      sum : n ≡ l + suc (n - suc l)
      sum = omega arith

      first : 0 + l ≡ l
      first = omega arith

  -- the pairs of a
  abbrev line : ℕ → List (ℕ × ℚ)
  line a = each (below n) (cell a)

  line_below : (a : ℕ) → a < l → line a ≡ one a
  line_below a h =
      parted (cell a)
      ∙ ap₂ (λ xs ys. xs ++ (cell a l ++ ys)) (each-none (cell a) (below l) (Each-below _ l (λ b p. other a b (λ e. omega arith) (λ e. omega arith))))
      (each-none (cell a) _ (Each-count _ (suc l) (n - suc l) (λ b p q. other a b (λ e. omega arith) (λ e. omega arith))))
      ∙ append-nil (cell a l) ∙ second_l a h

  line_at : line l ≡ one l ++ each (count_from (suc l) (n - suc l)) one
  line_at =
      parted (cell l)
      ∙ ap₂ ◌++◌ (each-none (cell l) (below l) (Each-below _ l (λ b p. greater l b p)))
      (ap₂ ◌++◌ (first_l l (omega arith)) (each-cong_each (cell l) one _ (Each-count _ (suc l) (n - suc l) (λ b p q. first_l b (omega arith)))))

  line_above : (a : ℕ) → l < a → line a ≡ []
  line_above a h = each-none (cell a) (below n) (Each-below _ n (λ b p. by b (cases_lt b a)))
    where
      by : (b : ℕ) → (b < a) ⊎ (a ≤ b) → cell a b ≡ []
      by b (inl p) = greater a b p
      by b (inr p) = other a b (λ e. omega arith) (λ e. omega arith)

  lines_are : each (below n) line ≡ each (below n) one
  lines_are =
      parted line
      ∙ ap₂ ◌++◌ (each-cong_each line one (below l) (Each-below _ l line_below))
      (ap₂ ◌++◌ line_at (each-none line _ (Each-count _ (suc l) (n - suc l) (λ a p q. line_above a p))) ∙ append-nil (one l ++ each (count_from (suc l) (n - suc l)) one))
      ∙ sym (parted one)

pub row_c_is : (T : Tensors) (i l : ℕ) → IsSymmetric T → l < T.dim → others l (row_c T i) ≡ row_of (λ a. T.C i l a) 0 T.dim
unfolding row_c row_of
row_c_is T i l s h =
    others_are l (row_c T i)
    ∙ ap (λ xs. each xs (with_l l)) (keep-singles _ (each (below T.dim) pairs))
    ∙ each-each (with_l l) _ (each (below T.dim) pairs)
    ∙ each-each _ pairs (below T.dim)
    ∙ each-cong _ (line (T.C i) (s.C i) l T.dim h) (below T.dim) (λ a. each-map _ (λ b. (a, b, T.C i a b)) (below T.dim))
    ∙ lines_are (T.C i) (s.C i) l T.dim h
    ∙ sym (ap (λ xs. keep (λ r. not (is_zero r.1)) (map (λ b. (b, T.C i l b)) xs)) (from_zero T.dim) ∙ keep-singles _ (map (λ b. (b, T.C i l b)) (below T.dim)) ∙ each-map _ (λ b. (b, T.C i l b)) (below T.dim))
  where
    pairs : ℕ → List (ℕ × ℕ × ℚ)
    pairs a = map (λ b. (a, b, T.C i a b)) (below T.dim)
