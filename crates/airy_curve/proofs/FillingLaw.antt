-- The walk that fills B and C with the entries of a sequence, by i, j and k ascending.
use Rattle.std.proofs.Common.{◌≡◌, ℕ, ◌+◌, ◌-◌, ◌*◌, ◌<◌, ◌≤◌, ◌⊎◌, inl, inr, Bool, true, false, ◌&&◌, cond, eqb, leb, ltb, List, [], refl, sym, ap, ap₂, subst, ◌∙◌, arith}
use Rattle.std.specs.Prelude.{Option, Some, None, Err, min, max}
use Rattle.std.proofs.lemmas.Bool.{cases_lt, leb-true, le-leb, lt-ltb, ltb-true}
use Rattle.std.proofs.lemmas.Bool.Decides.{nat_tests}
use Rattle.std.proofs.lemmas.Option.{none-some}
use Rattle.airy_math.specs.Rational.{ℚ, ◌*ℚ◌, whole}
use Rattle.airy_math.specs.RationalLaws.{0ℚ}
use Rattle.airy_math.specs.Sums.{when}
use Rattle.airy_math.specs.Obtained.{obtained_product}
use Rattle.airy_math.specs.Curves.{entry}
use Rattle.airy_math.proofs.SumLemmas.{*ℚ-0ℚ, when_true, when_false}
use Rattle.sparse_tensor.specs.Entries.{Entry, Entries, is_taken, looked_up, same_place, value_at}
use Rattle.sparse_tensor.specs.Grades.{AreEntries}
use Rattle.sparse_tensor.specs.Puts.{with_b, with_c}
use Rattle.sparse_tensor.proofs.EntryLemmas.{free_from_zero}
use Rattle.sparse_tensor.proofs.PutLaw.{with_b-zero, with_c-zero}
use Rattle.sparse_tensor.proofs.SoundLaw.{is_zero-0ℚ, is_zero-of}
use Rattle.airy_curve.specs.Filling.{entry_b, entry_c, exponent_of, Fits, IsFilled, IsPlace, Tells}
use Rattle.airy_curve.specs.Steps.{unless_obtained, where_so, place_refusal, row_refusal, plane_refusal, entry_refusal}
use Rattle.airy_curve.specs.Storing.{Names}
use Rattle.airy_curve.specs.declared.making.CurveErr.{CurveErr}
use Rattle.airy_curve.specs.declared.making.CurveErr.TheVariants.{Over, NoMemory}
use Rattle.airy_curve.proofs.PutLemmas.{b-is, c-is, put_at, put_list, same_parts}
use Rattle.airy_curve.proofs.StepLemmas.{first_is, first_none}
use Rattle.airy_math.proofs.KeyLemmas.{ltb-self}

-- ---- the exponent of a place

pub record IsExponent (m n most e : ℕ) : Type 0 where
  pub low : n + e ≡ m
  pub high : e ≤ most

pub exponent-some : (m n most e : ℕ) → exponent_of m n most ≡ Some e → IsExponent m n most e
unfolding exponent_of
exponent-some m n most e h = by (leb n m) refl (leb (m - n) most) refl h
  where
    by : (s : Bool) → leb n m ≡ s → (t : Bool) → leb (m - n) most ≡ t → cond (s && t) (Some (m - n)) None ≡ Some e → IsExponent m n most e
    by true p true q h = let is : m - n ≡ e = cc in record { low = omega (arith, leb-true n m p, is); high = omega (arith, leb-true (m - n) most q, is) }
    by true p false q h = cc
    by false p t q h = cc

pub exponent-here : (m n most : ℕ) → n + most ≡ m → exponent_of m n most ≡ None → ⊥
unfolding exponent_of
exponent-here m n most e h = let yes : exponent_of m n most ≡ Some (m - n) = unfold exponent_of in rw (le-leb n m (omega arith), le-leb (m - n) most (omega arith)) refl in none-some (m - n) (sym h ∙ yes)

-- the number of an exponent
abbrev pub at : (ℕ → ℚ) → Option ℕ → ℚ
at f (Some e) = f e
at f None = 0ℚ

pub entry-at : (f : ℕ → ℚ) (most m n : ℕ) → entry f most m n ≡ at f (exponent_of m n most)
unfolding entry exponent_of when
entry-at f most m n = by (leb n m && leb (m - n) most)
  where
    by : (t : Bool) → when t (f (m - n)) ≡ at f (cond t (Some (m - n)) None)
    by true = refl
    by false = refl

-- what is named where the product of 2j + 1 and this number isn't obtained
abbrev pub named : (ℕ → ℚ) → ℕ → Option ℕ → Option ℕ
named f j (Some e) = unless_obtained e (obtained_product (whole (2 * j + 1)) (f e))
named f j None = None

pub place-at : (f : ℕ → ℚ) (most i j k : ℕ) → place_refusal f most i j k ≡ named f j (exponent_of (k + 1) (i + j) most)
unfolding place_refusal exponent_of where_so
place-at f most i j k = by (leb (i + j) (k + 1) && leb e most)
  where
    e : ℕ
    e = k + 1 - (i + j)

    by : (t : Bool) → where_so t (unless_obtained e (obtained_product (whole (2 * j + 1)) (f e))) ≡ named f j (cond t (Some e) None)
    by true = refl
    by false = refl

-- where there is no exponent, nothing is put
pub none_b : (f : ℕ → ℚ) (most i j k : ℕ) (t : Entries) → exponent_of (k + 1) (i + j) most ≡ None → t ≡ with_b t i j k (entry_b f most i j k)
unfolding entry_b
none_b f most i j k t h = with_b-zero t i j k _ (is_zero-of _ (ap (λ x. whole (2 * j + 1) *ℚ x) (entry-at f most (k + 1) (i + j) ∙ ap (at f) h) ∙ *ℚ-0ℚ _))

pub none_c : (f : ℕ → ℚ) (most i j k : ℕ) (t : Entries) → exponent_of (j + k + 2) i most ≡ None → t ≡ with_c t i j k (entry_c f most i j k)
unfolding entry_c
none_c f most i j k t h = with_c-zero t i j k _ (is_zero-of _ (entry-at f most (j + k + 2) i ∙ ap (at f) h))

-- ---- places in order

-- the place i, j, k, as in a dictionary; no index is above 71
abbrev pub place : ℕ → ℕ → ℕ → ℕ
place i j k = 5184 * i + 72 * j + k

-- the list has the values of g at the places below p, and nothing from there on
abbrev pub Fills : ℕ → (ℕ → ℕ → ℕ → ℚ) → ℕ → List Entry → Type 0
Fills dim g p es = (i j k : ℕ) → i < dim → j < dim → k < dim → value_at es i j k ≡ when (ltb (place i j k) p) (g i j k)

-- the entries of C stand where j is at most k
abbrev pub ordered : (ℕ → ℕ → ℕ → ℚ) → ℕ → ℕ → ℕ → ℚ
ordered g i j k = when (leb j k) (g i j k)

other : (dim i j k a b c : ℕ) → dim ≤ 72 → j < dim → k < dim → b < dim → c < dim → (eqb a i && eqb b j && eqb c k) ≡ false → ltb (place a b c) (place i j k) ≡ ltb (place a b c) (place i j k + 1)
other dim i j k a b c d q r q' r' h = grind (arith, nat_tests)

module _ (dim : ℕ) (g : ℕ → ℕ → ℕ → ℚ) (es : List Entry) (most : dim ≤ 72) where
  fills_zero : (i j k : ℕ) → i < dim → j < dim → k < dim → Fills dim g (place i j k) es → value_at es i j k ≡ 0ℚ
  fills_zero i j k p q r fills = fills i j k p q r ∙ when_false (ltb (place i j k) (place i j k)) (g i j k) (ltb-self (place i j k))

  fills_next : (i j k : ℕ) → i < dim → j < dim → k < dim → is_taken es i j k ≡ false → Fills dim g (place i j k) es → Fills dim g (place i j k + 1) (put_list (record { i = i; j = j; k = k; v = g i j k }) es)
  unfolding same_place
  fills_next i j k p q r free fills = λ a b c p' q' r'. put_at es x a b c free (fills_zero i j k p q r fills) ∙ by a b c p' q' r' (same_place a b c x) refl
    where
      x : Entry
      x = record { i = i; j = j; k = k; v = g i j k }

      by : (a b c : ℕ) → a < dim → b < dim → c < dim → (s : Bool) → same_place a b c x ≡ s → cond s (g i j k) (value_at es a b c) ≡ when (ltb (place a b c) (place i j k + 1)) (g a b c)
      by a b c p' q' r' false e = fills a b c p' q' r' ∙ ap (λ t. when t (g a b c)) (other dim i j k a b c most q r q' r' e)
      by a b c p' q' r' true e =
          let parts = same_parts a b c x e in
          sym (ap₂ (λ m n. g m n c) parts.0 parts.1 ∙ ap (g i j) parts.2) ∙ sym (when_true _ (g a b c) (grind (arith, nat_tests, parts.0, parts.1, parts.2)))

-- ---- the walk

-- B and C are filled below the place p, nothing else is changed, and no step before p is refused.
pub record Walks (f : ℕ → ℚ) (most p : ℕ) (t₀ t : Entries) : Type 0 where
  pub b : Fills t₀.dim (entry_b f most) p t.b
  pub c' : Fills t₀.dim (ordered (entry_c f most)) p t.c
  pub others : t ≡ record t₀ { b = t.b; c = t.c }
  pub fine : (i j k : ℕ) → i < t₀.dim → j < t₀.dim → k < t₀.dim → place i j k < p → place_refusal f most i j k ≡ None

module _ (f : ℕ → ℚ) (most : ℕ) (t₀ : Entries) where
  pub same_dim : (p : ℕ) (t : Entries) → Walks f most p t₀ t → t.dim ≡ t₀.dim
  same_dim p t w = ap (λ (u : Entries). u.dim) w.others

  pub walk_starts : t₀.b ≡ [] → t₀.c ≡ [] → Walks f most 0 t₀ t₀
  unfolding value_at
  walk_starts b c = record {
    b = λ i j k p q r. ap (λ es. value_at es i j k) b ∙ sym (when_false (ltb (place i j k) 0) _ (grind (arith, nat_tests)));
    c' = λ i j k p q r. ap (λ es. value_at es i j k) c ∙ sym (when_false (ltb (place i j k) 0) _ (grind (arith, nat_tests)));
    others = refl;
    fine = λ i j k p q r h. absurd (omega arith);
  }

  -- to a place before which there is no other place
  walk_jumps : (p p' : ℕ) (t : Entries) → ((i j k : ℕ) → i < t₀.dim → j < t₀.dim → k < t₀.dim → ltb (place i j k) p ≡ ltb (place i j k) p') → Walks f most p t₀ t → Walks f most p' t₀ t
  walk_jumps p p' t same w = record {
    b = λ i j k x y z. w.b i j k x y z ∙ ap (λ s. when s (entry_b f most i j k)) (same i j k x y z);
    c' = λ i j k x y z. w.c' i j k x y z ∙ ap (λ s. when s (ordered (entry_c f most) i j k)) (same i j k x y z);
    others = w.others;
    fine = λ i j k x y z h. w.fine i j k x y z (ltb-true (place i j k) p (same i j k x y z ∙ lt-ltb (place i j k) p' h));
  }

  module _ (t : Entries) (small : t₀.dim ≤ 72) where
    pub walks_row : (i j k : ℕ) → j < t₀.dim → k ≡ t₀.dim → Walks f most (place i j k) t₀ t → Walks f most (place i (j + 1) 0) t₀ t
    walks_row i j k q e = walk_jumps (place i j k) (place i (j + 1) 0) t (λ a b c x y z. grind (arith, nat_tests))

    pub walks_plane : (i j : ℕ) → j ≡ t₀.dim → Walks f most (place i j 0) t₀ t → Walks f most (place (i + 1) 0 0) t₀ t
    walks_plane i j e = walk_jumps (place i j 0) (place (i + 1) 0 0) t (λ a b c x y z. grind (arith, nat_tests))

  module _ (i j k : ℕ) (t : Entries) (sound : AreEntries t) (w : Walks f most (place i j k) t₀ t) (x : i < t₀.dim) (y : j < t₀.dim) (z : k < t₀.dim) where
    dim : t.dim ≡ t₀.dim
    dim = same_dim (place i j k) t w

    pub free_b : is_taken t.b i j k ≡ false
    free_b = free_from_zero _ t.dim t.b i j k sound.b.stored (fills_zero t₀.dim _ t.b (omega (arith, dim, sound.most)) i j k x y z w.b)

    pub free_c : is_taken t.c i j k ≡ false
    free_c = free_from_zero _ t.dim t.c i j k sound.c.stored (fills_zero t₀.dim _ t.c (omega (arith, dim, sound.most)) i j k x y z w.c')

    pub place_here : most ≤ 72 → Fits t₀.shape f most → IsPlace f most t i j k
    place_here h fits = record {
      first = omega (arith, dim);
      second = omega (arith, dim);
      third = omega (arith, dim);
      dim = sound.most;
      most' = h;
      fits = subst (λ s. Fits s f most) (sym (ap (λ (u : Entries). u.shape) w.others)) fits;
    }

    -- past a place
    pub walks_on : (t' t″ : Entries) → t' ≡ with_b t i j k (entry_b f most i j k) → t″ ≡ cond (leb j k) (with_c t' i j k (entry_c f most i j k)) t' → place_refusal f most i j k ≡ None → Walks f most (place i j (k + 1)) t₀ t″
    unfolding when
    walks_on t' t″ e e' none =
        subst (λ p. Walks f most p t₀ t″) (omega arith) (subst (Walks f most (place i j k + 1) t₀) (sym is) (record {
          b = fills_next t₀.dim _ t.b small i j k x y z free_b w.b;
          c' = fills_next t₀.dim _ t.c small i j k x y z free_c w.c';
          others = ap (λ (u : Entries). record u { b = bs; c = cs }) w.others;
          fine = λ a b c p q r h. before a b c p q r h (cases_lt (place a b c) (place i j k));
        }))
      where
        small : t₀.dim ≤ 72
        small = omega (arith, dim, sound.most)

        bs : List Entry
        bs = put_list (record { i = i; j = j; k = k; v = entry_b f most i j k }) t.b

        cs : List Entry
        cs = put_list (record { i = i; j = j; k = k; v = ordered (entry_c f most) i j k }) t.c

        c_is : (u : Entries) → u.c ≡ t.c → cond (leb j k) (with_c u i j k (entry_c f most i j k)) u ≡ record u { c = cs }
        c_is u same = by (leb j k) refl
          where
            by : (s : Bool) → leb j k ≡ s → cond s (with_c u i j k (entry_c f most i j k)) u ≡ record u { c = put_list (record { i = i; j = j; k = k; v = when s (entry_c f most i j k) }) t.c }
            by true h = c-is u i j k _ (leb-true j k h) ∙ ap (λ es. record u { c = put_list (record { i = i; j = j; k = k; v = entry_c f most i j k }) es }) same
            by false h = sym (rw is_zero-0ℚ (ap (λ es. record u { c = es }) (sym same)))

        b_is : t' ≡ record t { b = bs }
        b_is = e ∙ b-is t i j k (entry_b f most i j k)

        is : t″ ≡ record t { b = bs; c = cs }
        is = e' ∙ c_is t' (ap (λ (u : Entries). u.c) b_is) ∙ ap (λ (u : Entries). record u { c = cs }) b_is

        before : (a b c : ℕ) → a < t₀.dim → b < t₀.dim → c < t₀.dim → place a b c < place i j k + 1 → (place a b c < place i j k) ⊎ (place i j k ≤ place a b c) → place_refusal f most a b c ≡ None
        before a b c p q r h (inl l) = w.fine a b c p q r l
        before a b c p q r h (inr l) = ap₂ (λ m n. place_refusal f most m n c) (omega (arith, small)) (omega (arith, small)) ∙ ap (place_refusal f most i j) (omega (arith, small)) ∙ none

-- the place after the put of B
pub still_place : (f : ℕ → ℚ) (most i j k : ℕ) (t t' : Entries) → t' ≡ with_b t i j k (entry_b f most i j k) → IsPlace f most t i j k → IsPlace f most t' i j k
still_place f most i j k t t' e at = subst (λ u. IsPlace f most u i j k) (sym (e ∙ b-is t i j k (entry_b f most i j k))) (record { first = at.first; second = at.second; third = at.third; dim = at.dim; most' = at.most'; fits = at.fits })

-- ---- what is named

module _ (f : ℕ → ℚ) (most p : ℕ) (t₀ t : Entries) (w : Walks f most p t₀ t) where
  walk_none : (i : ℕ) → i < t₀.dim → ((j k : ℕ) → j < t₀.dim → k < t₀.dim → place i j k < p) → plane_refusal f t₀.dim most i ≡ None
  walk_none i x h = first_none (row_refusal f t₀.dim most i) 0 t₀.dim (λ j l y. first_none (place_refusal f most i j) 0 t₀.dim (λ k m z. w.fine i j k x (omega arith) (omega arith) (h j k (omega arith) (omega arith))))

  pub told_none : t₀.dim ≤ 72 → p ≡ place t₀.dim 0 0 → entry_refusal f t₀.dim most ≡ None
  told_none small e = first_none (plane_refusal f t₀.dim most) 0 t₀.dim (λ i l x. walk_none i (omega arith) (λ j k y z. omega arith))

  pub told_at : t₀.dim ≤ 72 → (i j k : ℕ) → i < t₀.dim → j < t₀.dim → k < t₀.dim → p ≡ place i j k → (err : CurveErr) → Tells (Err err) (place_refusal f most i j k) → Tells (Err err) (entry_refusal f t₀.dim most)
  unfolding Tells Names
  told_at small i j k x y z e NoMemory h = tt
  told_at small i j k x y z e (Over n) h =
      first_is (plane_refusal f t₀.dim most) 0 t₀.dim i n (omega arith) (omega arith) (λ a l m. walk_none a (omega arith) (λ b c q r. omega arith))
      (first_is (row_refusal f t₀.dim most i) 0 t₀.dim j n (omega arith) (omega arith)
      (λ b l m. first_none (place_refusal f most i b) 0 t₀.dim (λ c u v. w.fine i b c x (omega arith) (omega arith) (omega arith)))
      (first_is (place_refusal f most i j) 0 t₀.dim k n (omega arith) (omega arith) (λ c l m. w.fine i j c x y (omega arith) (omega arith)) h))

pub walked : (f : ℕ → ℚ) (most : ℕ) (t₀ t : Entries) → t₀.dim ≤ 72 → Walks f most (place t₀.dim 0 0) t₀ t → IsFilled f most t₀ t
unfolding looked_up entry_c
walked f most t₀ t small w = record {
  b = λ i j k p q r. w.b i j k p q r ∙ when_true _ _ (grind (arith, nat_tests));
  c' = λ i j k p q r.
      w.c' i (min j k) (max j k) p (omega arith) (omega arith)
      ∙ when_true _ _ (grind (arith, nat_tests))
      ∙ when_true _ _ (le-leb (min j k) (max j k) (omega arith))
      ∙ ap (λ n. entry f most (n + 2) i) (omega arith);
  others = w.others;
}
