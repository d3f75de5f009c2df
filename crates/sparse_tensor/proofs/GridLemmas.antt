-- A grid of rows: the row of the number i dim + j holds the entries at i and j.
use Rattle.std.proofs.Common.{◌≡◌, ℕ, ◌+◌, ◌*◌, ◌/◌, ◌%◌, ◌<◌, ◌≤◌, Bool, true, false, ◌&&◌, ltb, eqb, List, [], ◌∷◌, length, get_or, replicate, ◌⊎◌, inl, inr, refl, sym, ap, ap₂, subst, ◌∙◌, arith, Result, set}
use Rattle.std.specs.declared.alloc.AllocError.{AllocError}
use Rattle.std.proofs.Math.Nat.{div-lt_iff_lt-mul, le-div_iff_mul-le, div-add-mod'}
use Rattle.std.proofs.lemmas.Bool.{cases_lt}
use Rattle.std.proofs.lemmas.Bool.Decides.{nat_tests}
use Rattle.std.proofs.lemmas.List.{set-get_or}
use Rattle.airy_math.specs.Rational.{ℚ}
use Rattle.airy_math.specs.RationalLaws.{0ℚ}
use Rattle.sparse_tensor.specs.Entries.{Entry, same_place, value_at, is_taken, value_of, is_given, place_before, with_entry, with_value}
use Rattle.sparse_tensor.specs.Rows.{Places, PutsIn, row_entries, joined, grid_row, row_of}
use Rattle.sparse_tensor.proofs.ItemLemmas.{picked-all}
use Rattle.sparse_tensor.proofs.JoinLemmas.{fold-joined, put-joined, joined-empty, puts-whole}

-- the entry of an item of the row n
abbrev grid_entry : ℕ → ℕ → (ℕ × ℚ) → Entry
grid_entry dim n e = record { i = n / dim; j = n % dim; k = e.0; v = e.1 }

-- the row of i and j, which is below dim and has the number m
pub record IsRow (dim i j m : ℕ) (rows : List (List (ℕ × ℚ))) : Type 0 where
  pub below : j < dim
  pub number : m ≡ i * dim + j
  pub within : m < length rows

row-numbered : (dim i j m : ℕ) → j < dim → m ≡ i * dim + j → (m / dim ≡ i) × (m % dim ≡ j)
row-numbered dim i j m l h =
    let whole = div-add-mod' m dim in
    let most : m / dim < i + 1 = (div-lt_iff_lt-mul {k = dim} {x = m} {y = i + 1} (omega arith)).1 (omega arith) in
    let least : i ≤ m / dim = (le-div_iff_mul-le {k = dim} {x = i} {y = m} (omega arith)).1 (omega arith) in
    let same : m / dim ≡ i = omega arith in
    let product : m / dim * dim ≡ i * dim = ap (λ n. n * dim) same in
    (same, omega arith)

rows-apart : (dim i j n : ℕ) → (n ≡ i * dim + j → ⊥) → (eqb i (n / dim) && eqb j (n % dim)) ≡ false
rows-apart dim i j n h = by (eqb i (n / dim) && eqb j (n % dim)) refl
  where
    by : (t : Bool) → (eqb i (n / dim) && eqb j (n % dim)) ≡ t → t ≡ false
    by true t =
        let whole = div-add-mod' n dim in
        let first : n / dim ≡ i = grind (arith, nat_tests) in
        let second : n % dim ≡ j = grind (arith, nat_tests) in
        let product : n / dim * dim ≡ i * dim = ap (λ q. q * dim) first in
        absurd (h (omega arith))
    by false t = refl

neither : (s t u : Bool) → (s && t) ≡ false → (s && t && u) ≡ false
neither true true u h = cc
neither true false u h = refl
neither false t u h = refl

-- a row stands before those with a greater number
rows-order : (dim n m : ℕ) → 0 < dim → n < m → (n / dim < m / dim) ⊎ ((n / dim ≡ m / dim) × (n % dim < m % dim))
rows-order dim n m some l =
    let whole_n = div-add-mod' n dim in
    let whole_m = div-add-mod' m dim in
    let least : n / dim ≤ m / dim = (le-div_iff_mul-le {k = dim} {x = n / dim} {y = m} some).1 (omega arith) in
    elim (cases_lt (n / dim) (m / dim)) [
      | inl a ↦ inl a
      | inr b ↦
          let same : n / dim ≡ m / dim = omega arith in
          let product : n / dim * dim ≡ m / dim * dim = ap (λ q. q * dim) same in
          inr (same, omega arith)
    ]

lower-before : (x y : Entry) → (y.i < x.i) ⊎ ((y.i ≡ x.i) × (y.j < x.j)) → place_before x y ≡ false
unfolding place_before
lower-before x y h = grind (arith, nat_tests)

higher-before : (x y : Entry) → (x.i < y.i) ⊎ ((x.i ≡ y.i) × (x.j < y.j)) → place_before x y ≡ true
unfolding place_before
higher-before x y h = grind (arith, nat_tests)

in_row : (i j a b : ℕ) → a ≡ i → b ≡ j → (eqb i a ≡ true) × (eqb j b ≡ true)
in_row i j a b e f = (grind (arith, nat_tests), grind (arith, nat_tests))

before-in_row : (x y : Entry) → x.i ≡ y.i → x.j ≡ y.j → place_before x y ≡ ltb x.k y.k
unfolding place_before
before-in_row x y e f = grind (arith, nat_tests)

module _ (dim i j m : ℕ) (rows : List (List (ℕ × ℚ))) (d : List (ℕ × ℚ)) (r : IsRow dim i j m rows) where
  numbered : (m / dim ≡ i) × (m % dim ≡ j)
  numbered = row-numbered dim i j m r.below r.number

  here : (eqb i (m / dim) ≡ true) × (eqb j (m % dim) ≡ true)
  here = in_row i j (m / dim) (m % dim) numbered.0 numbered.1

  others : (n : ℕ) → (n ≡ m → ⊥) → (eqb i (n / dim) && eqb j (n % dim)) ≡ false
  others n apart = rows-apart dim i j n (λ e. apart (e ∙ sym r.number))

  pub grid-value : (k : ℕ) → value_at (joined (grid_row dim) 0 rows) i j k ≡ value_of (get_or rows m d) k
  unfolding value_at value_of same_place grid_row row_entries
  grid-value k =
      fold-joined (grid_entry dim) m rows d r.within (same_place i j k) (λ e rest. e.v) 0ℚ (λ e. eqb k e.0)
      (λ n a apart. neither (eqb i (n / dim)) (eqb j (n % dim)) (eqb k a.0) (others n apart)) (λ a. rw (here.0, here.1) refl)

  pub grid-taken : (k : ℕ) → is_taken (joined (grid_row dim) 0 rows) i j k ≡ is_given (get_or rows m d) k
  unfolding is_taken is_given same_place grid_row row_entries
  grid-taken k =
      fold-joined (grid_entry dim) m rows d r.within (same_place i j k) (λ e rest. true) false (λ e. eqb k e.0)
      (λ n a apart. neither (eqb i (n / dim)) (eqb j (n % dim)) (eqb k a.0) (others n apart)) (λ a. rw (here.0, here.1) refl)

  pub grid-row : row_of i j (joined (grid_row dim) 0 rows) ≡ get_or rows m d
  unfolding row_of grid_row row_entries
  grid-row =
      fold-joined (grid_entry dim) m rows d r.within (λ e. eqb i e.i && eqb j e.j) (λ e rest. (e.k, e.v) ∷ rest) [] (λ e. true)
      (λ n a apart. others n apart) (λ a. rw (here.0, here.1) refl)
      ∙ picked-all (get_or rows m d)

  grid-put : (k : ℕ) (v : ℚ) → with_entry (record { i = i; j = j; k = k; v = v }) (joined (grid_row dim) 0 rows) ≡ joined (grid_row dim) 0 (set rows m (with_value k v (get_or rows m d)))
  unfolding with_entry with_value grid_row row_entries
  grid-put k v =
      ap₂ (λ a b. with_entry (record { i = a; j = b; k = k; v = v }) (joined (grid_row dim) 0 rows)) (sym numbered.0) (sym numbered.1)
      ∙ put-joined (grid_entry dim) m rows d r.within (place_before (grid_entry dim m (k, v))) (λ e. ltb k e.0) (k, v)
      (λ n a l. lower-before (grid_entry dim m (k, v)) (grid_entry dim n a) (rows-order dim n m (omega (arith, r.below)) l))
      (λ n a l. higher-before (grid_entry dim m (k, v)) (grid_entry dim n a) (rows-order dim m n (omega (arith, r.below)) l))
      (λ a. before-in_row (grid_entry dim m (k, v)) (grid_entry dim m a) refl refl)

  -- the grid after a put in that row
  pub grid-puts : (k : ℕ) (v : ℚ) (p : Places) (o : Result Bool AllocError) (new : List (ℕ × ℚ)) → d ≡ get_or rows m d → record { dim = dim; entries = joined (grid_row dim) 0 rows } ≡ p → PutsIn o (is_given d k) d (with_value k v d) new → PutsIn o (is_taken p.entries i j k) p (record p { entries = with_entry (record { i = i; j = j; k = k; v = v }) p.entries }) (record { dim = dim; entries = joined (grid_row dim) 0 (set rows m new) })
  grid-puts k v p o new e is h =
      let whole : List (ℕ × ℚ) → Places = λ w. record { dim = dim; entries = joined (grid_row dim) 0 (set rows m w) } in
      subst (λ (q : Places). PutsIn o (is_taken q.entries i j k) q (record q { entries = with_entry (record { i = i; j = j; k = k; v = v }) q.entries }) (whole new)) is
      (puts-whole whole o (is_given d k) _ d (with_value k v d) new _ _ (grid-taken k ∙ ap (λ w. is_given w k) (sym e))
      (ap whole e ∙ ap (λ (w : List (List (ℕ × ℚ))). record { dim = dim; entries = joined (grid_row dim) 0 w }) (set-get_or rows m d))
      (ap (λ w. whole (with_value k v w)) e ∙ ap (λ (w : List Entry). record { dim = dim; entries = w }) (sym (grid-put k v))) h)

pub grid-empty : (dim n : ℕ) → joined (grid_row dim) 0 (replicate n []) ≡ []
unfolding grid_row row_entries
grid-empty dim n = joined-empty (grid_row dim) [] (λ q. refl) 0 n
