-- Rows by the first index: the row i holds the entries at i.
use Rattle.std.proofs.Common.{◌≡◌, ℕ, ◌<◌, Bool, true, false, eqb, List, [], ◌∷◌, length, get_or, replicate, refl, sym, ap, ap₂, subst, ◌∙◌, arith, Result, length-set, set}
use Rattle.std.specs.declared.alloc.AllocError.{AllocError}
use Rattle.std.proofs.lemmas.Bool.Decides.{nat_tests}
use Rattle.std.proofs.lemmas.List.{set-get_or}
use Rattle.airy_math.specs.Rational.{ℚ}
use Rattle.airy_math.specs.RationalLaws.{0ℚ}
use Rattle.sparse_tensor.specs.Entries.{Entry, same_place, value_at, is_taken, place_before, with_entry}
use Rattle.sparse_tensor.specs.Rows.{Places, PutsIn, pair_before, same_pair, pair_value, has_pair, with_pair, pair_entries, joined, pairs_of}
use Rattle.sparse_tensor.proofs.ItemLemmas.{picked-all}
use Rattle.sparse_tensor.proofs.JoinLemmas.{fold-joined, put-joined, joined-empty, puts-whole}
use Rattle.airy_math.proofs.KeyLemmas.{eqb-self}

-- the entry of an item of the row n
abbrev pair_entry : ℕ → (ℕ × ℕ × ℚ) → Entry
pair_entry n e = record { i = n; j = e.0; k = e.1; v = e.2 }

rows-apart : (i n : ℕ) → (n ≡ i → ⊥) → eqb i n ≡ false
rows-apart i n h = grind (arith, nat_tests)

lower-before : (x y : Entry) → y.i < x.i → place_before x y ≡ false
unfolding place_before
lower-before x y h = grind (arith, nat_tests)

higher-before : (x y : Entry) → x.i < y.i → place_before x y ≡ true
unfolding place_before
higher-before x y h = grind (arith, nat_tests)

before-in_row : (i j k : ℕ) (v : ℚ) (e : ℕ × ℕ × ℚ) → place_before (record { i = i; j = j; k = k; v = v }) (pair_entry i e) ≡ pair_before j k e
unfolding place_before pair_before
before-in_row i j k v e = grind (arith, nat_tests)

module _ (i : ℕ) (rows : List (List (ℕ × ℕ × ℚ))) (d : List (ℕ × ℕ × ℚ)) (l : i < length rows) where
  pub pairs-value : (j k : ℕ) → value_at (joined pair_entries 0 rows) i j k ≡ pair_value (get_or rows i d) j k
  unfolding value_at pair_value same_place same_pair pair_entries
  pairs-value j k =
      fold-joined pair_entry i rows d l (same_place i j k) (λ e rest. e.v) 0ℚ (same_pair j k)
      (λ n a apart. rw (rows-apart i n apart) refl) (λ a. rw (eqb-self i) refl)

  pub pairs-taken : (j k : ℕ) → is_taken (joined pair_entries 0 rows) i j k ≡ has_pair (get_or rows i d) j k
  unfolding is_taken has_pair same_place same_pair pair_entries
  pairs-taken j k =
      fold-joined pair_entry i rows d l (same_place i j k) (λ e rest. true) false (same_pair j k)
      (λ n a apart. rw (rows-apart i n apart) refl) (λ a. rw (eqb-self i) refl)

  pub pairs-row : pairs_of i (joined pair_entries 0 rows) ≡ get_or rows i d
  unfolding pairs_of pair_entries
  pairs-row =
      fold-joined pair_entry i rows d l (λ e. eqb i e.i) (λ e rest. (e.j, e.k, e.v) ∷ rest) [] (λ e. true)
      (λ n a apart. rows-apart i n apart) (λ a. eqb-self i)
      ∙ picked-all (get_or rows i d)

  pairs-put : (j k : ℕ) (v : ℚ) → with_entry (record { i = i; j = j; k = k; v = v }) (joined pair_entries 0 rows) ≡ joined pair_entries 0 (set rows i (with_pair j k v (get_or rows i d)))
  unfolding with_entry with_pair pair_entries
  pairs-put j k v =
      put-joined pair_entry i rows d l (place_before (record { i = i; j = j; k = k; v = v })) (pair_before j k) (j, k, v)
      (λ n a less. lower-before (record { i = i; j = j; k = k; v = v }) (pair_entry n a) less)
      (λ n a more. higher-before (record { i = i; j = j; k = k; v = v }) (pair_entry n a) more)
      (λ a. before-in_row i j k v a)

  -- the rows after a put in that row
  pub pairs-puts : (j k : ℕ) (v : ℚ) (p : Places) (o : Result Bool AllocError) (new : List (ℕ × ℕ × ℚ)) → d ≡ get_or rows i d → record { dim = length rows; entries = joined pair_entries 0 rows } ≡ p → PutsIn o (has_pair d j k) d (with_pair j k v d) new → PutsIn o (is_taken p.entries i j k) p (record p { entries = with_entry (record { i = i; j = j; k = k; v = v }) p.entries }) (record { dim = length (set rows i new); entries = joined pair_entries 0 (set rows i new) })
  pairs-puts j k v p o new e is h =
      let whole : List (ℕ × ℕ × ℚ) → Places = λ w. record { dim = length (set rows i w); entries = joined pair_entries 0 (set rows i w) } in
      subst (λ (q : Places). PutsIn o (is_taken q.entries i j k) q (record q { entries = with_entry (record { i = i; j = j; k = k; v = v }) q.entries }) (whole new)) is
      (puts-whole whole o (has_pair d j k) _ d (with_pair j k v d) new _ _ (pairs-taken j k ∙ ap (λ w. has_pair w j k) (sym e))
      (ap whole e ∙ ap (λ (w : List (List (ℕ × ℕ × ℚ))). record { dim = length w; entries = joined pair_entries 0 w }) (set-get_or rows i d))
      (ap (λ w. whole (with_pair j k v w)) e ∙ ap₂ (λ (n : ℕ) (w : List Entry). record { dim = n; entries = w }) (length-set rows i _) (sym (pairs-put j k v))) h)

pub pairs-empty : (n : ℕ) → joined pair_entries 0 (replicate n []) ≡ []
unfolding pair_entries
pairs-empty n = joined-empty pair_entries [] (λ q. refl) 0 n
