-- The document of a plan's table is read as its kind, its bound and its values.
use Rattle.std.proofs.Common.{◌≡◌, ℕ, suc, ◌^◌, ◌<◌, ◌≤◌, ◌&&◌, Bool, true, false, List, [], ◌∷◌, length, get_or, Some, None, refl, sym, ap, ◌∙◌, arith, IsUtf8, nat_lt, nat_le, le-ltb, leb-true, eq-eqb}
use Rattle.airy_json.proofs.Common.{ℚ, IsInRange, Key, Tensors, planned, IsPlanned, key_at, BelowDimLaw, Wk, Bgw, Wp, looked_up, Planning, tensors_of, keys_of, limit, limit_of, Within, SameLimitsLaw, indices_data, cell_data, cells_data, document_data, document_text, Kind, named, text, kind_tensors, making_over, AreOfKind, IsPlanOf, count, whole, form_of, is_whole, are_indices, cell_value, first_bad, with_value, cell_values, Gives, cells_answer, plan_answer, made_answer, bound_answer, form_answer, data_answer, json_of, answer_of, is_utf8-from_IsUtf8, and_parts, read, euler, IsSortedFrom, PassesBound, limit-bound, three, whole_at, array_at, string_at, form_with, are_indices_at, is_cell_of, kind_answer}
use Rattle.airy_math.specs.Ranks.{ListsPlanned}
use Rattle.tensor_text.proofs.BackValues.{value_back}
use Rattle.airy_json.specs.Written.{ReadsBack}
use Rattle.airy_json.proofs.ReadLaw.{AreWords, IsWordKey, read-document}

-- ---- a key's numbers are words

words-from : (k dim : ℕ) (is : List ℕ) → dim ≤ 72 → IsSortedFrom k dim is → AreWords is
unfolding IsSortedFrom
words-from k dim [] most h = tt
words-from k dim (i ∷ is) most h = let below = h.1 in (omega arith, words-from i dim is most h.2)

word-key : (T : Tensors) (X : ℕ) (key : Key) → T.dim ≤ 72 → X ≤ 24 → IsPlanned T X key → IsWordKey key
unfolding euler
word-key T X key most bound p = record {
  genus = let e = p.within in omega arith;
  indices = words-from 0 T.dim key.idx most p.sorted;
}

-- ---- the cells of the keys

same_number : (n : ℕ) → is_whole n (Some n) ≡ true
unfolding is_whole
same_number n = eq-eqb n n refl

same_indices : (is : List ℕ) → are_indices is (indices_data is) ≡ true
unfolding are_indices indices_data whole
same_indices [] = refl
same_indices (i ∷ is) = rw (same_number i, same_indices is) refl

cell-back : (key : Key) (v : ℚ) → IsInRange v → cell_value key (cell_data key v) ≡ Some v
unfolding cell_data cell_value is_cell_of three count whole_at array_at string_at whole are_indices_at
cell-back key v r = rw (same_number key.g, same_indices key.idx) (value_back v r)

-- both lists are of one length, and the values in range
abbrev pub AreValues : List Key → List ℚ → Type 0
AreValues keys vs = (length keys ≡ length vs) × ((r : ℕ) (v : ℚ) → r < length vs → IsInRange (get_or vs r v))

cells-back : (keys : List Key) (vs : List ℚ) → AreValues keys vs → (first_bad keys (cells_data keys vs) ≡ None) × (cell_values keys (cells_data keys vs) ≡ vs)
unfolding cells_data first_bad cell_values with_value
cells-back [] [] h = (refl, refl)
cells-back [] (v ∷ vs) h = absurd (omega (arith, h.0))
cells-back (key ∷ keys) [] h = absurd (omega (arith, h.0))
cells-back (key ∷ keys) (v ∷ vs) h =
    let here = cell-back key v (h.1 0 v (omega arith)) in
    let long : length keys ≡ length vs = omega (arith, h.0) in
    let rest = cells-back keys vs (long, λ r w l. h.1 (suc r) w (omega arith)) in
    (rw (here, rest.0) refl, rw (here, rest.1) refl)

-- ---- the plan of the kind

same-keys : BelowDimLaw → (kind : Kind) (p : Planning) → IsPlanOf kind p.bound p → planned (kind_tensors kind p.bound) p.bound ≡ keys_of p
unfolding keys_of tensors_of AreOfKind kind_tensors
same-keys law (named Wk) p h = sym ((law (looked_up p.tensors) (kind_tensors (named Wk) p.bound) h.tensors_are.entries).plan p.bound)
same-keys law (named Bgw) p h = sym ((law (looked_up p.tensors) (kind_tensors (named Bgw) p.bound) h.tensors_are.entries).plan p.bound)
same-keys law (named Wp) p h = sym ((law (looked_up p.tensors) (kind_tensors (named Wp) p.bound) h.tensors_are.entries).plan p.bound)
same-keys law (text t) p h = ap (λ u. planned (looked_up u) p.bound) (sym h.tensors_are)

same-limits : SameLimitsLaw → (kind : Kind) (p : Planning) → IsPlanOf kind p.bound p → limit (kind_tensors kind p.bound) p.bound ≡ limit_of p
unfolding limit_of tensors_of AreOfKind kind_tensors
same-limits law (named Wk) p h = sym (law (looked_up p.tensors) (kind_tensors (named Wk) p.bound) h.tensors_are.entries p.bound)
same-limits law (named Bgw) p h = sym (law (looked_up p.tensors) (kind_tensors (named Bgw) p.bound) h.tensors_are.entries p.bound)
same-limits law (named Wp) p h = sym (law (looked_up p.tensors) (kind_tensors (named Wp) p.bound) h.tensors_are.entries p.bound)
same-limits law (text t) p h = ap (λ u. limit (looked_up u) p.bound) (sym h.tensors_are)

-- ---- the answer

form-back : (s : List ℕ) (X : ℕ) (keys : List Key) (vs : List ℚ) → form_of (document_data s X keys vs) ≡ Some (record { bound = X; cells = cells_data keys vs; kind = s })
unfolding document_data form_of form_with three count whole_at array_at string_at whole
form-back s X keys vs = refl

plan-back : (kind : Kind) (X : ℕ) (keys : List Key) (vs : List ℚ) → planned (kind_tensors kind X) X ≡ keys → AreValues keys vs
    → plan_answer kind X (cells_data keys vs) Within ≡ Gives kind X vs
unfolding plan_answer cells_answer
plan-back kind X keys vs same h = let b = cells-back keys vs h in rw (same, b.0, b.1) refl

bound-back : (kind : Kind) (X : ℕ) (keys : List Key) (vs : List ℚ) → (nat_le 1 X && nat_le X 24) ≡ true → making_over kind X ≡ None → limit (kind_tensors kind X) X ≡ Within
    → planned (kind_tensors kind X) X ≡ keys → AreValues keys vs → bound_answer kind X (cells_data keys vs) ≡ Gives kind X vs
unfolding bound_answer made_answer
bound-back kind X keys vs bounded made within same h = rw (bounded, made, within) (plan-back kind X keys vs same h)

-- a plan within its limits has a bound from 1 to 24
bounded : (p : Planning) → limit_of p ≡ Within → (nat_le 1 p.bound && nat_le p.bound 24) ≡ true
bounded p within = by (nat_le 1 p.bound && nat_le p.bound 24) refl
  where
    by : (t : Bool) → (nat_le 1 p.bound && nat_le p.bound 24) ≡ t → t ≡ true
    by true e = refl
    by false e = let clash : PassesBound ≡ Within = sym (limit-bound p e) ∙ within in absurd (cc)

module _ (below : BelowDimLaw) (limits : SameLimitsLaw) (p : Planning) (listed : ListsPlanned (tensors_of p) p.bound) (within : limit_of p ≡ Within) (most : p.tensors.dim ≤ 72) where
  bound_most : p.bound ≤ 24
  bound_most = leb-true p.bound 24 (and_parts _ _ (bounded p within)).1

  word-keys : (r : ℕ) → r < length (keys_of p) → IsWordKey (key_at (keys_of p) r)
  unfolding keys_of tensors_of looked_up
  word-keys r h = word-key (tensors_of p) p.bound (key_at (keys_of p) r) most bound_most (listed.only r h)

  pub document-back : (s : List ℕ) (vs : List ℚ) (bytes : List ℕ) → AreValues (keys_of p) vs → bytes ≡ document_text s p.bound (keys_of p) vs → IsUtf8 bytes → ReadsBack s p vs bytes
  unfolding answer_of json_of data_answer form_answer kind_answer
  document-back s vs bytes values is utf8 short kind named_so plan made =
      let not_long : nat_lt 16777216 (length bytes) ≡ false = le-ltb 16777216 (length bytes) short in
      let word : p.bound < 2 ^ 64 = let b = bound_most in omega arith in
      let given : read bytes ≡ Some (document_data s p.bound (keys_of p) vs) = ap read is ∙ read-document s p.bound (keys_of p) vs word word-keys in
      rw (not_long, is_utf8-from_IsUtf8 bytes utf8, given, form-back s p.bound (keys_of p) vs, named_so)
      (bound-back kind p.bound (keys_of p) vs (bounded p within) made (same-limits limits kind p plan ∙ within) (same-keys below kind p plan) values)
