-- The entries of full tensors, put place by place.
use Rattle.std.proofs.Common.{◌≡◌, ℕ, ◌+◌, ◌*◌, ◌/◌, ◌%◌, ◌<◌, ◌≤◌, ◌⊎◌, inl, inr, Bool, true, false, cond, eqb, ltb, leb, List, get_or, refl, sym, ap, ap₂, subst, ◌∙◌, arith, min, max}
use Rattle.std.proofs.lemmas.Bool.{cases_eq, cases_lt, lt-ltb}
use Rattle.std.proofs.lemmas.Bool.Decides.{nat_tests}
use Rattle.airy_math.specs.Rational.{ℚ}
use Rattle.airy_math.specs.RationalLaws.{0ℚ}
use Rattle.airy_math.specs.Sums.{when}
use Rattle.airy_math.specs.declared.Shape.TheVariants.{All}
use Rattle.airy_math.specs.Tensors.{Tensors, SameEntries, IsSymmetric, is_zero}
use Rattle.airy_math.proofs.PivotLemmas.{zero_number}
use Rattle.sparse_tensor.specs.Entries.{Entry, Entries, no_entries, looked_up, same_place, value_at, with_entry, value_of, with_value, is_given}
use Rattle.sparse_tensor.specs.Grades.{AreEntries, AreStored, keeps, keeps_a, keeps_b, keeps_c, keeps_d}
use Rattle.sparse_tensor.specs.Puts.{IsAllowed, putting_a, putting_b, putting_c, putting_d, with_a, with_b, with_c, with_d}
use Rattle.sparse_tensor.proofs.PutFacts.{allowed_a, allowed_b, allowed_c, allowed_d, ordered_ends, with_d-is}
use Rattle.sparse_tensor.proofs.EntryLemmas.{value_at-with_entry, value_of-with_value, free_from_zero, not_given_from_zero}
use Rattle.bulk_tensors.specs.Full.{Lists, entry, listed}
use Rattle.bulk_tensors.specs.Filled.{Filled, ordered, AreFilled}
use Rattle.airy_math.proofs.SumLemmas.{when_true, when_false}
use Rattle.airy_math.proofs.KeyLemmas.{ltb-self}

-- ---- one entry more in a list

-- the entries with a value that may be 0
abbrev pub stored : List Entry → ℕ → ℕ → ℕ → ℚ → List Entry
stored es i j k v = cond (is_zero v) es (with_entry (record { i = i; j = j; k = k; v = v }) es)

cond_at : {A : Type 0} (b : Bool) (x y : A) → b ≡ true → cond b x y ≡ x
cond_at true x y h = refl
cond_at false x y h = cc

cond_else : {A : Type 0} (b : Bool) (x y : A) → b ≡ false → cond b x y ≡ y
cond_else true x y h = cc
cond_else false x y h = refl

stored_here : (grade : ℕ → ℕ → ℕ → Bool) (dim : ℕ) (es : List Entry) (i j k : ℕ) (v : ℚ) → AreStored grade dim es → value_at es i j k ≡ 0ℚ → value_at (stored es i j k v) i j k ≡ v
stored_here grade dim es i j k v h zero = by (is_zero v) refl
  where
    x : Entry
    x = record { i = i; j = j; k = k; v = v }

    here : same_place i j k x ≡ true
    here = unfold same_place in grind (arith, nat_tests)

    by : (z : Bool) → is_zero v ≡ z → value_at (cond z es (with_entry x es)) i j k ≡ v
    by true e = zero ∙ sym (zero_number v e)
    by false e = value_at-with_entry x es i j k (free_from_zero grade dim es i j k h zero) ∙ cond_at (same_place i j k x) v (value_at es i j k) here

stored_else : (grade : ℕ → ℕ → ℕ → Bool) (dim : ℕ) (es : List Entry) (i j k : ℕ) (v : ℚ) (a b c : ℕ) → AreStored grade dim es → value_at es i j k ≡ 0ℚ → (a ≡ i → b ≡ j → c ≡ k → ⊥) → value_at (stored es i j k v) a b c ≡ value_at es a b c
stored_else grade dim es i j k v a b c h zero other = by (is_zero v)
  where
    x : Entry
    x = record { i = i; j = j; k = k; v = v }

    elsewhere : same_place a b c x ≡ false
    elsewhere = unfold same_place in grind (arith, nat_tests)

    by : (z : Bool) → value_at (cond z es (with_entry x es)) a b c ≡ value_at es a b c
    by true = refl
    by false = value_at-with_entry x es a b c (free_from_zero grade dim es i j k h zero) ∙ cond_else (same_place a b c x) v (value_at es a b c) elsewhere

-- ---- a place further

pub before_more : (n p : ℕ) → (n ≡ p → ⊥) → ltb n p ≡ ltb n (p + 1)
before_more n p h = grind (arith, nat_tests)

-- the next place holds 0
pub filled_zero : (dim i j k : ℕ) (F : ℕ → ℕ → ℕ → ℚ) (es : List Entry) → Filled dim (64 * i + 8 * j + k) F es → i < dim → j < dim → k < dim → value_at es i j k ≡ 0ℚ
unfolding Filled
filled_zero dim i j k F es h p q r = h i j k p q r ∙ when_false (ltb (64 * i + 8 * j + k) (64 * i + 8 * j + k)) (F i j k) (ltb-self (64 * i + 8 * j + k))

pub filled_next : (grade : ℕ → ℕ → ℕ → Bool) (dim n i j k : ℕ) (F : ℕ → ℕ → ℕ → ℚ) (es : List Entry) (v : ℚ) → AreStored grade n es → dim ≤ 8 → i < dim → j < dim → k < dim → v ≡ F i j k → Filled dim (64 * i + 8 * j + k) F es → Filled dim (64 * i + 8 * j + k + 1) F (stored es i j k v)
unfolding Filled
filled_next grade dim n i j k F es v sound most p q r e h = λ a b c s t u. by a b c s t u (cases_eq (64 * a + 8 * b + c) (64 * i + 8 * j + k))
  where
    zero : value_at es i j k ≡ 0ℚ
    zero = filled_zero dim i j k F es (unfold Filled in h) p q r

    by : (a b c : ℕ) → a < dim → b < dim → c < dim → (64 * a + 8 * b + c ≡ 64 * i + 8 * j + k) ⊎ (64 * a + 8 * b + c ≡ 64 * i + 8 * j + k → ⊥) → value_at (stored es i j k v) a b c ≡ when (ltb (64 * a + 8 * b + c) (64 * i + 8 * j + k + 1)) (F a b c)
    by a b c s t u (inl x) =
        let first : a ≡ i = omega arith in
        let second : b ≡ j = omega arith in
        let third : c ≡ k = omega arith in
        ap₂ (λ m n. value_at (stored es i j k v) m n c) first second
        ∙ ap (value_at (stored es i j k v) i j) third
        ∙ stored_here grade n es i j k v sound zero
        ∙ e
        ∙ sym (ap₂ (λ m n. F m n c) first second ∙ ap (F i j) third)
        ∙ sym (when_true (ltb (64 * a + 8 * b + c) (64 * i + 8 * j + k + 1)) (F a b c) (lt-ltb _ _ (omega arith)))
    by a b c s t u (inr x) =
        stored_else grade n es i j k v a b c sound zero (λ l m o. x (omega arith))
        ∙ h a b c s t u
        ∙ ap (λ w. when w (F a b c)) (before_more (64 * a + 8 * b + c) (64 * i + 8 * j + k) x)

-- a place at which F is 0, or that isn't one
pub filled_skip : (dim p : ℕ) (F : ℕ → ℕ → ℕ → ℚ) (es : List Entry) → ((i j k : ℕ) → i < dim → j < dim → k < dim → 64 * i + 8 * j + k ≡ p → F i j k ≡ 0ℚ) → Filled dim p F es → Filled dim (p + 1) F es
unfolding Filled
filled_skip dim p F es none h = λ a b c s t u. h a b c s t u ∙ by a b c s t u (cases_eq (64 * a + 8 * b + c) p)
  where
    nothing : (w : Bool) (x : ℚ) → x ≡ 0ℚ → when w x ≡ 0ℚ
    nothing true x e = unfold when in e
    nothing false x e = unfold when in refl

    by : (a b c : ℕ) → a < dim → b < dim → c < dim → (64 * a + 8 * b + c ≡ p) ⊎ (64 * a + 8 * b + c ≡ p → ⊥) → when (ltb (64 * a + 8 * b + c) p) (F a b c) ≡ when (ltb (64 * a + 8 * b + c) (p + 1)) (F a b c)
    by a b c s t u (inl x) = let zero = none a b c s t u x in nothing _ (F a b c) zero ∙ sym (nothing _ (F a b c) zero)
    by a b c s t u (inr x) = ap (λ w. when w (F a b c)) (before_more (64 * a + 8 * b + c) p x)

-- ---- one put

cond_under : {A B : Type 0} (f : A → B) (z : Bool) (x y : A) → cond z (f x) (f y) ≡ f (cond z x y)
cond_under f true x y = refl
cond_under f false x y = refl

b_only : (t : Entries) (i j k : ℕ) (v : ℚ) → with_b t i j k v ≡ record t { b = stored t.b i j k v }
unfolding with_b
b_only t i j k v = cond_under (λ (es : List Entry). record t { b = es }) (is_zero v) t.b (with_entry (record { i = i; j = j; k = k; v = v }) t.b)

a_only : (t : Entries) (i j k : ℕ) (v : ℚ) → j ≤ k → with_a t i j k v ≡ record t { a = stored t.a i j k v }
unfolding with_a
a_only t i j k v h =
    let e = ordered_ends j k h in
    rw (e.0, e.1) (cond_under (λ (es : List Entry). record t { a = es }) (is_zero v) t.a (with_entry (record { i = i; j = j; k = k; v = v }) t.a))

c_only : (t : Entries) (i j k : ℕ) (v : ℚ) → j ≤ k → with_c t i j k v ≡ record t { c = stored t.c i j k v }
unfolding with_c
c_only t i j k v h =
    let e = ordered_ends j k h in
    rw (e.0, e.1) (cond_under (λ (es : List Entry). record t { c = es }) (is_zero v) t.c (with_entry (record { i = i; j = j; k = k; v = v }) t.c))

in_order : (F : ℕ → ℕ → ℕ → ℚ) (i j k : ℕ) → j ≤ k → F i j k ≡ ordered F i j k
unfolding ordered
in_order F i j k h = sym (when_true (leb j k) (F i j k) (grind (arith, nat_tests)))

not_in_order : (F : ℕ → ℕ → ℕ → ℚ) (i j k : ℕ) → k < j → ordered F i j k ≡ 0ℚ
unfolding ordered
not_in_order F i j k h = when_false (leb j k) (F i j k) (grind (arith, nat_tests))

-- an index of the full tensors is one of those that are put
within : {a b c d : ℕ} (from : Lists) (t : Entries) (n : ℕ) → AreFilled a b c d from t → n < from.dim → n < t.dim
within from t n h p = subst (λ d. n < d) (sym h.dim) p

pub may_put_b : {a c d : ℕ} (from : Lists) (t : Entries) (i j k : ℕ) (v : ℚ) → AreEntries t → i < from.dim → j < from.dim → k < from.dim → AreFilled a (64 * i + 8 * j + k) c d from t → IsAllowed (putting_b t i j k v)
unfolding keeps_b keeps looked_up
may_put_b from t i j k v sound p q r h =
    allowed_b t i j k v sound (within from t i h p) (within from t j h q) (within from t k h r) (ap (λ s. keeps_b s i j k) h.shape) (filled_zero from.dim i j k (entry from.b) t.b h.of_b p q r)

pub filled_b : {a c d : ℕ} (from : Lists) (t : Entries) (i j k : ℕ) (v : ℚ) → AreEntries t → from.dim ≤ 8 → i < from.dim → j < from.dim → k < from.dim → v ≡ entry from.b i j k → AreFilled a (64 * i + 8 * j + k) c d from t → AreFilled a (64 * i + 8 * j + k + 1) c d from (with_b t i j k v)
filled_b from t i j k v sound most p q r e h =
    subst (AreFilled _ _ _ _ from) (sym (b_only t i j k v)) (record {
      dim = h.dim;
      shape = h.shape;
      letter = h.letter;
      of_a = h.of_a;
      of_b = filled_next (keeps_b t.shape) from.dim t.dim i j k (entry from.b) t.b v sound.b.stored most p q r e h.of_b;
      of_c = h.of_c;
      of_d = h.of_d;
    })

pub may_put_a : {b c d : ℕ} (from : Lists) (t : Entries) (i j k : ℕ) (v : ℚ) → AreEntries t → i < from.dim → j < from.dim → k < from.dim → j ≤ k → AreFilled (64 * i + 8 * j + k) b c d from t → IsAllowed (putting_a t i j k v)
unfolding keeps_a keeps looked_up
may_put_a from t i j k v sound p q r o h =
    let e = ordered_ends j k o in
    allowed_a t i j k v sound (within from t i h p) (within from t j h q) (within from t k h r) (ap (λ s. keeps_a s i j k) h.shape) (rw (e.0, e.1) (filled_zero from.dim i j k (ordered (entry from.a)) t.a h.of_a p q r))

pub filled_a : {b c d : ℕ} (from : Lists) (t : Entries) (i j k : ℕ) (v : ℚ) → AreEntries t → from.dim ≤ 8 → i < from.dim → j < from.dim → k < from.dim → j ≤ k → v ≡ entry from.a i j k → AreFilled (64 * i + 8 * j + k) b c d from t → AreFilled (64 * i + 8 * j + k + 1) b c d from (with_a t i j k v)
filled_a from t i j k v sound most p q r o e h =
    subst (AreFilled _ _ _ _ from) (sym (a_only t i j k v o)) (record {
      dim = h.dim;
      shape = h.shape;
      letter = h.letter;
      of_a = filled_next (keeps_a t.shape) from.dim t.dim i j k (ordered (entry from.a)) t.a v sound.a.stored most p q r (e ∙ in_order (entry from.a) i j k o) h.of_a;
      of_b = h.of_b;
      of_c = h.of_c;
      of_d = h.of_d;
    })

pub may_put_c : {a b d : ℕ} (from : Lists) (t : Entries) (i j k : ℕ) (v : ℚ) → AreEntries t → i < from.dim → j < from.dim → k < from.dim → j ≤ k → AreFilled a b (64 * i + 8 * j + k) d from t → IsAllowed (putting_c t i j k v)
unfolding keeps_c keeps looked_up
may_put_c from t i j k v sound p q r o h =
    let e = ordered_ends j k o in
    allowed_c t i j k v sound (within from t i h p) (within from t j h q) (within from t k h r) (ap (λ s. keeps_c s i j k) h.shape) (rw (e.0, e.1) (filled_zero from.dim i j k (ordered (entry from.c)) t.c h.of_c p q r))

pub filled_c : {a b d : ℕ} (from : Lists) (t : Entries) (i j k : ℕ) (v : ℚ) → AreEntries t → from.dim ≤ 8 → i < from.dim → j < from.dim → k < from.dim → j ≤ k → v ≡ entry from.c i j k → AreFilled a b (64 * i + 8 * j + k) d from t → AreFilled a b (64 * i + 8 * j + k + 1) d from (with_c t i j k v)
filled_c from t i j k v sound most p q r o e h =
    subst (AreFilled _ _ _ _ from) (sym (c_only t i j k v o)) (record {
      dim = h.dim;
      shape = h.shape;
      letter = h.letter;
      of_a = h.of_a;
      of_b = h.of_b;
      of_c = filled_next (keeps_c t.shape) from.dim t.dim i j k (ordered (entry from.c)) t.c v sound.c.stored most p q r (e ∙ in_order (entry from.c) i j k o) h.of_c;
      of_d = h.of_d;
    })

-- a place with the greater of the last two indices before the lesser has no entry of A and C
pub filled_past : (i j k b d : ℕ) (from : Lists) (t : Entries) → from.dim ≤ 8 → j < from.dim → k < from.dim → k < j → AreFilled (64 * i + 8 * j + k) b (64 * i + 8 * j + k) d from t → AreFilled (64 * i + 8 * j + k + 1) b (64 * i + 8 * j + k + 1) d from t
filled_past i j k b d from t most q r o h = record {
  dim = h.dim;
  shape = h.shape;
  letter = h.letter;
  of_a = filled_skip from.dim (64 * i + 8 * j + k) (ordered (entry from.a)) t.a (none (entry from.a)) h.of_a;
  of_b = h.of_b;
  of_c = filled_skip from.dim (64 * i + 8 * j + k) (ordered (entry from.c)) t.c (none (entry from.c)) h.of_c;
  of_d = h.of_d;
}
  where
    none : (F : ℕ → ℕ → ℕ → ℚ) (l m n : ℕ) → l < from.dim → m < from.dim → n < from.dim → 64 * l + 8 * m + n ≡ 64 * i + 8 * j + k → ordered F l m n ≡ 0ℚ
    none F l m n x y z e = not_in_order F l m n (omega arith)

-- a place with an index that isn't below dim
pub filled_outside : (p d : ℕ) (from : Lists) (t : Entries) → from.dim ≤ 8 → (p / 64 < from.dim → p / 8 % 8 < from.dim → p % 8 < from.dim → ⊥) → AreFilled p p p d from t → AreFilled (p + 1) (p + 1) (p + 1) d from t
filled_outside p d from t most none h = record {
  dim = h.dim;
  shape = h.shape;
  letter = h.letter;
  of_a = filled_skip from.dim p (ordered (entry from.a)) t.a (outside (ordered (entry from.a))) h.of_a;
  of_b = filled_skip from.dim p (entry from.b) t.b (outside (entry from.b)) h.of_b;
  of_c = filled_skip from.dim p (ordered (entry from.c)) t.c (outside (ordered (entry from.c))) h.of_c;
  of_d = h.of_d;
}
  where
    outside : (F : ℕ → ℕ → ℕ → ℚ) (i j k : ℕ) → i < from.dim → j < from.dim → k < from.dim → 64 * i + 8 * j + k ≡ p → F i j k ≡ 0ℚ
    outside F i j k x y z e = absurd (none (omega arith) (omega arith) (omega arith))

-- ---- D

d_zero : {a b c : ℕ} (i : ℕ) (from : Lists) (t : Entries) → i < from.dim → AreFilled a b c i from t → value_of t.d i ≡ 0ℚ
d_zero i from t p h = h.of_d i p ∙ when_false (ltb i i) (get_or from.d i 0ℚ) (ltb-self i)

pub may_put_d : {a b c : ℕ} (from : Lists) (t : Entries) (i : ℕ) (v : ℚ) → AreEntries t → i < from.dim → AreFilled a b c i from t → IsAllowed (putting_d t i v)
unfolding keeps_d keeps looked_up
may_put_d from t i v sound p h = allowed_d t i v sound (within from t i h p) (ap (λ s. keeps_d s i) h.shape) (d_zero i from t p h)

pub filled_d : {a b c : ℕ} (from : Lists) (t : Entries) (i : ℕ) (v : ℚ) → AreEntries t → i < from.dim → v ≡ get_or from.d i 0ℚ → AreFilled a b c i from t → AreFilled a b c (i + 1) from (with_d t i v)
filled_d from t i v sound p e h =
    subst (AreFilled _ _ _ _ from) (sym (with_d-is t i v)) (record {
      dim = h.dim;
      shape = h.shape;
      letter = h.letter;
      of_a = h.of_a;
      of_b = h.of_b;
      of_c = h.of_c;
      of_d = λ n q. by n q (cases_eq n i) (is_zero v) refl;
    })
  where
    free : is_given t.d i ≡ false
    free = not_given_from_zero (keeps_d t.shape) t.dim t.d i sound.d.stored (d_zero i from t p h)

    by : (n : ℕ) → n < from.dim → (n ≡ i) ⊎ (n ≡ i → ⊥) → (z : Bool) → is_zero v ≡ z → value_of (cond z t.d (with_value i v t.d)) n ≡ when (ltb n (i + 1)) (get_or from.d n 0ℚ)
    by n q (inl x) true w = ap (value_of t.d) x ∙ d_zero i from t p h ∙ sym (zero_number v w) ∙ e ∙ ap (λ m. get_or from.d m 0ℚ) (sym x) ∙ sym (when_true (ltb n (i + 1)) (get_or from.d n 0ℚ) (lt-ltb n (i + 1) (omega arith)))
    by n q (inl x) false w =
        value_of-with_value i v t.d n free
        ∙ cond_at (eqb n i) v (value_of t.d n) (grind (arith, nat_tests))
        ∙ e
        ∙ ap (λ m. get_or from.d m 0ℚ) (sym x)
        ∙ sym (when_true (ltb n (i + 1)) (get_or from.d n 0ℚ) (lt-ltb n (i + 1) (omega arith)))
    by n q (inr x) true w = h.of_d n q ∙ ap (λ w. when w (get_or from.d n 0ℚ)) (before_more n i x)
    by n q (inr x) false w =
        value_of-with_value i v t.d n free
        ∙ cond_else (eqb n i) v (value_of t.d n) (grind (arith, nat_tests))
        ∙ h.of_d n q
        ∙ ap (λ w. when w (get_or from.d n 0ℚ)) (before_more n i x)

-- ---- all places

pub filled_none : (from : Lists) (t : Entries) → t ≡ no_entries from.dim All false → AreFilled 0 0 0 0 from t
filled_none from t e = subst (AreFilled 0 0 0 0 from) (sym e) (unfold no_entries Filled value_at value_of in record {
  dim = refl;
  shape = refl;
  letter = refl;
  of_a = λ i j k p q r. none (64 * i + 8 * j + k) (ordered (entry from.a) i j k);
  of_b = λ i j k p q r. none (64 * i + 8 * j + k) (entry from.b i j k);
  of_c = λ i j k p q r. none (64 * i + 8 * j + k) (ordered (entry from.c) i j k);
  of_d = λ i p. none i (get_or from.d i 0ℚ);
})
  where
    none : (n : ℕ) (x : ℚ) → 0ℚ ≡ when (ltb n 0) x
    none n x = sym (when_false (ltb n 0) x (grind (arith, nat_tests)))

full_value : (dim : ℕ) (F : ℕ → ℕ → ℕ → ℚ) (es : List Entry) → dim ≤ 8 → Filled dim 512 F es → (i j k : ℕ) → i < dim → j < dim → k < dim → value_at es i j k ≡ F i j k
unfolding Filled
full_value dim F es most h i j k p q r = h i j k p q r ∙ when_true (ltb (64 * i + 8 * j + k) 512) (F i j k) (lt-ltb (64 * i + 8 * j + k) 512 (omega arith))

full_symmetric : (dim : ℕ) (F G : ℕ → ℕ → ℕ → ℚ) (es : List Entry) → dim ≤ 8 → Filled dim 512 (ordered F) es → ((i j k : ℕ) → i < dim → j < dim → k < dim → F i j k ≡ G i j k) → ((i j k : ℕ) → G i j k ≡ G i k j) → (i j k : ℕ) → i < dim → j < dim → k < dim → value_at es i (min j k) (max j k) ≡ G i j k
full_symmetric dim F G es most h same symmetric i j k p q r = by (cases_lt k j)
  where
    at : (m n : ℕ) → m < dim → n < dim → m ≤ n → value_at es i m n ≡ G i m n
    at m n x y o = full_value dim (ordered F) es most h i m n p x y ∙ sym (in_order F i m n o) ∙ same i m n p x y

    by : (k < j) ⊎ (j ≤ k) → value_at es i (min j k) (max j k) ≡ G i j k
    by (inr o) =
        let least : min j k ≡ j = omega arith in
        let most : max j k ≡ k = omega arith in
        ap₂ (value_at es i) least most ∙ at j k q r o
    by (inl o) =
        let least : min j k ≡ k = omega arith in
        let most : max j k ≡ j = omega arith in
        ap₂ (value_at es i) least most ∙ at k j r q (omega arith) ∙ symmetric i k j

pub filled_all : (from : Lists) (t : Entries) (T : Tensors) → from.dim ≤ 8 → AreFilled 512 512 512 from.dim from t → IsSymmetric T → SameEntries (listed from) T → SameEntries (looked_up t) T
unfolding looked_up listed
filled_all from t T most h symmetric same = record {
  dim = h.dim ∙ same.dim;
  shape = h.shape ∙ same.shape;
  A = λ i j k p q r. full_symmetric from.dim (entry from.a) T.A t.a most h.of_a same.A symmetric.A i j k (below i p) (below j q) (below k r);
  B = λ i j k p q r. full_value from.dim (entry from.b) t.b most h.of_b i j k (below i p) (below j q) (below k r) ∙ same.B i j k (below i p) (below j q) (below k r);
  C = λ i j k p q r. full_symmetric from.dim (entry from.c) T.C t.c most h.of_c same.C symmetric.C i j k (below i p) (below j q) (below k r);
  D = λ i p. h.of_d i (below i p) ∙ when_true (ltb i from.dim) (get_or from.d i 0ℚ) (lt-ltb i from.dim (below i p)) ∙ same.D i (below i p);
}
  where
    below : (n : ℕ) → n < t.dim → n < from.dim
    below n p = subst (λ d. n < d) h.dim p
