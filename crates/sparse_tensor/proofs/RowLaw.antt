-- The rows of the tensors are the stored rows.
use Rattle.std.proofs.Common.{◌≡◌, ℕ, zero, suc, ◌+◌, ◌<◌, ◌≤◌, inl, inr, Bool, true, false, ◌&&◌, not, cond, eqb, leb, List, [], ◌∷◌, ◌++◌, map, refl, sym, ap, ap₂, subst, ◌∙◌, arith, min, max}
use Rattle.std.proofs.lemmas.Bool.{cases_lt}
use Rattle.std.proofs.lemmas.Bool.Decides.{nat_tests}
use Rattle.airy_math.specs.Rational.{ℚ}
use Rattle.airy_math.specs.RationalLaws.{0ℚ}
use Rattle.airy_math.specs.Sums.{count_from, below, each, keep}
use Rattle.airy_math.specs.Tensors.{is_zero, row_b, row_c}
use Rattle.airy_math.proofs.SumLemmas.{Each, Each-count, Each-from_all, Each-weaken}
use Rattle.airy_math.proofs.EachLemmas.{each-cong, each-map, each-none, keep-append, keep-singles}
use Rattle.airy_math.proofs.SamePlanLaw.{each-cong_each}
use Rattle.sparse_tensor.specs.Items.{picked}
use Rattle.sparse_tensor.specs.Entries.{Entry, Entries, same_place, value_at, looked_up, place_before}
use Rattle.sparse_tensor.specs.Grades.{IsAscending, AreStored, AreOrdered, AreEntries, keeps_b, keeps_c}
use Rattle.sparse_tensor.specs.Rows.{row_of, pairs_of}
use Rattle.sparse_tensor.proofs.ItemLemmas.{fold-none, ascends-each}
use Rattle.sparse_tensor.proofs.SoundLaw.{is_zero-0ℚ, is_zero-some}

-- ---- lists of lists

keep-map : {A B : Type 0} (p : B → Bool) (f : A → B) (xs : List A) → keep p (map f xs) ≡ each xs (λ x. cond (p (f x)) (f x ∷ []) [])
keep-map p f xs = keep-singles p (map f xs) ∙ each-map (λ y. cond (p y) (y ∷ []) []) f xs

keep-each : {A B : Type 0} (p : B → Bool) (f : A → List B) (xs : List A) → keep p (each xs f) ≡ each xs (λ x. keep p (f x))
unfolding each
keep-each p f [] = unfold keep in refl
keep-each p f (x ∷ xs) = keep-append p (f x) (each xs f) ∙ ap (λ l. keep p (f x) ++ l) (keep-each p f xs)

-- one more in front of the first that isn't empty
each-insert : {B : Type 0} (f g : ℕ → List B) (x : B) (p n m : ℕ) → n ≤ p → p < n + m → ((a : ℕ) → (a ≡ p → ⊥) → f a ≡ g a) → f p ≡ x ∷ g p → ((a : ℕ) → a < p → g a ≡ []) → each (count_from n m) f ≡ x ∷ each (count_from n m) g
unfolding each count_from
each-insert f g x p n zero l r other here empty = absurd (omega arith)
each-insert f g x p n (suc m) l r other here empty = elim (cases_lt n p) [
  | inl a ↦
      ap₂ (λ u v. u ++ v) (other n (λ e. omega arith) ∙ empty n a) (each-insert f g x p (suc n) m (omega arith) (omega arith) other here empty)
      ∙ sym (ap (λ u. x ∷ (u ++ each (count_from (suc n) m) g)) (empty n a))
  | inr a ↦
      let same : p ≡ n = omega arith in
      ap₂ (λ u v. u ++ v) (subst (λ q. f q ≡ x ∷ g q) same here) (each-cong_each f g (count_from (suc n) m) (Each-count _ (suc n) m (λ b k l. other b (λ e. omega arith))))
]

-- ---- the order of places

-- R holds of each item and every later one
abbrev Later : {E : Type 0} → (E → E → Type 0) → List E → Type 0
Later R [] = Unit
Later R (e ∷ es) = Each (R e) es × Later R es

before-trans : (x y z : Entry) → place_before x y ≡ true → place_before y z ≡ true → place_before x z ≡ true
unfolding place_before
before-trans x y z p q = grind (arith, nat_tests)

later : (R : Entry → Entry → Type 0) (es : List Entry) → IsAscending es → ((x y : Entry) → place_before x y ≡ true → R x y) → Later R es
unfolding IsAscending
later R [] up h = tt
later R (e ∷ es) up h = (Each-weaken (λ y. place_before e y ≡ true) (R e) es (h e) (ascends-each place_before before-trans e es up), later R es up.1 h)

later_j : (i : ℕ) (x y : Entry) → place_before x y ≡ true → eqb i x.i ≡ true → eqb i y.i ≡ true → x.j ≤ y.j
unfolding place_before
later_j i x y b p q = grind (arith, nat_tests)

later_k : (i j : ℕ) (x y : Entry) → place_before x y ≡ true → (eqb i x.i && eqb j x.j) ≡ true → (eqb i y.i && eqb j y.j) ≡ true → x.k ≤ y.k
unfolding place_before
later_k i j x y b p q = grind (arith, nat_tests)

later_place : (i j k : ℕ) (x y : Entry) → place_before x y ≡ true → same_place i j k x ≡ true → same_place i j k y ≡ false
unfolding place_before same_place
later_place i j k x y b p = grind (arith, nat_tests)

-- ---- items by a key that does not fall

not_yet : (s t : Bool) (a m n : ℕ) → s ≡ true → (s ≡ true → t ≡ true → m ≤ n) → a < m → (t && eqb a n) ≡ false
not_yet s true a m n e h l = let k : m ≤ n = h e refl in grind (arith, nat_tests)
not_yet s false a m n e h l = refl

-- the picked items are those with the key 0, those with the key 1, and so on
by_key : {E F : Type 0} (p : E → Bool) (key : E → ℕ) (q : ℕ → E → Bool) (f : E → F) (n : ℕ) → ((a : ℕ) (e : E) → q a e ≡ (p e && eqb a (key e))) → (es : List E) → Each (λ e. key e < n) es → Later (λ x y. p x ≡ true → p y ≡ true → key x ≤ key y) es → picked p f es ≡ each (below n) (λ a. picked (q a) f es)
by_key p key q f n s [] l h = sym (each-none _ (below n) (Each-from_all _ (below n) (λ a. refl)))
by_key {F = F} p key q f n s (e ∷ es) l h = by (p e) refl (by_key p key q f n s es l.1 h.1)
  where
    others : (a : ℕ) (t : Bool) → q a e ≡ t → t ≡ false → picked (q a) f es ≡ picked (q a) f (e ∷ es)
    others a t o z = rw (o ∙ z) refl

    here : p e ≡ true → picked (q (key e)) f (e ∷ es) ≡ f e ∷ picked (q (key e)) f es
    here t = let o : q (key e) e ≡ true = s (key e) e ∙ rw t (grind (arith, nat_tests)) in rw o refl

    by : (t : Bool) → p e ≡ t → picked p f es ≡ each (below n) (λ a. picked (q a) f es) → cond t (f e ∷ picked p f es) (picked p f es) ≡ each (below n) (λ a. picked (q a) f (e ∷ es))
    by false t ih = ih ∙ each-cong _ _ (below n) (λ a. others a (p e && eqb a (key e)) (s a e) (rw t refl))
    by true t ih =
        let small : key e < n = l.0 in
        ap (λ r. f e ∷ r) ih
        ∙ sym (unfold below in each-insert (λ a. picked (q a) f (e ∷ es)) (λ a. picked (q a) f es) (f e) (key e) 0 n (omega arith) (omega arith)
        (λ a o. sym (others a (p e && eqb a (key e)) (s a e) (rw t (grind (arith, nat_tests)))))
        (here t)
        (λ a less. fold-none (q a) (λ y r. f y ∷ r) [] es (Each-weaken (λ y. p e ≡ true → p y ≡ true → key e ≤ key y) (λ y. q a y ≡ false) es (λ y k. s a y ∙ not_yet (p e) (p y) a (key e) (key y) t k less) h.0)))

-- ---- the entry at one place

at_place : (i j k : ℕ) (e : Entry) → same_place i j k e ≡ true → record { i = i; j = j; k = k; v = e.v } ≡ e
unfolding same_place
at_place i j k e h =
    let same_i : i ≡ e.i = grind (arith, nat_tests) in
    let same_j : j ≡ e.j = grind (arith, nat_tests) in
    let same_k : k ≡ e.k = grind (arith, nat_tests) in
    rw (same_i, same_j, same_k) refl

one_place : {F : Type 0} (f : Entry → F) (grade : ℕ → ℕ → ℕ → Bool) (dim i j k : ℕ) (es : List Entry) → AreStored grade dim es → Later (λ x y. same_place i j k x ≡ true → same_place i j k y ≡ false) es → picked (same_place i j k) f es ≡ cond (not (is_zero (value_at es i j k))) (f (record { i = i; j = j; k = k; v = value_at es i j k }) ∷ []) []
unfolding AreStored value_at
one_place f grade dim i j k [] stored h = rw is_zero-0ℚ refl
one_place f grade dim i j k (e ∷ es) stored h = by (same_place i j k e) refl (one_place f grade dim i j k es stored.1 h.1)
  where
    by : (t : Bool) → same_place i j k e ≡ t → picked (same_place i j k) f es ≡ cond (not (is_zero (value_at es i j k))) (f (record { i = i; j = j; k = k; v = value_at es i j k }) ∷ []) []
        → cond t (f e ∷ picked (same_place i j k) f es) (picked (same_place i j k) f es) ≡ cond (not (is_zero (cond t e.v (value_at es i j k)))) (f (record { i = i; j = j; k = k; v = cond t e.v (value_at es i j k) }) ∷ []) []
    by false t ih = ih
    by true t ih =
        rw (is_zero-some e.v stored.0.3, at_place i j k e t)
        (ap (λ r. f e ∷ r) (fold-none (same_place i j k) (λ y r. f y ∷ r) [] es (Each-weaken (λ y. same_place i j k e ≡ true → same_place i j k y ≡ false) (λ y. same_place i j k y ≡ false) es (λ y k. k t) h.0)))

-- ---- the rows

and_assoc : (s t u : Bool) → (s && t && u) ≡ ((s && t) && u)
and_assoc true t u = refl
and_assoc false t u = refl

by_k : {F : Type 0} (f : Entry → F) (grade : ℕ → ℕ → ℕ → Bool) (dim i j : ℕ) (es : List Entry) → IsAscending es → AreStored grade dim es → picked (λ e. eqb i e.i && eqb j e.j) f es ≡ each (below dim) (λ k. cond (not (is_zero (value_at es i j k))) (f (record { i = i; j = j; k = k; v = value_at es i j k }) ∷ []) [])
unfolding AreStored
by_k f grade dim i j es up stored =
    by_key (λ e. eqb i e.i && eqb j e.j) (λ e. e.k) (λ k. same_place i j k) f dim (λ k e. unfold same_place in and_assoc (eqb i e.i) (eqb j e.j) (eqb k e.k)) es
    (Each-weaken _ (λ e. e.k < dim) es (λ e s. s.2) stored) (later _ es up (later_k i j))
    ∙ each-cong _ _ (below dim) (λ k. one_place f grade dim i j k es stored (later _ es up (later_place i j k)))

pub row_b-is : (t : Entries) (i j : ℕ) → AreEntries t → row_of i j t.b ≡ row_b (looked_up t) i j
unfolding row_of row_b looked_up
row_b-is t i j h = by_k (λ e. (e.k, e.v)) (keeps_b t.shape) t.dim i j t.b h.b.ascend h.b.stored ∙ sym (keep-map (λ r. not (is_zero r.1)) (λ a. (a, value_at t.b i j a)) (below t.dim))

ordered-zero : (i j k : ℕ) (es : List Entry) → AreOrdered es → k < j → value_at es i j k ≡ 0ℚ
unfolding AreOrdered value_at
ordered-zero i j k es h l = fold-none (same_place i j k) (λ e r. e.v) 0ℚ es (Each-weaken (λ e. e.j ≤ e.k) _ es (λ e o. unfold same_place in grind (arith, nat_tests)) h)

-- of each pair of last indices the one in order is listed
abbrev alone : ℕ → ℕ → ℚ → Bool → List (ℕ × ℕ × ℚ)
alone a b v t = cond t ((a, b, v) ∷ []) []

in_order : (i a b : ℕ) (es : List Entry) → AreOrdered es → alone a b (value_at es i a b) (not (is_zero (value_at es i a b))) ≡ alone a b (value_at es i (min a b) (max a b)) (leb a b && not (is_zero (value_at es i (min a b) (max a b))))
in_order i a b es o = elim (cases_lt b a) [
  | inl l ↦
      let nothing : is_zero (value_at es i a b) ≡ true = ap is_zero (ordered-zero i a b es o l) ∙ is_zero-0ℚ in
      let test : leb a b ≡ false = grind (arith, nat_tests) in
      rw (nothing, test) refl
  | inr l ↦
      let least : min a b ≡ a = omega arith in
      let most : max a b ≡ b = omega arith in
      let test : leb a b ≡ true = grind (arith, nat_tests) in
      rw (least, most, test) refl
]

pub row_c-is : (t : Entries) (i : ℕ) → AreEntries t → pairs_of i t.c ≡ row_c (looked_up t) i
unfolding pairs_of row_c looked_up AreStored
row_c-is t i h =
    let f : Entry → ℕ × ℕ × ℚ = λ e. (e.j, e.k, e.v) in
    let line : ℕ → List (ℕ × ℕ × ℚ) = λ a. map (λ b. (a, b, value_at t.c i (min a b) (max a b))) (below t.dim) in
    by_key (λ e. eqb i e.i) (λ e. e.j) (λ a e. eqb i e.i && eqb a e.j) f t.dim (λ a e. refl) t.c (Each-weaken _ (λ e. e.j < t.dim) t.c (λ e s. s.1) h.c.stored) (later _ t.c h.c.ascend (later_j i))
    ∙ each-cong _ _ (below t.dim) (λ a. by_k f (keeps_c t.shape) t.dim i a t.c h.c.ascend h.c.stored
    ∙ each-cong _ _ (below t.dim) (λ b. in_order i a b t.c h.c_ordered)
    ∙ sym (keep-map (λ r. leb r.0 r.1 && not (is_zero r.2)) (λ b. (a, b, value_at t.c i (min a b) (max a b))) (below t.dim)))
    ∙ sym (keep-each (λ r. leb r.0 r.1 && not (is_zero r.2)) line (below t.dim))

-- ---- indices that are not below dim

rows-apart : (i j a b dim : ℕ) → a < dim → b < dim → (i < dim → j < dim → ⊥) → (eqb i a && eqb j b) ≡ false
rows-apart i j a b dim p q out = by (eqb i a && eqb j b) refl
  where
    by : (t : Bool) → (eqb i a && eqb j b) ≡ t → t ≡ false
    by true t =
        let same_i : i ≡ a = grind (arith, nat_tests) in
        let same_j : j ≡ b = grind (arith, nat_tests) in
        absurd (out (omega arith) (omega arith))
    by false t = refl

pub row_b-outside : (t : Entries) (i j : ℕ) → AreEntries t → (i < t.dim → j < t.dim → ⊥) → row_b (looked_up t) i j ≡ []
unfolding row_of AreStored
row_b-outside t i j h out =
    sym (row_b-is t i j h) ∙ fold-none _ (λ e r. (e.k, e.v) ∷ r) [] t.b (Each-weaken _ (λ e. (eqb i e.i && eqb j e.j) ≡ false) t.b (λ e s. rows-apart i j e.i e.j t.dim s.0 s.1 out) h.b.stored)

pub row_c-outside : (t : Entries) (i : ℕ) → AreEntries t → (i < t.dim → ⊥) → row_c (looked_up t) i ≡ []
unfolding pairs_of AreStored
row_c-outside t i h out =
    sym (row_c-is t i h) ∙ fold-none _ (λ e r. (e.j, e.k, e.v) ∷ r) [] t.c (Each-weaken _ (λ e. eqb i e.i ≡ false) t.c (λ e s. let apart : i ≡ e.i → ⊥ = λ same. out (omega (arith, s.0)) in grind (arith, nat_tests)) h.c.stored)
