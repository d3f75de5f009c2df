-- Puts of a value that may be 0 at a place where nothing stands.
use Rattle.std.proofs.Common.{◌≡◌, ℕ, ◌+◌, ◌<◌, ◌≤◌, ◌⊎◌, inl, inr, Bool, true, false, cond, ltb, List, refl, sym, ap, ap₂, ◌∙◌, arith, pos, ◌-ℤ◌, ℤ}
use Rattle.std.specs.Prelude.{min, max}
use Rattle.std.proofs.lemmas.Int.{ints}
use Rattle.std.proofs.lemmas.Bool.Decides.{nat_tests}
use Rattle.airy_math.specs.Rational.{ℚ}
use Rattle.airy_math.specs.RationalLaws.{0ℚ}
use Rattle.airy_math.specs.Shapes.{per_n}
use Rattle.airy_math.specs.Tensors.{is_zero}
use Rattle.airy_math.specs.declared.Shape.{Shape}
use Rattle.airy_math.proofs.PivotLemmas.{zero_number}
use Rattle.sparse_tensor.specs.Entries.{Entry, Entries, is_given, is_taken, same_place, value_at, with_entry, with_value}
use Rattle.sparse_tensor.specs.Grades.{keeps, keeps_b, keeps_c, keeps_d}
use Rattle.sparse_tensor.specs.Puts.{IsAllowed, are_inside, putting, putting_b, putting_c, putting_d, with_b, with_c, with_d}
use Rattle.sparse_tensor.proofs.EntryLemmas.{value_at-with_entry}
use Rattle.sparse_tensor.proofs.SoundLaw.{is_zero-of}
use Rattle.airy_curve.specs.Filling.{Fits, FitsD, HasRoom, IsPlace}
use Rattle.sparse_tensor.proofs.PutFacts.{inside}

-- ---- what may be put

may : (inside zero graded taken : Bool) → inside ≡ true → (zero ≡ true) ⊎ (graded ≡ true) → taken ≡ false → IsAllowed (putting inside zero graded taken)
unfolding putting IsAllowed
may inside true graded taken p q r = rw p tt
may inside false graded taken p (inl q) r = cc
may inside false graded taken p (inr q) r = rw (p, q, r) tt

moved : (s : Shape) (x y z : ℤ) → x ≡ y → keeps s y z ≡ true → keeps s x z ≡ true
moved s x y z e h = ap (λ t. keeps s t z) e ∙ h

module _ (f : ℕ → ℚ) (most : ℕ) (t : Entries) (i j k e : ℕ) (v : ℚ) (at : IsPlace f most t i j k) (high : e ≤ most) where
  pub may_b : i + j + e ≡ k + 1 → (f e ≡ 0ℚ → v ≡ 0ℚ) → is_taken t.b i j k ≡ false → IsAllowed (putting_b t i j k v)
  unfolding putting_b keeps_b Fits
  may_b low none free = may (are_inside t.dim i j k) (is_zero v) (keeps_b t.shape i j k) _ (inside t.dim i j k at.first at.second at.third) (room (at.fits e high)) free
    where
      room : (f e ≡ 0ℚ) ⊎ HasRoom t.shape e → (is_zero v ≡ true) ⊎ (keeps_b t.shape i j k ≡ true)
      room (inl z) = inl (is_zero-of v (none z))
      room (inr h) = inr (moved t.shape (pos (i + j) -ℤ pos k) (pos (1 + 0) -ℤ pos e) (per_n t.shape) (omega (arith, ints)) h.b)

  pub may_c : i + e ≡ j + k + 2 → j ≤ k → v ≡ f e → is_taken t.c i j k ≡ false → IsAllowed (putting_c t i j k v)
  unfolding putting_c keeps_c Fits
  may_c low ordered value free =
      let least : min j k ≡ j = omega arith in
      let greatest : max j k ≡ k = omega arith in
      may (are_inside t.dim i j k) (is_zero v) (keeps_c t.shape i j k) _ (inside t.dim i j k at.first at.second at.third) (room (at.fits e high)) (ap₂ (is_taken t.c i) least greatest ∙ free)
    where
      room : (f e ≡ 0ℚ) ⊎ HasRoom t.shape e → (is_zero v ≡ true) ⊎ (keeps_c t.shape i j k ≡ true)
      room (inl z) = inl (is_zero-of v (value ∙ z))
      room (inr h) = inr (moved t.shape (pos i -ℤ pos (j + k)) (pos 2 -ℤ pos (0 + e)) _ (omega (arith, ints)) h.c')

pub may_d : (t : Entries) (i : ℕ) (v : ℚ) → i < t.dim → FitsD t.shape i v → is_given t.d i ≡ false → IsAllowed (putting_d t i v)
unfolding putting_d FitsD
may_d t i v p fits free = may (ltb i t.dim) (is_zero v) (keeps_d t.shape i) _ (grind (arith, nat_tests)) (room fits) free
  where
    room : (v ≡ 0ℚ) ⊎ (keeps_d t.shape i ≡ true) → (is_zero v ≡ true) ⊎ (keeps_d t.shape i ≡ true)
    room (inl z) = inl (is_zero-of v z)
    room (inr h) = inr h

-- ---- what a put leaves

-- the list with one more entry; a value of 0 adds none
abbrev pub put_list : Entry → List Entry → List Entry
put_list x es = cond (is_zero x.v) es (with_entry x es)

pub b-is : (t : Entries) (i j k : ℕ) (v : ℚ) → with_b t i j k v ≡ record t { b = put_list (record { i = i; j = j; k = k; v = v }) t.b }
unfolding with_b
b-is t i j k v = by (is_zero v)
  where
    by : (z : Bool) → cond z t (record t { b = with_entry (record { i = i; j = j; k = k; v = v }) t.b }) ≡ record t { b = cond z t.b (with_entry (record { i = i; j = j; k = k; v = v }) t.b) }
    by true = refl
    by false = refl

pub c-is : (t : Entries) (i j k : ℕ) (v : ℚ) → j ≤ k → with_c t i j k v ≡ record t { c = put_list (record { i = i; j = j; k = k; v = v }) t.c }
unfolding with_c
c-is t i j k v ordered = by (is_zero v) (min j k) (max j k) (omega arith) (omega arith)
  where
    by : (z : Bool) (m n : ℕ) → m ≡ j → n ≡ k → cond z t (record t { c = with_entry (record { i = i; j = m; k = n; v = v }) t.c }) ≡ record t { c = cond z t.c (with_entry (record { i = i; j = j; k = k; v = v }) t.c) }
    by true m n p q = refl
    by false m n p q = ap₂ (λ a b. record t { c = with_entry (record { i = i; j = a; k = b; v = v }) t.c }) p q

pub same_parts : (a b c : ℕ) (x : Entry) → same_place a b c x ≡ true → (a ≡ x.i) × (b ≡ x.j) × (c ≡ x.k)
unfolding same_place
same_parts a b c x h = (grind (arith, nat_tests), grind (arith, nat_tests), grind (arith, nat_tests))

pub put_at : (es : List Entry) (x : Entry) (a b c : ℕ) → is_taken es x.i x.j x.k ≡ false → value_at es x.i x.j x.k ≡ 0ℚ → value_at (put_list x es) a b c ≡ cond (same_place a b c x) x.v (value_at es a b c)
put_at es x a b c free zero = by (is_zero x.v) refl (same_place a b c x) refl
  where
    by : (z : Bool) → is_zero x.v ≡ z → (s : Bool) → same_place a b c x ≡ s → value_at (cond z es (with_entry x es)) a b c ≡ cond s x.v (value_at es a b c)
    by false e s p = value_at-with_entry x es a b c free ∙ ap (λ d. cond d x.v (value_at es a b c)) p
    by true e false p = refl
    by true e true p = let parts = same_parts a b c x p in ap₂ (λ m n. value_at es m n c) parts.0 parts.1 ∙ ap (value_at es x.i x.j) parts.2 ∙ zero ∙ sym (zero_number x.v e)
