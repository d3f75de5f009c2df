-- Lists of entries: what stands at a place, also after one more entry, and what stays true of the list.
use Rattle.std.proofs.Common.{◌≡◌, ℕ, ◌<◌, ◌⊎◌, inl, inr, Bool, true, false, cond, eqb, List, subst, arith}
use Rattle.std.proofs.lemmas.Bool.Decides.{nat_tests}
use Rattle.airy_math.specs.Rational.{ℚ}
use Rattle.airy_math.specs.RationalLaws.{0ℚ}
use Rattle.airy_math.proofs.SumLemmas.{Each-weaken}
use Rattle.sparse_tensor.specs.Entries.{Entry, same_place, value_at, is_taken, value_of, is_given, place_before, with_entry, with_value}
use Rattle.sparse_tensor.specs.Grades.{IsAscending, AreStored, AreStoredByIndex}
use Rattle.sparse_tensor.proofs.ItemLemmas.{none-picked, fold-put, ascends-put, stands}

-- ---- one more entry

places-apart : (x e : Entry) (i j k : ℕ) → same_place i j k x ≡ true → same_place x.i x.j x.k e ≡ false → same_place i j k e ≡ false
unfolding same_place
places-apart x e i j k p q = grind (arith, nat_tests)

-- an entry whose place is free becomes what stands there, and nothing else changes
pub value_at-with_entry : (x : Entry) (es : List Entry) (i j k : ℕ) → is_taken es x.i x.j x.k ≡ false → value_at (with_entry x es) i j k ≡ cond (same_place i j k x) x.v (value_at es i j k)
unfolding with_entry value_at is_taken
value_at-with_entry x es i j k h =
    fold-put (same_place i j k) (λ e rest. e.v) 0ℚ (place_before x) x es
    (λ t. Each-weaken (λ e. same_place x.i x.j x.k e ≡ false) (λ e. same_place i j k e ≡ false) es (λ e. places-apart x e i j k t) (none-picked (same_place x.i x.j x.k) es h))

-- the same for entries by one index
pub value_of-with_value : (n : ℕ) (v : ℚ) (es : List (ℕ × ℚ)) (i : ℕ) → is_given es n ≡ false → value_of (with_value n v es) i ≡ cond (eqb i n) v (value_of es i)
unfolding with_value value_of is_given
value_of-with_value n v es i h =
    fold-put (λ e. eqb i e.0) (λ e rest. e.1) 0ℚ _ (n, v) es
    (λ t. Each-weaken (λ e. eqb n e.0 ≡ false) (λ e. eqb i e.0 ≡ false) es (λ e p. grind (arith, nat_tests)) (none-picked (λ e. eqb n e.0) es h))

places-total : (x e : Entry) → same_place x.i x.j x.k e ≡ false → place_before x e ≡ false → place_before e x ≡ true
unfolding same_place place_before
places-total x e p q = grind (arith, nat_tests)

pub ascending-with_entry : (x : Entry) (es : List Entry) → IsAscending es → is_taken es x.i x.j x.k ≡ false → IsAscending (with_entry x es)
unfolding IsAscending is_taken with_entry
ascending-with_entry x es h n =
    ascends-put place_before x es (Each-weaken (λ e. same_place x.i x.j x.k e ≡ false) _ es (places-total x) (none-picked (same_place x.i x.j x.k) es n)) h

-- ---- what stands at a place of stored entries

-- indices below dim, and their grade
pub record IsStored (grade : ℕ → ℕ → ℕ → Bool) (dim i j k : ℕ) : Type 0 where
  pub first : i < dim
  pub second : j < dim
  pub third : k < dim
  pub graded : grade i j k ≡ true

stored-here : (grade : ℕ → ℕ → ℕ → Bool) (dim i j k : ℕ) (e : Entry) → e.i < dim → e.j < dim → e.k < dim → grade e.i e.j e.k ≡ true → same_place i j k e ≡ true → IsStored grade dim i j k
unfolding same_place
stored-here grade dim i j k e p q r g s =
    let same_i : e.i ≡ i = grind (arith, nat_tests) in
    let same_j : e.j ≡ j = grind (arith, nat_tests) in
    let same_k : e.k ≡ k = grind (arith, nat_tests) in
    record { first = omega arith; second = omega arith; third = omega arith; graded = rw (same_i, same_j, same_k) at g }

-- an entry that isn't 0, or none
pub value_at-or : (grade : ℕ → ℕ → ℕ → Bool) (dim : ℕ) (es : List Entry) (i j k : ℕ) → AreStored grade dim es → (IsStored grade dim i j k × (value_at es i j k ≡ 0ℚ → ⊥)) ⊎ ((is_taken es i j k ≡ false) × (value_at es i j k ≡ 0ℚ))
unfolding AreStored value_at is_taken
value_at-or grade dim es i j k h = elim (stands _ (same_place i j k) (λ e. e.v) es h) [
  | inl s ↦ inl (stored-here grade dim i j k s.0 s.1.0 s.1.1 s.1.2 s.1.4 s.2, λ z. s.1.3 (cc (s.3, z)))
  | inr n ↦ inr n
]

-- the same by one index
pub value_of-or : (grade : ℕ → Bool) (dim : ℕ) (es : List (ℕ × ℚ)) (i : ℕ) → AreStoredByIndex grade dim es → ((i < dim) × (grade i ≡ true) × (value_of es i ≡ 0ℚ → ⊥)) ⊎ ((is_given es i ≡ false) × (value_of es i ≡ 0ℚ))
unfolding AreStoredByIndex value_of is_given
value_of-or grade dim es i h = elim (stands _ (λ e. eqb i e.0) (λ e. e.1) es h) [
  | inl s ↦
      let same : s.0.0 ≡ i = grind (arith, nat_tests, s.2) in
      inl (subst (λ n. n < dim) same s.1.0, subst (λ n. grade n ≡ true) same s.1.2, λ z. s.1.1 (cc (s.3, z)))
  | inr n ↦ inr n
]

-- where an index is not below dim, nothing stands
pub value_at-outside : (grade : ℕ → ℕ → ℕ → Bool) (dim : ℕ) (es : List Entry) (i j k : ℕ) → AreStored grade dim es → (i < dim → j < dim → k < dim → ⊥) → value_at es i j k ≡ 0ℚ
value_at-outside grade dim es i j k h out = elim (value_at-or grade dim es i j k h) [
  | inl s ↦ absurd (out s.0.first s.0.second s.0.third)
  | inr n ↦ n.1
]

-- a place that holds 0 is free
pub free_from_zero : (grade : ℕ → ℕ → ℕ → Bool) (dim : ℕ) (es : List Entry) (i j k : ℕ) → AreStored grade dim es → value_at es i j k ≡ 0ℚ → is_taken es i j k ≡ false
free_from_zero grade dim es i j k h z = elim (value_at-or grade dim es i j k h) [ inl s ↦ absurd (s.1 z) | inr n ↦ n.0 ]

pub not_given_from_zero : (grade : ℕ → Bool) (dim : ℕ) (es : List (ℕ × ℚ)) (i : ℕ) → AreStoredByIndex grade dim es → value_of es i ≡ 0ℚ → is_given es i ≡ false
not_given_from_zero grade dim es i h z = elim (value_of-or grade dim es i h) [ inl s ↦ absurd (s.2 z) | inr n ↦ n.0 ]
