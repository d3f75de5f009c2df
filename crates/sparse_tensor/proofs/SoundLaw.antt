-- What all tensors keep: they are symmetric and graded.
use Rattle.std.proofs.Common.{◌≡◌, ℕ, ◌+◌, ◌<◌, ◌≤◌, ◌⊎◌, inl, inr, Bool, true, false, List, refl, sym, ap, ap₂, subst, ◌∙◌, arith, ℤ, pos, ◌-ℤ◌, ◌*ℤ◌, min, max}
use Rattle.std.specs.Int.Signed.{le_z, le_z_yes}
use Rattle.std.proofs.lemmas.Float.{T_from_true}
use Rattle.std.proofs.lemmas.Bool.{false≢true}
use Rattle.airy_math.specs.Rational.{ℚ}
use Rattle.airy_math.specs.RationalLaws.{0ℚ}
use Rattle.airy_math.specs.declared.Shape.{Shape}
use Rattle.airy_math.specs.declared.Shape.TheVariants.{All, Exact, AtMost}
use Rattle.airy_math.specs.Shapes.{Keeps, per_g, per_n}
use Rattle.airy_math.specs.Tensors.{IsSymmetric, IsGraded, is_zero}
use Rattle.airy_math.proofs.PivotLemmas.{zero_number}
use Rattle.sparse_tensor.specs.Entries.{Entry, Entries, no_entries, looked_up, value_at, value_of}
use Rattle.sparse_tensor.specs.Grades.{keeps, keeps_a, keeps_b, keeps_c, keeps_d, AreStored, AreStoredByIndex, AreEntries, AreSound, IsSmallLaw, IsAtMost, IsAscending, IsAscendingByIndex, AreOrdered, AreInRange, AreInRangeByIndex}
use Rattle.sparse_tensor.proofs.EntryLemmas.{value_at-or, value_of-or}
use Rattle.airy_math.proofs.SameNumbers.{same_z}

-- ---- zero

pub is_zero-0ℚ : is_zero 0ℚ ≡ true
unfolding is_zero 0ℚ Rattle.airy_math.specs.Rational.ℚ_computes
is_zero-0ℚ = refl

pub is_zero-of : (v : ℚ) → v ≡ 0ℚ → is_zero v ≡ true
is_zero-of v e = ap is_zero e ∙ is_zero-0ℚ

pub is_zero-some : (v : ℚ) → (v ≡ 0ℚ → ⊥) → is_zero v ≡ false
is_zero-some v h = by (is_zero v) refl
  where
    by : (t : Bool) → is_zero v ≡ t → t ≡ false
    by true e = absurd (h (zero_number v e))
    by false e = refl

pub ruleset zero_tests = (is_zero-0ℚ, is_zero-some)

pub some_number : (v : ℚ) → is_zero v ≡ false → v ≡ 0ℚ → ⊥
some_number v h e = false≢true (sym h ∙ ap is_zero e ∙ is_zero-0ℚ)

-- ---- symmetric

pub symmetric : (t : Entries) → IsSymmetric (looked_up t)
unfolding looked_up
symmetric t = record {
  A = λ i a b. ap₂ (value_at t.a i) (omega arith) (omega arith);
  C = λ i a b. ap₂ (value_at t.c i) (omega arith) (omega arith);
}

-- ---- graded

Keeps-keeps : (s : Shape) (x y : ℤ) → keeps s x y ≡ true → Keeps s x y
unfolding keeps Keeps
Keeps-keeps All x y h = tt
Keeps-keeps (Exact l) x y h = same_z x y h
Keeps-keeps (AtMost l) x y h = le_z_yes (T_from_true (le_z x y) h)

graded-at : (grade : ℕ → ℕ → ℕ → Bool) (dim : ℕ) (es : List Entry) (i j k : ℕ) → AreStored grade dim es → (value_at es i j k ≡ 0ℚ) ⊎ (grade i j k ≡ true)
graded-at grade dim es i j k h = elim (value_at-or grade dim es i j k h) [ inl s ↦ inr s.0.graded | inr n ↦ inl n.1 ]

graded-of : (grade : ℕ → Bool) (dim : ℕ) (es : List (ℕ × ℚ)) (i : ℕ) → AreStoredByIndex grade dim es → (value_of es i ≡ 0ℚ) ⊎ (grade i ≡ true)
graded-of grade dim es i h = elim (value_of-or grade dim es i h) [ inl s ↦ inr s.1 | inr n ↦ inl n.1 ]

or_keeps : {Z : Type 0} (s : Shape) (x x' y : ℤ) → x' ≡ x → Z ⊎ (keeps s x' y ≡ true) → Z ⊎ Keeps s x y
or_keeps s x x' y e (inl z) = inl z
or_keeps s x x' y e (inr k) = inr (Keeps-keeps s x y (subst (λ w. keeps s w y ≡ true) e k))

graded : (t : Entries) → AreEntries t → IsGraded (looked_up t)
unfolding looked_up keeps_a keeps_b keeps_c keeps_d
graded t h = record {
  A = λ i j k. or_keeps t.shape (pos (i + j + k)) (pos (i + min j k + max j k)) (pos 3 *ℤ per_n t.shape -ℤ per_g t.shape) (ap pos (omega arith)) (graded-at (keeps_a t.shape) t.dim t.a i (min j k) (max j k) h.a.stored);
  B = λ i j k. or_keeps t.shape (pos (i + j) -ℤ pos k) (pos (i + j) -ℤ pos k) (per_n t.shape) refl (graded-at (keeps_b t.shape) t.dim t.b i j k h.b.stored);
  C = λ i j k. or_keeps t.shape (pos i -ℤ pos (j + k)) (pos i -ℤ pos (min j k + max j k)) (per_g t.shape -ℤ per_n t.shape) (ap (λ n. pos i -ℤ pos n) (omega arith)) (graded-at (keeps_c t.shape) t.dim t.c i (min j k) (max j k) h.c.stored);
  D = λ i. or_keeps t.shape (pos i) (pos i) (per_n t.shape) refl (graded-of (keeps_d t.shape) t.dim t.d i h.d.stored);
}

pub sound : (t : Entries) → AreEntries t → AreSound t
sound t h = record { entries = h; symmetric = symmetric t; graded = graded t h }

-- ---- no entries

pub none_kept : (dim : ℕ) (shape : Shape) (letter : Bool) → 0 < dim → dim ≤ 72 → IsSmallLaw shape → (letter ≡ true → IsAtMost shape) → AreEntries (no_entries dim shape letter)
unfolding no_entries IsAscending IsAscendingByIndex AreOrdered AreStored AreStoredByIndex AreInRange AreInRangeByIndex
none_kept dim shape letter some most law l = record {
  some = some;
  most = most;
  law = law;
  letter = l;
  a = record { ascend = tt; stored = tt; in_range = tt };
  b = record { ascend = tt; stored = tt; in_range = tt };
  c = record { ascend = tt; stored = tt; in_range = tt };
  d = record { ascend = tt; stored = tt; in_range = tt };
  a_ordered = tt;
  c_ordered = tt;
}
