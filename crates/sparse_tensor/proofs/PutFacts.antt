-- Puts for callers: when a place is free, and what the tensors are after a put.
use Rattle.std.proofs.Common.{◌≡◌, ℕ, ◌<◌, ◌≤◌, Bool, true, false, ◌&&◌, cond, eqb, refl, sym, subst, arith, min, max, Result, Ok, OnOk}
use Rattle.std.proofs.lemmas.Bool.Decides.{nat_tests}
use Rattle.airy_math.specs.Rational.{ℚ}
use Rattle.airy_math.specs.RationalLaws.{0ℚ}
use Rattle.airy_math.specs.Tensors as math
use Rattle.airy_math.specs.Tensors.{is_zero}
use Rattle.sparse_tensor.specs.declared.tensors.PutErr.{PutErr}
use Rattle.sparse_tensor.specs.Entries.{Entries, looked_up, same_place, with_value}
use Rattle.sparse_tensor.specs.Grades.{AreEntries, keeps_a, keeps_b, keeps_c, keeps_d}
use Rattle.sparse_tensor.specs.Puts.{Putting, Free, IsAllowed, putting, are_inside, putting_a, putting_b, putting_c, putting_d, with_a, with_b, with_c, with_d}
use Rattle.sparse_tensor.proofs.EntryLemmas.{value_at-with_entry, value_of-with_value, free_from_zero, not_given_from_zero}

pub inside : (dim i j k : ℕ) → i < dim → j < dim → k < dim → are_inside dim i j k ≡ true
unfolding are_inside
inside dim i j k p q r = grind (arith, nat_tests)

-- the least and the greatest of two numbers in order
pub ordered_ends : (j k : ℕ) → j ≤ k → (min j k ≡ j) × (max j k ≡ k)
ordered_ends j k h = (omega arith, omega arith)

-- a put of D changes D alone
pub with_d-is : (t : Entries) (i : ℕ) (v : ℚ) → with_d t i v ≡ record t { d = cond (is_zero v) t.d (with_value i v t.d) }
unfolding with_d
with_d-is t i v = by (is_zero v)
  where
    by : (z : Bool) → cond z t (record t { d = with_value i v t.d }) ≡ record t { d = cond z t.d (with_value i v t.d) }
    by true = refl
    by false = refl

free-of : (inside zero graded taken : Bool) → inside ≡ true → zero ≡ false → graded ≡ true → taken ≡ false → putting inside zero graded taken ≡ Free
unfolding putting
free-of inside zero graded taken p q r f = rw (p, q, r, f) refl

allowed : (inside zero graded taken : Bool) → inside ≡ true → graded ≡ true → taken ≡ false → IsAllowed (putting inside zero graded taken)
unfolding putting IsAllowed
allowed inside true graded taken p q r = rw p tt
allowed inside false graded taken p q r = rw (p, q, r) tt

pub allowed_free : (p : Putting) → p ≡ Free → IsAllowed p
allowed_free p e = subst IsAllowed (sym e) (unfold IsAllowed in tt)

module _ (t : Entries) (i j k : ℕ) (v : ℚ) (h : AreEntries t) (p : i < t.dim) (q : j < t.dim) (r : k < t.dim) where
  pub putting_a-free : is_zero v ≡ false → keeps_a t.shape i j k ≡ true → (looked_up t).A i j k ≡ 0ℚ → putting_a t i j k v ≡ Free
  unfolding putting_a looked_up
  putting_a-free some graded zero =
      free-of _ _ _ _ (inside t.dim i j k p q r) some graded (free_from_zero (keeps_a t.shape) t.dim t.a i (min j k) (max j k) h.a.stored zero)

  pub allowed_a : keeps_a t.shape i j k ≡ true → (looked_up t).A i j k ≡ 0ℚ → IsAllowed (putting_a t i j k v)
  unfolding putting_a looked_up
  allowed_a graded zero =
      allowed _ (is_zero v) _ _ (inside t.dim i j k p q r) graded (free_from_zero (keeps_a t.shape) t.dim t.a i (min j k) (max j k) h.a.stored zero)

  pub putting_b-free : is_zero v ≡ false → keeps_b t.shape i j k ≡ true → (looked_up t).B i j k ≡ 0ℚ → putting_b t i j k v ≡ Free
  unfolding putting_b looked_up
  putting_b-free some graded zero =
      free-of _ _ _ _ (inside t.dim i j k p q r) some graded (free_from_zero (keeps_b t.shape) t.dim t.b i j k h.b.stored zero)

  pub allowed_b : keeps_b t.shape i j k ≡ true → (looked_up t).B i j k ≡ 0ℚ → IsAllowed (putting_b t i j k v)
  unfolding putting_b looked_up
  allowed_b graded zero =
      allowed _ (is_zero v) _ _ (inside t.dim i j k p q r) graded (free_from_zero (keeps_b t.shape) t.dim t.b i j k h.b.stored zero)

  pub putting_c-free : is_zero v ≡ false → keeps_c t.shape i j k ≡ true → (looked_up t).C i j k ≡ 0ℚ → putting_c t i j k v ≡ Free
  unfolding putting_c looked_up
  putting_c-free some graded zero =
      free-of _ _ _ _ (inside t.dim i j k p q r) some graded (free_from_zero (keeps_c t.shape) t.dim t.c i (min j k) (max j k) h.c.stored zero)

  pub allowed_c : keeps_c t.shape i j k ≡ true → (looked_up t).C i j k ≡ 0ℚ → IsAllowed (putting_c t i j k v)
  unfolding putting_c looked_up
  allowed_c graded zero =
      allowed _ (is_zero v) _ _ (inside t.dim i j k p q r) graded (free_from_zero (keeps_c t.shape) t.dim t.c i (min j k) (max j k) h.c.stored zero)

pub putting_d-free : (t : Entries) (i : ℕ) (v : ℚ) → AreEntries t → i < t.dim → is_zero v ≡ false → keeps_d t.shape i ≡ true → (looked_up t).D i ≡ 0ℚ → putting_d t i v ≡ Free
unfolding putting_d looked_up
putting_d-free t i v h p some graded zero =
    free-of _ _ _ _ (grind (arith, nat_tests)) some graded (not_given_from_zero (keeps_d t.shape) t.dim t.d i h.d.stored zero)

pub allowed_d : (t : Entries) (i : ℕ) (v : ℚ) → AreEntries t → i < t.dim → keeps_d t.shape i ≡ true → (looked_up t).D i ≡ 0ℚ → IsAllowed (putting_d t i v)
unfolding putting_d looked_up
allowed_d t i v h p graded zero =
    allowed _ (is_zero v) _ _ (grind (arith, nat_tests)) graded (not_given_from_zero (keeps_d t.shape) t.dim t.d i h.d.stored zero)

-- what holds where a put is done
pub at_ok : {P : Type 0} (R : Result Unit PutErr) → R ≡ Ok tt → OnOk R P → P
at_ok {P = P} R e h = let at : OnOk {T = Unit} {E = PutErr} (Ok tt) P = subst (λ Q. OnOk Q P) e h in at

-- ---- what the tensors are after a put

-- A put that passes every check has a value that isn't 0 and a place that is free.
pub record IsFree (zero taken : Bool) : Type 0 where
  pub zero_false : zero ≡ false
  pub taken_false : taken ≡ false

pub is_free : (inside zero graded taken : Bool) → putting inside zero graded taken ≡ Free → IsFree zero taken
unfolding putting
is_free false zero graded taken h = cc
is_free true true graded taken h = cc
is_free true false false taken h = cc
is_free true false true true h = cc
is_free true false true false h = record { zero_false = refl; taken_false = refl }

-- the same place, where the order of the last two indices does not count
unfoldable pub same_unordered : ℕ → ℕ → ℕ → ℕ → ℕ → ℕ → Bool
same_unordered a b c i j k = eqb a i && eqb (min b c) (min j k) && eqb (max b c) (max j k)

unfoldable pub same_ordered : ℕ → ℕ → ℕ → ℕ → ℕ → ℕ → Bool
same_ordered a b c i j k = eqb a i && eqb b j && eqb c k

-- T' is T but for what stands at the places.
pub record Puts (T T' : math.Tensors) (a b c : ℕ → ℕ → ℕ → ℚ) (d : ℕ → ℚ) : Type 0 where
  pub dim : T'.dim ≡ T.dim
  pub shape : T'.shape ≡ T.shape
  pub A : (i j k : ℕ) → T'.A i j k ≡ a i j k
  pub B : (i j k : ℕ) → T'.B i j k ≡ b i j k
  pub C : (i j k : ℕ) → T'.C i j k ≡ c i j k
  pub D : (i : ℕ) → T'.D i ≡ d i

-- the value v at one place of A, and nothing else changes; and so on
abbrev pub PutsA : (T T' : math.Tensors) (i j k : ℕ) (v : ℚ) → Type 0
PutsA T T' i j k v = Puts T T' (λ a b c. cond (same_unordered a b c i j k) v (T.A a b c)) T.B T.C T.D

abbrev pub PutsB : (T T' : math.Tensors) (i j k : ℕ) (v : ℚ) → Type 0
PutsB T T' i j k v = Puts T T' T.A (λ a b c. cond (same_ordered a b c i j k) v (T.B a b c)) T.C T.D

abbrev pub PutsC : (T T' : math.Tensors) (i j k : ℕ) (v : ℚ) → Type 0
PutsC T T' i j k v = Puts T T' T.A T.B (λ a b c. cond (same_unordered a b c i j k) v (T.C a b c)) T.D

abbrev pub PutsD : (T T' : math.Tensors) (i : ℕ) (v : ℚ) → Type 0
PutsD T T' i v = Puts T T' T.A T.B T.C (λ a. cond (eqb a i) v (T.D a))

pub puts_a : (t : Entries) (i j k : ℕ) (v : ℚ) → putting_a t i j k v ≡ Free → PutsA (looked_up t) (looked_up (with_a t i j k v)) i j k v
unfolding putting_a with_a looked_up same_place same_unordered
puts_a t i j k v h =
    let f = is_free _ _ _ _ h in
    rw f.zero_false (record { dim = refl; shape = refl; A = λ a b c. value_at-with_entry (record { i = i; j = min j k; k = max j k; v = v }) t.a a (min b c) (max b c) f.taken_false; B = λ a b c. refl; C = λ a b c. refl; D = λ a. refl })

pub puts_b : (t : Entries) (i j k : ℕ) (v : ℚ) → putting_b t i j k v ≡ Free → PutsB (looked_up t) (looked_up (with_b t i j k v)) i j k v
unfolding putting_b with_b looked_up same_place same_ordered
puts_b t i j k v h =
    let f = is_free _ _ _ _ h in
    rw f.zero_false (record { dim = refl; shape = refl; A = λ a b c. refl; B = λ a b c. value_at-with_entry (record { i = i; j = j; k = k; v = v }) t.b a b c f.taken_false; C = λ a b c. refl; D = λ a. refl })

pub puts_c : (t : Entries) (i j k : ℕ) (v : ℚ) → putting_c t i j k v ≡ Free → PutsC (looked_up t) (looked_up (with_c t i j k v)) i j k v
unfolding putting_c with_c looked_up same_place same_unordered
puts_c t i j k v h =
    let f = is_free _ _ _ _ h in
    rw f.zero_false (record { dim = refl; shape = refl; A = λ a b c. refl; B = λ a b c. refl; C = λ a b c. value_at-with_entry (record { i = i; j = min j k; k = max j k; v = v }) t.c a (min b c) (max b c) f.taken_false; D = λ a. refl })

pub puts_d : (t : Entries) (i : ℕ) (v : ℚ) → putting_d t i v ≡ Free → PutsD (looked_up t) (looked_up (with_d t i v)) i v
unfolding putting_d with_d looked_up
puts_d t i v h =
    let f = is_free _ _ _ _ h in
    rw f.zero_false (record { dim = refl; shape = refl; A = λ a b c. refl; B = λ a b c. refl; C = λ a b c. refl; D = λ a. value_of-with_value i v t.d a f.taken_false })
