-- The diagonal tensors, set index by index.
use Rattle.std.proofs.Common.{◌≡◌, ℕ, ◌+◌, ◌*◌, ◌%◌, ◌<◌, ◌≤◌, ◌⊎◌, inl, inr, Bool, true, false, ◌&&◌, eqb, ltb, List, get_or, length, replicate, refl, sym, ap, subst, ◌∙◌, arith, pos, set, length-set, get_or-set_same, get_or-set_other}
use Rattle.std.proofs.lemmas.Bool.{cases_eq, lt-ltb}
use Rattle.std.proofs.lemmas.Bool.Decides.{nat_tests}
use Rattle.std.proofs.lemmas.List.{length-replicate, get_or-replicate}
use Rattle.airy_math.specs.Rational.{ℚ, whole, ◌/ℚ◌}
use Rattle.airy_math.specs.RationalLaws.{0ℚ}
use Rattle.airy_math.specs.Sums.{when}
use Rattle.airy_math.specs.Tensors.{SameEntries}
use Rattle.bulk_tensors.specs.Bulk.{on_diagonal, diagonal}
use Rattle.bulk_tensors.specs.Draws.{draw}
use Rattle.bulk_tensors.specs.Full.{Lists, entry, listed, zero_lists, with_diagonal}
use Rattle.bulk_tensors.proofs.FullLemmas.{entry-set_same, entry-set_other}
use Rattle.bulk_tensors.proofs.FilledLemmas.{before_more}
use Rattle.airy_math.proofs.SumLemmas.{when_true, when_false}
use Rattle.airy_math.proofs.PivotLaw.{when-of_zero}

-- the list has f on the diagonal before n, and 0 elsewhere
pub record IsDiagonal (n : ℕ) (f : ℕ → ℚ) (l : List ℚ) : Type 0 where
  pub long : length l ≡ 512
  pub at : (i j k : ℕ) → i < 8 → j < 8 → k < 8 → entry l i j k ≡ when (ltb i n) (on_diagonal f i j k)

here : (f : ℕ → ℚ) (n i j k : ℕ) → i ≡ n → j ≡ n → k ≡ n → f n ≡ when (ltb i (n + 1)) (on_diagonal f i j k)
unfolding on_diagonal
here f n i j k p q r =
    ap f (sym p)
    ∙ sym (when_true (eqb i j && eqb i k) (f i) (grind (arith, nat_tests)))
    ∙ sym (when_true (ltb i (n + 1)) _ (lt-ltb i (n + 1) (omega arith)))

off : (f : ℕ → ℚ) (i j k : ℕ) → (i ≡ j → i ≡ k → ⊥) → on_diagonal f i j k ≡ 0ℚ
unfolding on_diagonal
off f i j k h = when_false (eqb i j && eqb i k) (f i) (grind (arith, nat_tests))

diagonal_next : (n : ℕ) (f : ℕ → ℚ) (l : List ℚ) (v : ℚ) → n < 8 → v ≡ f n → IsDiagonal n f l → IsDiagonal (n + 1) f (set l (64 * n + 8 * n + n) v)
diagonal_next n f l v small e h = record { long = length-set l (64 * n + 8 * n + n) v ∙ h.long; at = λ i j k p q r. by i j k p q r (cases_eq (64 * i + 8 * j + k) (64 * n + 8 * n + n)) }
  where
    stays : (i j k : ℕ) → i < 8 → j < 8 → k < 8 → (64 * i + 8 * j + k ≡ 64 * n + 8 * n + n → ⊥) → (i ≡ n) ⊎ (i ≡ n → ⊥) → when (ltb i n) (on_diagonal f i j k) ≡ when (ltb i (n + 1)) (on_diagonal f i j k)
    stays i j k p q r x (inl y) = let zero = off f i j k (λ s t. x (omega arith)) in when-of_zero (ltb i n) _ zero ∙ sym (when-of_zero (ltb i (n + 1)) _ zero)
    stays i j k p q r x (inr y) = ap (λ b. when b (on_diagonal f i j k)) (before_more i n y)

    by : (i j k : ℕ) → i < 8 → j < 8 → k < 8 → (64 * i + 8 * j + k ≡ 64 * n + 8 * n + n) ⊎ (64 * i + 8 * j + k ≡ 64 * n + 8 * n + n → ⊥) → entry (set l (64 * n + 8 * n + n) v) i j k ≡ when (ltb i (n + 1)) (on_diagonal f i j k)
    by i j k p q r (inl x) = entry-set_same l (64 * n + 8 * n + n) v i j k (omega (arith, h.long)) x ∙ e ∙ here f n i j k (omega arith) (omega arith) (omega arith)
    by i j k p q r (inr x) = entry-set_other l (64 * n + 8 * n + n) v i j k x ∙ h.at i j k p q r ∙ stays i j k p q r x (cases_eq i n)

diagonal_none : (f : ℕ → ℚ) → IsDiagonal 0 f (replicate 512 0ℚ)
diagonal_none f = record {
  long = length-replicate 512 0ℚ;
  at = λ i j k p q r. unfold entry in get_or-replicate 512 (64 * i + 8 * j + k) 0ℚ 0ℚ (omega arith) ∙ sym (when_false (ltb i 0) (on_diagonal f i j k) (grind (arith, nat_tests)));
}

-- the same for D
pub record IsRow (n : ℕ) (f : ℕ → ℚ) (l : List ℚ) : Type 0 where
  pub long : length l ≡ 8
  pub at : (i : ℕ) → i < 8 → get_or l i 0ℚ ≡ when (ltb i n) (f i)

row_next : (n : ℕ) (f : ℕ → ℚ) (l : List ℚ) (v : ℚ) → n < 8 → v ≡ f n → IsRow n f l → IsRow (n + 1) f (set l n v)
row_next n f l v small e h = record { long = length-set l n v ∙ h.long; at = λ i p. by i p (cases_eq i n) }
  where
    by : (i : ℕ) → i < 8 → (i ≡ n) ⊎ (i ≡ n → ⊥) → get_or (set l n v) i 0ℚ ≡ when (ltb i (n + 1)) (f i)
    by i p (inl x) = ap (λ m. get_or (set l n v) m 0ℚ) x ∙ get_or-set_same l n v 0ℚ (omega (arith, h.long)) ∙ e ∙ ap f (sym x) ∙ sym (when_true (ltb i (n + 1)) (f i) (lt-ltb i (n + 1) (omega arith)))
    by i p (inr x) = get_or-set_other l n i v 0ℚ x ∙ h.at i p ∙ ap (λ b. when b (f i)) (before_more i n x)

row_none : (f : ℕ → ℚ) → IsRow 0 f (replicate 8 0ℚ)
row_none f = record {
  long = length-replicate 8 0ℚ;
  at = λ i p. get_or-replicate 8 i 0ℚ 0ℚ p ∙ sym (when_false (ltb i 0) (f i) (grind (arith, nat_tests)));
}

-- The entries of the indices before n are set.
pub record IsSet (n seed dim : ℕ) (t : Lists) : Type 0 where
  pub dim_is : t.dim ≡ dim
  pub a : IsDiagonal n (λ i. whole (1 + draw seed (4 * i) % 3)) t.a
  pub b : IsDiagonal n (λ i. whole (1 + draw seed (4 * i + 1) % 3)) t.b
  pub c : IsDiagonal n (λ i. whole (draw seed (4 * i + 2) % 2)) t.c
  pub d : IsRow n (λ i. pos (1 + draw seed (4 * i + 3) % 7) /ℚ 8) t.d

pub set_none : (seed dim : ℕ) → IsSet 0 seed dim (zero_lists dim)
unfolding zero_lists
set_none seed dim = record { dim_is = refl; a = diagonal_none _; b = diagonal_none _; c = diagonal_none _; d = row_none _ }

pub set_next : (n seed dim : ℕ) (t : Lists) (a b c d : ℚ) → n < 8 → a ≡ whole (1 + draw seed (4 * n) % 3) → b ≡ whole (1 + draw seed (4 * n + 1) % 3) → c ≡ whole (draw seed (4 * n + 2) % 2) → d ≡ pos (1 + draw seed (4 * n + 3) % 7) /ℚ 8 → IsSet n seed dim t → IsSet (n + 1) seed dim (with_diagonal t n a b c d)
unfolding with_diagonal
set_next n seed dim t a b c d small p q r s h = record {
  dim_is = h.dim_is;
  a = diagonal_next n _ t.a a small p h.a;
  b = diagonal_next n _ t.b b small q h.b;
  c = diagonal_next n _ t.c c small r h.c;
  d = row_next n _ t.d d small s h.d;
}

pub set_all : (seed dim : ℕ) (t : Lists) → dim ≤ 8 → IsSet dim seed dim t → SameEntries (listed t) (diagonal seed dim)
unfolding listed diagonal
set_all seed dim t most h = record {
  dim = h.dim_is;
  shape = refl;
  A = λ i j k p q r. h.a.at i j k (below i p) (below j q) (below k r) ∙ when_true (ltb i dim) _ (lt-ltb i dim (within i p));
  B = λ i j k p q r. h.b.at i j k (below i p) (below j q) (below k r) ∙ when_true (ltb i dim) _ (lt-ltb i dim (within i p));
  C = λ i j k p q r. h.c.at i j k (below i p) (below j q) (below k r) ∙ when_true (ltb i dim) _ (lt-ltb i dim (within i p));
  D = λ i p. h.d.at i (below i p) ∙ when_true (ltb i dim) _ (lt-ltb i dim (within i p));
}
  where
    within : (n : ℕ) → n < t.dim → n < dim
    within n p = subst (λ d. n < d) h.dim_is p

    below : (n : ℕ) → n < t.dim → n < 8
    below n p = let q = within n p in omega arith
