-- The tensors that are filled for wk and bgw are theirs.
use Rattle.std.proofs.Common.{◌≡◌, ℕ, zero, suc, ◌+◌, ◌-◌, ◌*◌, ◌^◌, ◌<◌, ◌≤◌, ◌⊎◌, inl, inr, Bool, true, false, ◌&&◌, cond, eqb, refl, sym, ap, ap₂, ◌∙◌, arith, pos, ◌-ℤ◌}
use Rattle.std.proofs.lemmas.Int.{ints}
use Rattle.std.proofs.lemmas.List.{get_or-set_other, get_or-set_same, length-replicate}
use Rattle.std.proofs.lemmas.Bool.{cases_eq, eq-eqb, lt-ltb}
use Rattle.std.proofs.lemmas.Bool.Decides.{nat_tests}
use Rattle.airy_math.specs.Curves.{entry}
use Rattle.airy_math.specs.Obtained.{fits, obtained_product}
use Rattle.airy_math.proofs.ConstraintLemmas.{whole-zero}
use Rattle.airy_math.proofs.SumLemmas.{*ℚ-0ℚ, 0ℚ_idr, 1ℚ_idr, when_true, when_false}
use Rattle.std.specs.Prelude.{Option, Some, None, Result, Ok, Err, OnOk, get_or, min, max, replicate, set}
use Rattle.std.specs.Int.Signed.{le_z_yes}
use Rattle.airy_math.specs.Rational.{ℚ, ◌+ℚ◌, ◌*ℚ◌, ◌/ℚ◌, whole, lowest_parts, lowest_whole}
use Rattle.airy_math.specs.RationalLaws.{0ℚ, 0ℚ_idl, 1ℚ}
use Rattle.airy_math.specs.Sums.{when}
use Rattle.airy_math.specs.Named.{wk, bgw, wk_shape}
use Rattle.airy_math.specs.Shapes.{per_g, per_n}
use Rattle.sparse_tensor.specs.Entries.{Entries, no_entries, looked_up, value_at}
use Rattle.sparse_tensor.specs.Grades.{IsSmallLaw, keeps, keeps_a, keeps_b, keeps_c, keeps_d}
use Rattle.sparse_tensor.proofs.GradeLemmas.{eq_z-same}
use Rattle.airy_curve.specs.Storing.{IsBegun}
use Rattle.named_families.specs.Exact.{exact_shape, exact_b, exact_c, exact_d, single, IsFilled}
use Rattle.named_families.specs.Families.{StandsFor}
use Rattle.airy_curve.specs.Filling as curves
use Rattle.airy_curve.specs.Numbers.{held}
use Rattle.airy_math.specs.declared.Shape.{Shape}
use Rattle.airy_curve.specs.Filling.{exponent_of, Fits, HasRoom}
use Rattle.airy_curve.specs.Steps.{entry_refusal, place_refusal, plane_refusal, row_refusal, unless_obtained}
use Rattle.airy_curve.proofs.FillingLaw.{at, entry-at, exponent-here, exponent-some, named, place-at}
use Rattle.airy_curve.proofs.StepLemmas.{first_none}
use Rattle.airy_curve.proofs.ValueLemmas.{different}
use Rattle.airy_math.proofs.PivotLaw.{when-of_zero}

-- ---- filling

pub single_held : (e : ℕ) (z o : ℚ) → e ≤ 72 → z ≡ 0ℚ → o ≡ 1ℚ → held (set (replicate 73 z) e o) ≡ single e
unfolding held single
single_held e z o h none one = λ i k. by k (cases_eq k e) i
  where
    zeros : (n k : ℕ) → get_or (replicate n z) k 0ℚ ≡ 0ℚ
    zeros zero k = refl
    zeros (suc n) zero = none
    zeros (suc n) (suc k) = zeros n k

    by : (k : ℕ) → (k ≡ e) ⊎ (k ≡ e → ⊥) → get_or (set (replicate 73 z) e o) k 0ℚ ≡ when (eqb k e) 1ℚ
    by k (inl same) = ap (λ m. get_or (set (replicate 73 z) e o) m 0ℚ) same ∙ get_or-set_same (replicate 73 z) e o 0ℚ (omega (arith, length-replicate 73 z)) ∙ one ∙ sym (when_true (eqb k e) 1ℚ (eq-eqb k e same))
    by k (inr other) = get_or-set_other (replicate 73 z) e k o 0ℚ other ∙ zeros 73 k ∙ sym (when_false (eqb k e) 1ℚ (different k e other))

fits_of : (n : ℕ) → n < 256 → fits (pos n) ≡ true
unfolding fits
fits_of n h = lt-ltb n (2 ^ 127) (omega arith)

-- a small whole number is obtained
small_product : (x y : ℚ) (n : ℕ) → n < 256 → x *ℚ y ≡ whole n → obtained_product x y ≡ Some (whole n)
unfolding obtained_product whole
small_product x y n h e =
    let parts = lowest_parts (pos n) 1 (lowest_whole (pos n)) in
    let num : fits (pos n /ℚ 1).num ≡ true = ap fits parts.0 ∙ fits_of n h in
    let den : fits (pos (pos n /ℚ 1).den) ≡ true = ap (λ d. fits (pos d)) parts.1 ∙ fits_of 1 (omega arith) in
    ap (λ p. cond (fits p.num && fits (pos p.den)) (Some p) None) e ∙ rw (num, den) refl

-- so no product of the sequence is refused
single_obtained : (e m n : ℕ) → n < 256 → unless_obtained m (obtained_product (whole n) (single e m)) ≡ None
unfolding single unless_obtained when
single_obtained e m n h = by (eqb m e)
  where
    by : (s : Bool) → unless_obtained m (obtained_product (whole n) (when s 1ℚ)) ≡ None
    by true = ap (unless_obtained m) (small_product (whole n) 1ℚ n h (1ℚ_idr (whole n)))
    by false = ap (unless_obtained m) (small_product (whole n) 0ℚ 0 (omega arith) (*ℚ-0ℚ (whole n) ∙ sym whole-zero))

pub single_fine : (e most dim : ℕ) → dim ≤ 72 → entry_refusal (single e) dim most ≡ None
single_fine e most dim small =
    first_none (plane_refusal (single e) dim most) 0 dim
    (λ i l p. first_none (row_refusal (single e) dim most i) 0 dim
    (λ j m q. first_none (place_refusal (single e) most i j) 0 dim
    (λ k n r. place-at (single e) most i j k ∙ by j (omega arith) (exponent_of (k + 1) (i + j) most))))
  where
    by : (j : ℕ) → j < 72 → (o : Option ℕ) → named (single e) j o ≡ None
    by j h (Some m) = single_obtained e m (2 * j + 1) (omega arith)
    by j h None = refl

pub fits_single : (s : ℕ) → s ≤ 1 → Fits (exact_shape s) (single (1 - s)) (1 - s)
unfolding Fits single exact_shape keeps_b keeps_c keeps per_n per_g
fits_single s small e h = at (cases_eq e (1 - s))
  where
    at : (e ≡ 1 - s) ⊎ (e ≡ 1 - s → ⊥) → (when (eqb e (1 - s)) 1ℚ ≡ 0ℚ) ⊎ HasRoom (exact_shape s) e
    at (inl same) = inr (record {
      b = eq_z-same (pos (1 + 0) -ℤ pos e) (pos s) (omega (arith, ints));
      c' = eq_z-same (pos 2 -ℤ pos (0 + e)) (pos (2 * s + 1) -ℤ pos s) (omega (arith, ints));
    })
    at (inr other) = inl (when_false (eqb e (1 - s)) 1ℚ (different e (1 - s) other))

-- the entries with the one exponent
single_entry : (e m n : ℕ) → entry (single e) e m n ≡ when (eqb (n + e) m) 1ℚ
unfolding single
single_entry e m n = entry-at (single e) e m n ∙ by (exponent_of m n e) refl
  where
    by : (o : Option ℕ) → exponent_of m n e ≡ o → at (single e) o ≡ when (eqb (n + e) m) 1ℚ
    by (Some x) h = let is = exponent-some m n e x h in let same : eqb x e ≡ eqb (n + e) m = grind (arith, nat_tests, is.low) in ap (λ t. when t 1ℚ) same
    by None h = sym (when_false (eqb (n + e) m) 1ℚ (different (n + e) m (λ same. exponent-here m n e same h)))

pub one_of : (s : ℕ) → s ≤ 1 → (s ≡ 0 → ⊥) → s ≡ 1
one_of s h n = grind arith

-- two facts of an answer
pub on_ok_both : {T E P Q S : Type 0} (R : Result T E) → (P → Q → S) → OnOk R P → OnOk R Q → OnOk R S
on_ok_both (Ok x) f p q = f p q
on_ok_both (Err e) f p q = tt

pub fits_d : (s : ℕ) (shape : Shape) (v : ℚ) → shape ≡ exact_shape s → curves.FitsD shape s v
unfolding curves.FitsD keeps_d exact_shape keeps per_n
fits_d s shape v e = inr (ap (λ x. keeps_d x s) e ∙ eq_z-same (pos s) (pos s) refl)

-- the entry of D stands at 0 or 1
pub d_first : (s : ℕ) (x y : ℚ) → s ≡ 0 → x ≡ pos 1 /ℚ 8 → y ≡ 0ℚ → (i : ℕ) → when (eqb i 0) x +ℚ when (eqb i 1) y ≡ exact_d s i
unfolding exact_d
d_first s x y at e none i = ap₂ (λ a b. when (eqb i 0) a +ℚ b) e (when-of_zero (eqb i 1) y none) ∙ 0ℚ_idr _ ∙ ap (λ n. when (eqb i n) (pos 1 /ℚ 8)) (sym at)

pub d_second : (s : ℕ) (x y : ℚ) → s ≡ 1 → x ≡ 0ℚ → y ≡ pos 1 /ℚ 8 → (i : ℕ) → when (eqb i 0) x +ℚ when (eqb i 1) y ≡ exact_d s i
unfolding exact_d
d_second s x y at none e i = ap₂ (λ a b. a +ℚ when (eqb i 1) b) (when-of_zero (eqb i 0) x none) e ∙ 0ℚ_idl _ ∙ ap (λ n. when (eqb i n) (pos 1 /ℚ 8)) (sym at)

pub filled : (s : ℕ) (x y : ℚ) (t₁ t₂ t₃ : Entries) → s ≤ 1 → curves.IsFilled (single (1 - s)) (1 - s) t₁ t₂ → t₃ ≡ record t₂ { d = t₃.d } → curves.FillsD x y t₃ → ((i : ℕ) → when (eqb i 0) x +ℚ when (eqb i 1) y ≡ exact_d s i) → IsFilled s t₁ t₃
unfolding looked_up curves.FillsD curves.entry_b curves.entry_c exact_b exact_c
filled s x y t₁ t₂ t₃ small fill e d values =
    let others : t₃ ≡ record t₁ { b = t₂.b; c = t₂.c; d = t₃.d } = e ∙ ap (λ (t : Entries). record t { d = t₃.d }) fill.others in
    let dim : t₃.dim ≡ t₁.dim = ap (λ (t : Entries). t.dim) others in
    record {
      dim_is = dim;
      shape_is = ap (λ (t : Entries). t.shape) others;
      letter_is = ap (λ (t : Entries). t.letter) others;
      a_is = ap (λ (t : Entries). t.a) others;
      B = λ i j k p q r. ap (λ (t : Entries). value_at t.b i j k) others ∙ fill.b i j k (omega arith) (omega arith) (omega arith) ∙ ap (λ v. whole (2 * j + 1) *ℚ v) (single_entry (1 - s) (k + 1) (i + j)) ∙ times (whole (2 * j + 1)) (i + j + (1 - s)) (k + 1) (i + j) (k + s) (omega arith) (omega arith);
      C = λ i j k p q r. ap (λ (t : Entries). value_at t.c i (min j k) (max j k)) others ∙ fill.c' i j k (omega arith) (omega arith) (omega arith) ∙ single_entry (1 - s) (j + k + 2) i ∙ ap (λ t. when t 1ℚ) (grind (arith, nat_tests));
      D = λ i p. d i p ∙ values i;
    }
  where
    times : (v : ℚ) (a b a' b' : ℕ) → (a ≡ b → a' ≡ b') → (a' ≡ b' → a ≡ b) → v *ℚ when (eqb a b) 1ℚ ≡ when (eqb a' b') v
    times v a b a' b' f g = at (cases_eq a b)
      where
        at : (a ≡ b) ⊎ (a ≡ b → ⊥) → v *ℚ when (eqb a b) 1ℚ ≡ when (eqb a' b') v
        at (inl e) = ap (λ u. v *ℚ u) (when_true (eqb a b) 1ℚ (eq-eqb a b e)) ∙ 1ℚ_idr v ∙ sym (when_true (eqb a' b') v (eq-eqb a' b' (f e)))
        at (inr e) = ap (λ u. v *ℚ u) (when_false (eqb a b) 1ℚ (different a b e)) ∙ *ℚ-0ℚ v ∙ sym (when_false (eqb a' b') v (different a' b' (λ h. e (g h))))

-- ---- wk

pub small_wk : IsSmallLaw wk_shape
unfolding IsSmallLaw wk_shape
small_wk = (le_z_yes tt, le_z_yes tt, le_z_yes tt, le_z_yes tt)

pub graded_wk : keeps_a wk_shape 0 0 0 ≡ true
unfolding keeps_a keeps wk_shape per_n per_g
graded_wk = eq_z-same (pos 0) (pos 0) refl

pub wk_shape-exact : wk_shape ≡ exact_shape 1
unfolding wk_shape exact_shape
wk_shape-exact = refl

pub stands_wk : (dim : ℕ) (t t' : Entries) → 0 < dim → IsBegun dim wk_shape false t → IsFilled 1 t t' → StandsFor t' (wk (dim - 1))
unfolding looked_up wk exact_b exact_c exact_d
stands_wk dim t t' some begin fill =
    let dim_is : t'.dim ≡ dim = fill.dim_is ∙ begin.dim_is in
    record {
      entries = record {
        dim = omega arith;
        shape = fill.shape_is ∙ begin.shape_is;
        A = λ i j k p q r. ap (λ es. value_at es i (min j k) (max j k)) fill.a_is ∙ begin.a_is i j k;
        B = fill.B;
        C = λ i j k p q r. fill.C i j k p q r ∙ ap (λ n. when (eqb i n) 1ℚ) (two j k);
        D = fill.D;
      };
      letter = fill.letter_is ∙ begin.letter_is;
    }
  where
    two : (j k : ℕ) → j + k + 1 + 1 ≡ j + k + 2
    two j k = omega arith

-- ---- bgw

pub small_bgw : IsSmallLaw (exact_shape 0)
unfolding IsSmallLaw exact_shape
small_bgw = (le_z_yes tt, le_z_yes tt, le_z_yes tt, le_z_yes tt)

pub stands_bgw : (dim : ℕ) (t t' : Entries) → 0 < dim → t ≡ no_entries dim (exact_shape 0) false → IsFilled 0 t t' → StandsFor t' (bgw (dim - 1))
unfolding looked_up value_at no_entries bgw exact_b exact_c exact_d exact_shape
stands_bgw dim t t' some none fill =
    let dim_is : t'.dim ≡ dim = fill.dim_is ∙ ap (λ (u : Entries). u.dim) none in
    record {
      entries = record {
        dim = omega arith;
        shape = fill.shape_is ∙ ap (λ (u : Entries). u.shape) none;
        A = λ i j k p q r. ap (λ es. value_at es i (min j k) (max j k)) (fill.a_is ∙ ap (λ (u : Entries). u.a) none);
        B = λ i j k p q r. fill.B i j k p q r ∙ ap (λ n. when (eqb (i + j) n) (whole (2 * j + 1))) (plus k);
        C = λ i j k p q r. fill.C i j k p q r ∙ ap (λ n. when (eqb i n) 1ℚ) (one j k);
        D = fill.D;
      };
      letter = fill.letter_is ∙ ap (λ (u : Entries). u.letter) none;
    }
  where
    plus : (k : ℕ) → k + 0 ≡ k
    plus k = omega arith

    one : (j k : ℕ) → j + k + 0 + 1 ≡ j + k + 1
    one j k = omega arith
