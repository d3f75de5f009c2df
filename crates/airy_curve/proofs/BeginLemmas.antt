-- Tensors with the entry of A alone.
use Rattle.std.proofs.Common.{◌≡◌, ℕ, zero, suc, ◌<◌, ◌≤◌, inl, inr, Bool, true, ◌&&◌, eqb, refl, sym, ap, ◌∙◌, arith}
use Rattle.std.specs.Prelude.{min, max}
use Rattle.airy_math.specs.RationalLaws.{0ℚ, 1ℚ}
use Rattle.airy_math.specs.Sums.{when}
use Rattle.airy_math.specs.declared.Shape.{Shape}
use Rattle.sparse_tensor.specs.Entries.{Entries, no_entries, looked_up, value_at, with_entry}
use Rattle.sparse_tensor.specs.Grades.{IsSmallLaw, IsAtMost, keeps_a}
use Rattle.sparse_tensor.specs.Puts.{Free, putting_a, with_a}
use Rattle.sparse_tensor.proofs.PutLaw.{with_a-some}
use Rattle.sparse_tensor.proofs.SoundLaw.{none_kept}
use Rattle.sparse_tensor.proofs.PutFacts.{puts_a, putting_a-free, same_unordered}
use Rattle.airy_curve.specs.Storing.{IsBegun}
use Rattle.airy_curve.proofs.ValueLemmas.{is_zero-1ℚ, and-false, different, cond-when}

-- the entry of A is free
pub free-a : (dim : ℕ) (shape : Shape) (letter : Bool) → 0 < dim → dim ≤ 72 → IsSmallLaw shape → (letter ≡ true → IsAtMost shape) → keeps_a shape 0 0 0 ≡ true → putting_a (no_entries dim shape letter) 0 0 0 1ℚ ≡ Free
unfolding no_entries looked_up value_at
free-a dim shape letter some most law room graded =
    putting_a-free (no_entries dim shape letter) 0 0 0 1ℚ (none_kept dim shape letter some most law room) some some some is_zero-1ℚ graded refl

only_corner : (i j k : ℕ) → same_unordered i j k 0 0 0 ≡ (eqb i 0 && eqb j 0 && eqb k 0)
unfolding same_unordered
only_corner i zero zero = refl
only_corner i zero (suc k) =
    and-false (eqb i 0) (eqb (min 0 (suc k)) 0) (eqb (max 0 (suc k)) 0) (inr (inr (different (max 0 (suc k)) 0 (λ e. omega arith))))
    ∙ sym (and-false (eqb i 0) (eqb 0 0) (eqb (suc k) 0) (inr (inr (different (suc k) 0 (λ e. omega arith)))))
only_corner i (suc j) k =
    and-false (eqb i 0) (eqb (min (suc j) k) 0) (eqb (max (suc j) k) 0) (inr (inr (different (max (suc j) k) 0 (λ e. omega arith))))
    ∙ sym (and-false (eqb i 0) (eqb (suc j) 0) (eqb k 0) (inr (inl (different (suc j) 0 (λ e. omega arith)))))

-- and once it is put, nothing else stands
pub begun : (dim : ℕ) (shape : Shape) (letter : Bool) (t : Entries) → putting_a (no_entries dim shape letter) 0 0 0 1ℚ ≡ Free → t ≡ with_a (no_entries dim shape letter) 0 0 0 1ℚ → IsBegun dim shape letter t
unfolding no_entries looked_up value_at
begun dim shape letter t free e =
    let t₀ = no_entries dim shape letter in
    let whole : t ≡ record t₀ { a = with_entry (record { i = 0; j = min 0 0; k = max 0 0; v = 1ℚ }) t₀.a } = e ∙ sym (with_a-some t₀ 0 0 0 1ℚ is_zero-1ℚ) in
    let entry = (puts_a t₀ 0 0 0 1ℚ free).A in
    record {
      dim_is = ap (λ (u : Entries). u.dim) whole;
      shape_is = ap (λ (u : Entries). u.shape) whole;
      letter_is = ap (λ (u : Entries). u.letter) whole;
      no_b = ap (λ (u : Entries). u.b) whole;
      no_c = ap (λ (u : Entries). u.c) whole;
      no_d = ap (λ (u : Entries). u.d) whole;
      a_is = λ i j k.
          ap (λ (u : Entries). (looked_up u).A i j k) e
          ∙ entry i j k
          ∙ cond-when (same_unordered i j k 0 0 0) 1ℚ 0ℚ refl
          ∙ ap (λ b. when b 1ℚ) (only_corner i j k);
    }
