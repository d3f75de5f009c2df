-- The tensors that are filled of a sequence are those of its curve.
use Rattle.std.proofs.Common.{◌≡◌, ℕ, ◌+◌, inr, Bool, true, eqb, refl, ap, ◌∙◌, arith, pos, ◌-ℤ◌, ◌≤ℤ◌, ℤ}
use Rattle.std.specs.Prelude.{min, max}
use Rattle.std.specs.Int.Signed.{le_z, le_z_yes}
use Rattle.std.proofs.lemmas.Int.{ints}
use Rattle.airy_math.specs.Rational.{ℚ, ◌*ℚ◌, ◌+ℚ◌, ◌/ℚ◌}
use Rattle.airy_math.specs.Sums.{when}
use Rattle.airy_math.specs.Curves.{curve, curve_shape}
use Rattle.airy_math.specs.Shapes.{per_g, per_n}
use Rattle.airy_math.specs.Tensors.{SameEntries}
use Rattle.airy_math.proofs.SolutionLaw.{T_true}
use Rattle.sparse_tensor.specs.Entries.{Entries, looked_up, value_at}
use Rattle.sparse_tensor.specs.Grades.{IsSmallLaw, IsAtMost, keeps, keeps_a, keeps_b, keeps_c, keeps_d}
use Rattle.airy_curve.specs.Filling.{entry_b, entry_c, FillsD, Fits, FitsD, IsFilled}
use Rattle.airy_curve.specs.Storing.{IsBegun}

-- ---- the law

le-true : (x y : ℤ) → x ≤ℤ y → le_z x y ≡ true
le-true x y h = T_true (le_z x y) h.le

pub small_curve : IsSmallLaw curve_shape
unfolding IsSmallLaw curve_shape
small_curve = (le_z_yes tt, le_z_yes tt, le_z_yes tt, le_z_yes tt)

pub room_curve : IsAtMost curve_shape
unfolding IsAtMost curve_shape
room_curve = tt

pub graded_curve : keeps_a curve_shape 0 0 0 ≡ true
unfolding keeps_a keeps curve_shape per_n per_g
graded_curve = refl

pub fits_curve : (f : ℕ → ℚ) (most : ℕ) → Fits curve_shape f most
unfolding Fits keeps_b keeps_c keeps curve_shape per_n per_g
fits_curve f most e h = inr (record { b = le-true (pos (1 + 0) -ℤ pos e) (pos 1) (omega (arith, ints)); c' = le-true (pos 2 -ℤ pos (0 + e)) (pos 3 -ℤ pos 1) (omega (arith, ints)) })

pub fits_curve-0 : (v : ℚ) → FitsD curve_shape 0 v
unfolding FitsD keeps_d keeps curve_shape per_n
fits_curve-0 v = inr refl

pub fits_curve-1 : (v : ℚ) → FitsD curve_shape 1 v
unfolding FitsD keeps_d keeps curve_shape per_n
fits_curve-1 v = inr refl

-- ---- the whole

pub filled : (f : ℕ → ℚ) (dim most : ℕ) (letter : Bool) (v w : ℚ) (t₁ t₂ t₃ : Entries) → IsBegun dim curve_shape letter t₁ → IsFilled f most t₁ t₂ → t₃ ≡ record t₂ { d = t₃.d } → FillsD v w t₃ → v ≡ f 1 *ℚ (pos 1 /ℚ 8) → w ≡ pos 1 /ℚ 8 → SameEntries (looked_up t₃) (curve f dim most)
unfolding looked_up curve FillsD entry_b entry_c
filled f dim most letter v w t₁ t₂ t₃ begin fill e d value eighth =
    let others : t₃ ≡ record t₁ { b = t₂.b; c = t₂.c; d = t₃.d } = e ∙ ap (λ (t : Entries). record t { d = t₃.d }) fill.others in
    let dim₃ : t₃.dim ≡ t₁.dim = ap (λ (t : Entries). t.dim) others in
    record {
      dim = dim₃ ∙ begin.dim_is;
      shape = ap (λ (t : Entries). t.shape) others ∙ begin.shape_is;
      A = λ i j k p q r. ap (λ (t : Entries). value_at t.a i (min j k) (max j k)) others ∙ begin.a_is i j k;
      B = λ i j k p q r. ap (λ (t : Entries). value_at t.b i j k) others ∙ fill.b i j k (omega arith) (omega arith) (omega arith);
      C = λ i j k p q r. ap (λ (t : Entries). value_at t.c i (min j k) (max j k)) others ∙ fill.c' i j k (omega arith) (omega arith) (omega arith);
      D = λ i p. d i p ∙ ap (λ x. when (eqb i 0) x +ℚ when (eqb i 1) w) value ∙ ap (λ x. when (eqb i 0) (f 1 *ℚ (pos 1 /ℚ 8)) +ℚ when (eqb i 1) x) eighth;
    }
