-- A text's tensors at their own dim have the entries of the text.
use Prim.Native.Nat.{ℕ, ◌≤◌}
use mathlib.Core.Path.{refl}
use mathlib.Core.List.{[], ◌∷◌}
use native.Mathlib.Omega.{arith}
use Rattle.airy_math.specs.RationalLaws.{1ℚ}
use Rattle.airy_math.specs.Tensors.{Tensors, SameEntries}
use Rattle.airy_math.specs.Cuts.{outer, letter_a, letter_b, letter_c, letter_d}
use Rattle.airy_math.specs.Families.{widened}
use Rattle.airy_math.specs.Jobs.{planned_tensors, tensors_at}
use Rattle.airy_math.specs.OwnTensors.{OwnTensorsLaw}
use Rattle.airy_math.proofs.ExactLaw.{one_inside, outer-none}
use Rattle.airy_math.proofs.BelowDimLaw.{below_dim}

own_entries : (T : Tensors) → SameEntries T (widened T T.dim 1ℚ)
unfolding widened
own_entries T = record {
  dim = refl;
  shape = refl;
  A = λ i j k p q r. one_inside (letter_a T.shape i j k) (outer T.dim (i ∷ j ∷ k ∷ [])) (T.A i j k) (outer-none T.dim (i ∷ j ∷ k ∷ []) (p, (q, (r, tt))));
  B = λ i j k p q r. one_inside (letter_b T.shape i j k) (outer T.dim (i ∷ j ∷ k ∷ [])) (T.B i j k) (outer-none T.dim (i ∷ j ∷ k ∷ []) (p, (q, (r, tt))));
  C = λ i j k p q r. one_inside (letter_c T.shape i j k) (outer T.dim (i ∷ j ∷ k ∷ [])) (T.C i j k) (outer-none T.dim (i ∷ j ∷ k ∷ []) (p, (q, (r, tt))));
  D = λ i p. one_inside (letter_d T.shape i) (outer T.dim (i ∷ [])) (T.D i) (outer-none T.dim (i ∷ []) (p, tt));
}

pub own_tensors : OwnTensorsLaw
unfolding planned_tensors tensors_at
own_tensors T X v f =
    let same = (below_dim T (widened T T.dim 1ℚ) (own_entries T)).solutions X f in
    (λ s. same.1 s.solves, λ s. record { wide = self T.dim; solves = same.0 s })
  where
    self : (m : ℕ) → m ≤ m
    self m = omega arith
