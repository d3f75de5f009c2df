-- The structure constants of the operators, and what the verdict on all places says of the operators.
use Prim.Native.Nat.{ℕ, ◌<◌}
use mathlib.Core.Path.{◌≡◌}
use Rattle.std.specs.Prelude.{Option}
use Rattle.airy_math.specs.Obtained.{obtained_sum}
use Rattle.airy_math.specs.Rational.{ℚ, neg_ℚ}
use Rattle.airy_math.specs.Tensors.{Tensors}
use Rattle.airy_relations.specs.declared.verdict.Verdict.{Verdict}
use Rattle.airy_relations.specs.declared.verdict.Verdict.TheVariants.{Closed, Differs, Over}
use Rattle.airy_closing.specs.Closing.{IsBracket, OperatorsClose, structure_constant}

-- the same number in 128 bits, where the sum is obtained
unfoldable pub obtained_constant : Tensors → ℕ → ℕ → ℕ → Option ℚ
obtained_constant T i j a = obtained_sum (T.B i j a) (neg_ℚ (T.B j i a))

-- x is the structure constant f_a of the operators i and j: no other number can stand at a. With i and j exchanged its sign turns.
pub record IsConstant (T : Tensors) (i j a : ℕ) (x : ℚ) : Type 0 where
  pub value : x ≡ structure_constant T i j a
  pub only : (f : ℕ → ℚ) → IsBracket T i j f → f a ≡ x
  pub turned : structure_constant T j i a ≡ neg_ℚ x

-- the operators close by their structure constants
unfoldable pub CloseByConstants : Tensors → Type 0
CloseByConstants T = (i j : ℕ) → i < T.dim → j < T.dim → IsBracket T i j (structure_constant T i j)

-- What the verdict on all places says of the operators: at Closed they close, at Differs they do not.
unfoldable pub TellsClosing : Tensors → Verdict → Type 0
TellsClosing T Closed = OperatorsClose T
TellsClosing T (Differs rel place left right) = OperatorsClose T → ⊥
TellsClosing T (Over rel place) = Unit
