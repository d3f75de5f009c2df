-- A text's solutions at its own dim are the solutions of its own tensors.
use Prim.Native.Nat.{ℕ}
use mathlib.Core.Logic.{◌↔◌}
use Rattle.airy_math.specs.Rational.{ℚ}
use Rattle.airy_math.specs.Tensors.{Tensors}
use Rattle.airy_math.specs.Series.{Series}
use Rattle.airy_math.specs.Solutions.{Solves}
use Rattle.airy_math.specs.Jobs.{IsSolutionOf, Text}

-- At a greater dim `IsSolutionOf` reads the text's tensors as having no further entries; at their own dim it adds nothing.
abbrev pub OwnTensorsLaw : Type 0
OwnTensorsLaw = (T : Tensors) (X : ℕ) (v : ℚ) (f : Series) → IsSolutionOf (Text T) X T.dim v f ↔ Solves T X f
