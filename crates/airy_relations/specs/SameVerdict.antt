-- Two tensors with the same entries have the same verdict.
use Prim.Native.Nat.{ℕ, ◌≤◌}
use mathlib.Core.Path.{◌≡◌}
use Rattle.airy_math.specs.Tensors.{Tensors, SameEntries}
use Rattle.airy_relations.specs.Verdicts.{verdict}

-- The verdict on places below dim looks at no entry with an index that isn't below dim.
abbrev pub SameVerdictLaw : Type 0
SameVerdictLaw = (T T' : Tensors) → SameEntries T T' → (N : ℕ) → N ≤ T.dim → verdict T N ≡ verdict T' N
