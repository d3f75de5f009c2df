-- Where the relations hold, no place is found to differ.
use Prim.Native.Nat.{ℕ}
use Rattle.airy_math.specs.Relations.{Close}
use Rattle.airy_math.specs.Tensors.{Tensors, IsSymmetric}
use Rattle.airy_relations.specs.Verdicts.{Verdict, Closed, Differs, Over, verdict}

-- The verdict isn't Differs.
unfoldable pub FindsNoDifference : Verdict → Type 0
FindsNoDifference Closed = Unit
FindsNoDifference (Differs rel place left right) = ⊥
FindsNoDifference (Over rel place) = Unit

-- Of symmetric tensors that meet the relations in all places below N, the verdict on these places is never Differs.
abbrev pub NoDifferenceLaw : Type 0
NoDifferenceLaw = (T : Tensors) (N : ℕ) → IsSymmetric T → Close T N → FindsNoDifference (verdict T N)
