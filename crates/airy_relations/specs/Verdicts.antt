-- What a check finds: the verdict of the first place that isn't fine.
use Prim.Native.Nat.{ℕ}
use mathlib.Core.Bool.{cond}
use mathlib.Core.List.{List, [], ◌∷◌}
use Rattle.std.specs.Prelude.{Option, Some, None}
use Rattle.airy_math.specs.Rational.{ℚ}
use Rattle.airy_math.specs.Tensors.{Tensors, same_number}
use Rattle.airy_relations.specs.Sides.{obtained_side}
use Rattle.airy_relations.specs.Places.{Place, indices, places}
pub use Rattle.airy_relations.specs.declared.verdict.Verdict.{Verdict}
pub use Rattle.airy_relations.specs.declared.verdict.Verdict.TheVariants.{Closed, Differs, Over}

-- The verdict of a place with these two sides: it is fine where both are obtained and equal.
unfoldable pub compared : Place → Option ℚ → Option ℚ → Verdict
compared p (Some x) (Some y) = cond (same_number x y) Closed (Differs p.rel (indices p) x y)
compared p (Some x) None = Over p.rel (indices p)
compared p None y = Over p.rel (indices p)

-- the left side as it is written, the right one with i and j exchanged
unfoldable pub verdict_at : Tensors → Place → Verdict
verdict_at T p = compared p (obtained_side T p.rel p.i p.j p.k p.l) (obtained_side T p.rel p.j p.i p.k p.l)

unfoldable pub or_later : Verdict → Verdict → Verdict
or_later Closed v = v
or_later (Differs rel place left right) v = Differs rel place left right
or_later (Over rel place) v = Over rel place

-- the first verdict that isn't Closed, else Closed
unfoldable pub first_over : {A : Type 0} → List A → (A → Verdict) → Verdict
first_over [] f = Closed
first_over (x ∷ xs) f = or_later (f x) (first_over xs f)

-- the verdict on all places below N
unfoldable pub verdict : Tensors → ℕ → Verdict
verdict T N = first_over (places N) (verdict_at T)
