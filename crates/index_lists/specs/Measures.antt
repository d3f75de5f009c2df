-- What a walk carries of a list of indices in place of the list: its length, its excess and its code.
use Prim.Native.Nat.{ℕ, ◌+◌, ◌-◌, ◌≤◌, ◌<◌, ◌^◌}
use mathlib.Core.Path.{◌≡◌}
use mathlib.Core.Bool.{Bool, true}
use mathlib.Core.List.{List, [], ◌∷◌}
use lib.ListN.{length}
use lib.IntN.{ℤ, pos, ◌+ℤ◌, ◌-ℤ◌, ◌*ℤ◌}
use lib.Signed.{le_z}
use Rattle.std.specs.Int.RustNames.{unsigned_abs}
use Rattle.airy_math.specs.Cuts.{natural}
use Rattle.airy_math.specs.Shapes.{eq_z}
use Rattle.airy_math.specs.declared.Shape.{Shape}
use Rattle.airy_math.specs.declared.Shape.TheVariants.{All, Exact, AtMost}
use Rattle.key_index.specs.Codes.{code_of_list}
use Rattle.index_lists.specs.declared.measure.Measure.{Measure}

-- the excess of a list: its sum less c for each of its indices
unfoldable pub excess : ℤ → List ℕ → ℤ
excess c [] = pos 0
excess c (x ∷ xs) = (pos x -ℤ c) +ℤ excess c xs

-- the most that a part of the list can have as its excess
unfoldable pub gain : ℤ → List ℕ → ℕ
gain c [] = 0
gain c (x ∷ xs) = natural (pos x -ℤ c) + gain c xs

-- and the most by which the excess of a part can be below 0
unfoldable pub loss : ℤ → List ℕ → ℕ
loss c [] = 0
loss c (x ∷ xs) = natural (c -ℤ pos x) + loss c xs

-- the excess that a law wants of the keys of genus g: per_g (g - 1). Without a law it is more than any list has
unfoldable pub law_excess : Shape → ℕ → ℤ
law_excess All g = pos (2 ^ 20)
law_excess (Exact l) g = l.per_g *ℤ (pos g -ℤ pos 1)
law_excess (AtMost l) g = l.per_g *ℤ (pos g -ℤ pos 1)

-- whether the shape covers the keys of genus g with the excess
unfoldable pub covers_excess : Shape → ℕ → ℤ → Bool
covers_excess All g e = true
covers_excess (Exact l) g e = eq_z e (law_excess (Exact l) g)
covers_excess (AtMost l) g e = le_z e (law_excess (AtMost l) g)

-- The measure of a list.
pub record IsMeasured (c : ℤ) (xs : List ℕ) (m : Measure) : Type 0 where
  pub places : m.places ≡ length xs
  pub excess : m.excess ≡ excess c xs
  pub code : m.code ≡ code_of_list xs

-- the measure of two lists together
abbrev pub both_measured : Measure → Measure → Measure
both_measured m n = record { places = m.places + n.places; excess = m.excess +ℤ n.excess; code = m.code + n.code }

-- the measure of a list without a part of it
abbrev pub rest_measured : Measure → Measure → Measure
rest_measured m n = record { places = m.places - n.places; excess = m.excess -ℤ n.excess; code = m.code - n.code }

-- A measure that is small enough to be added to another.
pub record IsLight (m : Measure) : Type 0 where
  pub places : m.places ≤ 60
  pub excess : unsigned_abs m.excess ≤ 2 ^ 30
  pub code : m.code < 2 ^ 63
