-- What a shape covers, by numbers alone: the genus, the number of places and the sum of the indices.
use Rattle.std.specs.Prelude.{◌≡◌, ℕ, Bool, true, length, pos}
use lib.Signed.{le_z}
use Rattle.airy_math.specs.Keys.{Key, total}
use Rattle.airy_math.specs.Shapes.{law_number, eq_z, covers}
use Rattle.airy_math.specs.declared.Shape.{Shape}
use Rattle.airy_math.specs.declared.Shape.TheVariants.{All, Exact, AtMost}

-- whether the shape covers the keys of genus g with n places and the sum s
unfoldable pub covers_sum : Shape → ℕ → ℕ → ℕ → Bool
covers_sum All g n s = true
covers_sum (Exact l) g n s = eq_z (pos s) (law_number l g n)
covers_sum (AtMost l) g n s = le_z (pos s) (law_number l g n)

-- A shape covers a key where it covers the key's genus, number of places and sum.
abbrev pub CoversBySum : Type 0
CoversBySum = (s : Shape) (key : Key) → covers s key ≡ covers_sum s key.g (length key.idx) (total key.idx)
