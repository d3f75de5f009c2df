-- For private functions and for proofs: no public contract rests on this file.
-- Splits that go on from another, and the list that runs make.
use Prim.Native.Nat.{ℕ, ◌*◌, ◌-◌}
use mathlib.Core.List.{List, [], ◌∷◌, ◌++◌}
use lib.ListN.{replicate}
use Rattle.airy_math.specs.Splits.{Split}
use Rattle.airy_math.specs.Sums.{binomial}

-- the split, with the other one's lists behind its own
unfoldable pub behind : Split → Split → Split
behind s t = record { part = s.part ++ t.part; rest = s.rest ++ t.rest; ways = s.ways * t.ways }

-- the split, with t of the copies of an index in its part and the others in its rest
unfoldable pub more_of : Split → ℕ × ℕ → ℕ → Split
more_of s r t = record { part = s.part ++ replicate t r.0; rest = s.rest ++ replicate (r.1 - t) r.0; ways = s.ways * binomial r.1 t }

-- nothing is chosen
unfoldable pub no_split : Split
no_split = record { part = []; rest = []; ways = 1 }

-- the list in which each index stands as often as it says
unfoldable pub listed : List (ℕ × ℕ) → List ℕ
listed [] = []
listed (r ∷ rs) = replicate r.1 r.0 ++ listed rs
