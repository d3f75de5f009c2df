-- The places of the numbers of brackets, in their order.
use Rattle.std.specs.Prelude.{ℕ, suc, ◌<◌, List, [], ◌++◌, map, Option, Some, None}
use Rattle.airy_math.specs.Sums.{below, each}
use Rattle.airy_relations.specs.Places.{from_to}
use Rattle.airymore.specs.declared.places.Place.{Place}

unfoldable pub place : ℕ → ℕ → ℕ → Place
place i j a = record { i = i; j = j; a = a }

-- those of the bracket of two operators, and those of the brackets of one with all behind it
unfoldable pub of_pair : ℕ → ℕ → ℕ → List Place
of_pair m i j = map (place i j) (below m)

unfoldable pub of_one : ℕ → ℕ → List Place
of_one m i = each (from_to (suc i) m) (of_pair m i)

-- all places with i below j, and i, j and a below m, by i, j and a ascending
unfoldable pub places : ℕ → List Place
places m = each (below m) (of_one m)

-- ---- what the code's parts walk over

abbrev pub IsPlace : ℕ → Place → Type 0
IsPlace m p = (p.i < p.j) × (p.j < m) × (p.a < m)

-- the places from one on
unfoldable pub from : ℕ → Place → List Place
from m p = map (place p.i p.j) (from_to p.a m) ++ (each (from_to (suc p.j) m) (of_pair m p.i) ++ each (from_to (suc p.i) m) (of_one m))

unfoldable pub from_any : ℕ → Option Place → List Place
from_any m None = []
from_any m (Some p) = from m p
