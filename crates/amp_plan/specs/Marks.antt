-- Ranks that were named, each once.
use Prim.Native.Nat.{ℕ, ◌<◌, ◌≤◌}
use mathlib.Core.Path.{◌≡◌, refl}
use mathlib.Core.Bool.{true, cond}
use mathlib.Core.List.{List, [], ◌∷◌, ◌++◌}
use lib.Dec.{eqb}
use lib.ListN.{length, get_or}
use Rattle.std.specs.Coded.{Coded, code_by, coded×, coded_ℕ, coded_list}
use Rattle.airy_math.specs.Keys.{times}
use Rattle.airy_math.specs.Tensors.{Tensors}
use Rattle.airy_math.specs.Planned.{planned}
use Rattle.amp_plan.specs.Needs.{has, needs_rank}
use Rattle.amp_plan.specs.Rows.{IsRow}
use Rattle.amp_plan.specs.Ranked.{RankedTerm, ranks_of}

-- the list with the number at its end, where it isn't there yet
unfoldable pub with_new : List ℕ → ℕ → List ℕ
with_new row q = cond (has q row) row (row ++ q ∷ [])

-- the list with each of the numbers
unfoldable pub with_all_new : List ℕ → List ℕ → List ℕ
with_all_new row [] = row
with_all_new row (q ∷ qs) = with_all_new (with_new row q) qs

-- The ranks that were named so far, of as many ranks as the size says. The stamp tells the rows apart.
pub record Marks : Type 0 where
  pub row : List ℕ
  pub size : ℕ
  pub stamp : ℕ

abbrev pub marks_code : Coded Marks
marks_code = code_by (List ℕ × (ℕ × ℕ)) (coded× (coded_list coded_ℕ) (coded× coded_ℕ coded_ℕ))
    (λ m. (m.row, (m.size, m.stamp)))
    (λ p. record { row = p.0; size = p.1.0; stamp = p.1.1 }) (λ _. refl)

-- the marks with those ranks, too
unfoldable pub marked : Marks → List ℕ → Marks
marked m qs = record m { row = with_all_new m.row qs }

unfoldable pub marked_term : Marks → RankedTerm → Marks
marked_term m t = marked m (ranks_of t)

-- What a marker keeps: a rank is stamped where it stands in the row, and there is room in the row for each rank.
pub record IsMarked (stamps : List ℕ) (stamp capacity : ℕ) (row : List ℕ) : Type 0 where
  pub old : (q : ℕ) → get_or stamps q 0 ≤ stamp
  pub stamped : (q : ℕ) → q < length stamps → eqb stamp (get_or stamps q 0) ≡ has q row
  pub within : (q : ℕ) → has q row ≡ true → q < length stamps
  pub counted : length row ≡ times stamp stamps
  pub room : length stamps ≤ capacity

-- The ranks that the terms of the key of rank r name at its least index, each once.
pub record AreNamed (T : Tensors) (X r : ℕ) (ranks : List ℕ) : Type 0 where
  pub row : IsRow (length (planned T X)) ranks
  pub named : (q : ℕ) → has q ranks ≡ needs_rank T X r q
