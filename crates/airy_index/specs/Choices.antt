-- How the splits of a list come one after the other: its distinct indices with their counts, and how many of each the part takes.
use Rattle.std.specs.Prelude.{◌≡◌, ℕ, suc, ◌-◌, ◌*◌, ◌≤◌, Bool, cond, List, [], ◌∷◌, ◌++◌, map}
use lib.ListN.{replicate}
use Rattle.airy_math.specs.Keys.{total}
use Rattle.airy_math.specs.Splits.{Split}
use Rattle.airy_math.specs.Sums.{below, binomial, count_from, each}
use Rattle.airy_index.specs.declared.runs.Run.{Run}

-- the distinct indices, each with how often it stands in the list
abbrev pub counts_of : List Run → List (ℕ × ℕ)
counts_of rs = map (λ r. (r.index, r.count)) rs

-- the length of the list
unfoldable pub whole_length : List (ℕ × ℕ) → ℕ
whole_length ps = total (map (λ p. p.1) ps)

-- of no index the part takes more than there are
unfoldable pub IsChoice : List Run → Type 0
IsChoice [] = Unit
IsChoice (r ∷ rs) = (r.taken ≤ r.count) × IsChoice rs

-- the part takes nothing
unfoldable pub TakesNone : List Run → Type 0
TakesNone [] = Unit
TakesNone (r ∷ rs) = (r.taken ≡ 0) × TakesNone rs

-- the split, with t of x copies of v put before its part, and the others before its rest
unfoldable pub put_before : ℕ → ℕ → ℕ → Split → Split
put_before v x t s = record { part = replicate t v ++ s.part; rest = replicate (x - t) v ++ s.rest; ways = binomial x t * s.ways }

-- the split of which the part takes what is chosen
unfoldable pub chosen_split : List Run → Split
chosen_split [] = record { part = []; rest = []; ways = 1 }
chosen_split (r ∷ rs) = put_before r.index r.count r.taken (chosen_split rs)

-- the splits of all choices
unfoldable pub all_splits : List (ℕ × ℕ) → List Split
all_splits [] = chosen_split [] ∷ []
all_splits (p ∷ ps) = each (below (suc p.1)) λ t. map (put_before p.0 p.1 t) (all_splits ps)

-- the splits of the choices after this one
unfoldable pub splits_after : List Run → List Split
splits_after [] = []
splits_after (r ∷ rs) =
    map (put_before r.index r.count r.taken) (splits_after rs)
    ++ (each (count_from (suc r.taken) (r.count - r.taken)) λ t. map (put_before r.index r.count t) (all_splits (counts_of rs)))

-- the splits from this choice on, or none at the end
unfoldable pub splits_left : Bool → List Run → List Split
splits_left ended rs = cond ended [] (chosen_split rs ∷ splits_after rs)

-- what a walk over the splits of at most 25 items keeps
pub record IsWalk (rs : List Run) : Type 0 where
  pub choice : IsChoice rs
  pub short : whole_length (counts_of rs) ≤ 25
