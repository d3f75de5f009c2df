-- Items in order, each with a number.
use Prim.Native.Nat.{ℕ, suc, ◌<◌}
use mathlib.Core.Path.{◌≡◌}
use mathlib.Core.Bool.{cond}
use mathlib.Core.List.{List, [], ◌∷◌, ◌++◌}
use lib.Dec.{eqb}
use lib.ListN.{length, get_or}
use Rattle.item_chains.specs.declared.chains.Linked.{Linked}

-- how many items there are from the first one with the number on, and 0 where none has it
unfoldable pub from_first : {T : Type 0} → ℕ → List (ℕ × T) → ℕ
from_first n [] = 0
from_first n (x ∷ xs) = cond (eqb x.0 n) (suc (length xs)) (from_first n xs)

-- the items, of which the first was put last
unfoldable pub shown : {T : Type 0} → List (Linked T) → List (ℕ × T)
shown [] = []
shown (l ∷ ls) = shown ls ++ (l.number, l.item) ∷ []

-- an item, linked with the next of those behind it that has its number
unfoldable pub linked : {T : Type 0} → ℕ × T → List (ℕ × T) → Linked T
linked x xs = record { item = x.1; number = x.0; next = from_first x.0 xs }

-- all items, each linked, from the last to the first
unfoldable pub all_linked : {T : Type 0} → List (ℕ × T) → List (Linked T)
all_linked [] = []
all_linked (x ∷ xs) = all_linked xs ++ linked x xs ∷ []

-- The items are linked, and the first of each number is known.
pub record IsLinked {T : Type 0} (ls : List (Linked T)) (fs : List ℕ) : Type 0 where
  pub links : ls ≡ all_linked (shown ls)
  pub many : length fs ≡ 64
  pub firsts : (n : ℕ) → n < 64 → get_or fs n 0 ≡ from_first n (shown ls)
