-- The splits of a list with what a walk needs of each, in their order.
use Prim.Native.Nat.{ℕ, suc, ◌*◌, ◌-◌, ◌%◌, ◌^◌}
use mathlib.Core.Path.{◌≡◌}
use mathlib.Core.Bool.{Bool, false, not}
use mathlib.Core.List.{List, [], ◌∷◌, ◌++◌, map}
use lib.Dec.{eqb}
use Rattle.std.specs.Prelude.{Option, Some, None}
use Rattle.item_chains.specs.Chains.{from_first}
use lib.ListN.{length, drop}
use lib.IntN.{ℤ, pos, ◌+ℤ◌, ◌-ℤ◌}
use Rattle.airy_math.specs.Cuts.{natural}
use Rattle.airy_math.specs.Splits.{Split, splits}
use Rattle.airy_math.specs.Sums.{count_from, each}
use Rattle.airy_index.specs.Choices.{all_splits}
use Rattle.key_index.specs.Codes.{code_of_list}
use Rattle.index_lists.specs.Measures.{excess}
use Rattle.index_lists.specs.Parts.{behind, more_of, no_split, listed}
use Rattle.index_lists.specs.declared.chosen.Chosen.{Chosen}
use Rattle.index_lists.specs.declared.split_list.Listed.{Listed}

-- the number of the chain of the parts with an excess: those of one excess have one chain
unfoldable pub chain : ℤ → ℕ
chain e = natural (e +ℤ pos (2 ^ 29)) % 64

-- the measure of a split's part and its number of ways
unfoldable pub numbers_of : ℤ → Split → Chosen
numbers_of c s = record {
  part = record { places = length s.part; excess = excess c s.part; code = code_of_list s.part };
  ways = s.ways;
  gain = 0;
  loss = 0;
}

-- what is listed of a part with such numbers
unfoldable pub listed_of : Chosen → Listed
listed_of x = record { code = x.part.code; ways = x.ways; excess = x.part.excess; places = x.part.places }

-- the numbers of a part that is listed, of which nothing is left to choose
unfoldable pub chosen_of : Listed → Chosen
chosen_of l = record { part = record { places = l.places; excess = l.excess; code = l.code }; ways = l.ways; gain = 0; loss = 0 }

-- all splits as they are listed, each with its chain
unfoldable pub all_listed : ℤ → List Split → List (ℕ × Listed)
all_listed c ss = map (λ s. (chain (excess c s.part), listed_of (numbers_of c s))) ss

-- These are the splits of a list, as they are listed.
abbrev pub AreListed : ℤ → List ℕ → List (ℕ × Listed) → Type 0
AreListed c I xs = xs ≡ all_listed c (splits I)

-- the numbers of the splits that are passed over on a walk along a chain; without a chain, of none
unfoldable pub is_passed : Option ℕ → ℕ → Bool
is_passed None m = false
is_passed (Some n) m = not (eqb m n)

-- how many splits there are from the first one that is met on
unfoldable pub first_with : {T : Type 0} → Option ℕ → List (ℕ × T) → ℕ
first_with None xs = length xs
first_with (Some n) xs = from_first n xs

-- The answer is the split from which on there are so many, if it is met, with how many there are from the next one that is met on.
abbrev pub MeetsAt : {T : Type 0} → Option ℕ → List (ℕ × T) → ℕ → T × ℕ → Type 0
MeetsAt {T} k xs left r = (before after : List (ℕ × T)) (x : ℕ × T) → before ++ x ∷ after ≡ xs → left ≡ suc (length after) →
    is_passed k x.0 ≡ false → r ≡ (x.1, first_with k after)

-- what is listed of a part without another one, whose ways come on top
unfoldable pub part_without : Listed → Listed → Listed
part_without f x = record { code = x.code - f.code; ways = x.ways * f.ways; excess = x.excess -ℤ f.excess; places = x.places - f.places }

-- the same of all that are listed, each with its chain
unfoldable pub all_without : Listed → List (ℕ × Listed) → List (ℕ × Listed)
all_without f xs = map (λ x. (chain (part_without f x.1).excess, part_without f x.1)) xs

-- the last n of a list
unfoldable pub last_of : {A : Type 0} → ℕ → List A → List A
last_of n xs = drop (length xs - n) xs

-- the split whose part takes all
unfoldable pub full : List (ℕ × ℕ) → Split
full rs = record { part = listed rs; rest = []; ways = 1 }

-- all splits that go on from s with at least t copies of the first run's index
unfoldable pub going_on : Split → List (ℕ × ℕ) → ℕ → List Split
going_on s [] t = s ∷ []
going_on s (r ∷ rs) t = each (count_from t (suc r.1 - t)) λ u. map (behind (more_of s r u)) (all_splits rs)

-- Where the splits that take all copies of the run behind a split were listed, now all that go on from it with the run are.
abbrev pub ListsRun : ℤ → ℕ × ℕ → List (ℕ × Listed) → List (ℕ × Listed) → Type 0
ListsRun c r old new = (s : Split) (rs : List (ℕ × ℕ)) →
    old ≡ all_listed c (going_on (more_of s r r.1) rs 0) → new ≡ all_listed c (going_on s (r ∷ rs) 0)

-- Where the split that takes all of the runs was listed, now all their splits are.
abbrev pub ListsRuns : ℤ → List (ℕ × ℕ) → List (ℕ × Listed) → List (ℕ × Listed) → Type 0
ListsRuns c rs old new = old ≡ all_listed c (full rs ∷ []) → new ≡ all_listed c (going_on no_split rs 0)
