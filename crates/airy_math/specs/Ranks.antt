-- The rank of a key: its place in a list of keys; and the ranks of a plan, in the order of keys.
use Prim.Native.Nat.{ℕ, suc, ◌<◌, ◌≤◌}
use mathlib.Core.Path.{◌≡◌}
use mathlib.Core.Bool.{true, false}
use mathlib.Core.List.{List, [], ◌∷◌}
use mathlib.Core.Logic.{◌↔◌}
use lib.ListN.{length, get_or}
use Rattle.airy_math.specs.Keys.{Key, key_of, same_key, before, remove, times}
use Rattle.airy_math.specs.Sums.{each}
use Rattle.airy_math.specs.Terms.{terms, named, needs, StandsIn}
use Rattle.airy_math.specs.Levels.{euler_of, number_before}
use Rattle.airy_math.specs.Tensors.{Tensors}
use Rattle.airy_math.specs.Planned.{planned, IsPlanned}

-- the place of the key in the list, or the list's length
unfoldable pub place_of : Key → List Key → ℕ
place_of key [] = 0
place_of key (k ∷ ks) = elim (same_key key k) [ true ↦ 0 | false ↦ suc (place_of key ks) ]

-- what stands beyond the end of a list of keys
unfoldable pub no_key : Key
no_key = key_of 0 []

-- the key at a rank
unfoldable pub key_at : List Key → ℕ → Key
key_at keys r = get_or keys r no_key

-- The plan lists the planned keys and nothing else, each once; a key's place is its rank.
pub record ListsPlanned (T : Tensors) (X : ℕ) : Type 0 where
  pub all : (key : Key) → IsPlanned T X key → place_of key (planned T X) < length (planned T X)
  pub there : (key : Key) → IsPlanned T X key → key_at (planned T X) (place_of key (planned T X)) ≡ key
  pub only : (r : ℕ) → r < length (planned T X) → IsPlanned T X (key_at (planned T X) r)
  pub once : (r : ℕ) → r < length (planned T X) → place_of (key_at (planned T X) r) (planned T X) ≡ r

abbrev pub PlanLaw : Type 0
PlanLaw = (T : Tensors) (X : ℕ) → ListsPlanned T X

-- A planned key's rank is the number of planned keys before it, ranks ascend with the order of keys, a greater bound keeps them,
-- and the ranks of the keys up to X come first. A key that a term of a planned key names, at any pivot, has a lower rank.
pub record RanksInOrder (T : Tensors) (X : ℕ) : Type 0 where
  pub number : (key : Key) → IsPlanned T X key → place_of key (planned T X) ≡ number_before key (planned T X)
  pub order : (a b : Key) → IsPlanned T X a → IsPlanned T X b → (before a b ≡ true) ↔ (place_of a (planned T X) < place_of b (planned T X))
  pub kept : (Y : ℕ) → X ≤ Y → (key : Key) → IsPlanned T X key → place_of key (planned T Y) ≡ place_of key (planned T X)
  pub named : (key : Key) → IsPlanned T X key → (i : ℕ) → 0 < times i key.idx → (k : Key)
      → StandsIn k (each (terms T i key.g (remove i key.idx)) named) → place_of k (planned T X) < place_of key (planned T X)
  pub needs : (key : Key) → IsPlanned T X key → (k : Key) → StandsIn k (needs T key) → place_of k (planned T X) < place_of key (planned T X)
  pub ends : (Y : ℕ) → X ≤ Y → (key : Key) → IsPlanned T Y key → (place_of key (planned T Y) < length (planned T X)) ↔ (euler_of key ≤ X)

abbrev pub RanksLaw : Type 0
RanksLaw = (T : Tensors) (X : ℕ) → RanksInOrder T X
