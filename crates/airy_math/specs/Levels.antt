-- The order of the plan: it ascends strictly, and it is made level by level, a level being the keys of one Euler number.
use Prim.Native.Nat.{ℕ, suc, ◌+◌, ◌*◌, ◌-◌, ◌/◌, ◌<◌, ◌≤◌}
use mathlib.Core.Path.{◌≡◌}
use mathlib.Core.Bool.{true, ◌&&◌}
use mathlib.Core.List.{List, [], ◌++◌, map}
use mathlib.Core.Logic.{◌↔◌}
use lib.Dec.{ltb}
use lib.ListN.{length, get_or}
use Rattle.airy_math.specs.Sums.{below, each, keep}
use Rattle.airy_math.specs.Keys.{Key, euler, key_of, before}
use Rattle.airy_math.specs.Shapes.{covers}
use Rattle.airy_math.specs.Tensors.{Tensors}
use Rattle.airy_math.specs.Planned.{planned, lists_from, IsPlanned}
use Rattle.airy_math.specs.Terms.{StandsIn}

-- the Euler number of a key
unfoldable pub euler_of : Key → ℕ
euler_of key = euler key.g (length key.idx)

-- the planned keys of one Euler number, in order
unfoldable pub level : Tensors → ℕ → List Key
level T e =
    each (below (suc (e / 2 + 1))) λ g.
    keep (λ key. ltb 0 (length key.idx) && covers T.shape key) (map (key_of g) (lists_from (e + 2 - 2 * g) 0 T.dim))

-- how many keys of the list are before the key
unfoldable pub number_before : Key → List Key → ℕ
number_before key keys = length (keep (λ k. before k key) keys)

-- Each planned key is before all later ones. So a key's rank is the number of planned keys before it.
pub record Ascends (T : Tensors) (X : ℕ) : Type 0 where
  pub all : (d : Key) (r s : ℕ) → r < s → s < length (planned T X) → before (get_or (planned T X) r d) (get_or (planned T X) s d) ≡ true
  pub ranks : (d : Key) (r : ℕ) → r < length (planned T X) → number_before (get_or (planned T X) r d) (planned T X) ≡ r

-- The plan up to the next bound has one level more, and keeps the ranks of all keys before it.
pub record GrowsByLevels (T : Tensors) (X : ℕ) : Type 0 where
  pub none : planned T 0 ≡ []
  pub next : planned T (suc X) ≡ planned T X ++ level T (suc X)
  pub keys : (key : Key) → StandsIn key (level T (suc X)) ↔ (IsPlanned T (suc X) key × (euler_of key ≡ suc X))
  pub kept : (Y : ℕ) → X ≤ Y → (d : Key) (r : ℕ) → r < length (planned T X) → get_or (planned T Y) r d ≡ get_or (planned T X) r d
  pub ends : (Y : ℕ) → X ≤ Y → (d : Key) (r : ℕ) → r < length (planned T Y)
      → (r < length (planned T X)) ↔ (euler_of (get_or (planned T Y) r d) ≤ X)

abbrev pub AscendsLaw : Type 0
AscendsLaw = (T : Tensors) (X : ℕ) → Ascends T X

abbrev pub LevelsLaw : Type 0
LevelsLaw = (T : Tensors) (X : ℕ) → GrowsByLevels T X
