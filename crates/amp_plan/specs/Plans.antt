-- A plan: tensors and a bound on the Euler number. Its keys are the planned keys in order, and a key's rank is its place.
use Prim.Native.Nat.{ℕ}
use mathlib.Core.Path.{refl}
use mathlib.Core.List.{List}
use Rattle.std.specs.Coded.{Coded, code_by, coded×, coded_ℕ}
use Rattle.airy_math.specs.Keys.{Key}
use Rattle.airy_math.specs.Planned.{planned}
use Rattle.airy_math.specs.Ranks as ranks
use Rattle.airy_math.specs.Tensors as math
use Rattle.sparse_tensor.specs.Entries.{Entries, entries_code, looked_up}

-- What a plan is made of.
pub record Planning : Type 0 where
  pub tensors : Entries
  pub bound : ℕ

unfoldable pub tensors_of : Planning → math.Tensors
tensors_of p = looked_up p.tensors

-- the planned keys, in order
unfoldable pub keys_of : Planning → List Key
keys_of p = planned (tensors_of p) p.bound

-- the key of a rank
unfoldable pub key_at : Planning → ℕ → Key
key_at p r = ranks.key_at (keys_of p) r

-- the rank of a planned key
unfoldable pub rank_at : Planning → Key → ℕ
rank_at p key = ranks.place_of key (keys_of p)

abbrev pub planning_code : Coded Planning
planning_code = code_by (Entries × ℕ) (coded× entries_code coded_ℕ) (λ p. (p.tensors, p.bound))
    (λ p. record { tensors = p.0; bound = p.1 }) (λ _. refl)
