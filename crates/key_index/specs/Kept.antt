-- What an index of keys keeps.
use Prim.Native.Nat.{ℕ}
use mathlib.Core.Path.{◌≡◌}
use mathlib.Core.Bool.{Bool, true}
use mathlib.Core.List.{List}
use Rattle.airy_math.specs.Keys.{Key}
use Rattle.key_index.specs.Codes.{AreCodes}
use Rattle.key_index.specs.Found.{FindsAll}
use Rattle.key_index.specs.declared.slots.Slot.{Slot}

-- the keys in the order of their ranks, and whether each is found by its code
pub record Index : Type 0 where
  pub keys : List Key
  pub exact : Bool

-- a table of the codes of the indices; and where the index is exact, each key is found
pub record IsIndex (index : Index) (table : List ℕ) (slots : List Slot) (width : ℕ) : Type 0 where
  pub codes : AreCodes table
  pub finds : index.exact ≡ true → FindsAll slots width index.keys
