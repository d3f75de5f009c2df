-- What a key needs comes before it.
use Prim.Native.Nat.{ℕ, ◌<◌}
use Rattle.airy_math.specs.Sums.{each}
use Rattle.airy_math.specs.Keys.{Key, remove, times}
use Rattle.airy_math.specs.Tensors.{Tensors}
use Rattle.airy_math.specs.Planned.{IsPlanned}
use Rattle.airy_math.specs.Terms.{terms, named, needs, StandsIn, RestsOn}
use Rattle.airy_math.specs.Levels.{euler_of}

-- k is planned up to X and has a smaller Euler number than the key, so it is before it.
pub record ComesFirst (T : Tensors) (X : ℕ) (k key : Key) : Type 0 where
  pub planned : IsPlanned T X k
  pub smaller : euler_of k < euler_of key

-- The keys that the terms of a planned key name at any of its indices come first; so do its needs, and all that it rests on.
pub record NeedsComeFirst (T : Tensors) (X : ℕ) (key : Key) : Type 0 where
  pub terms : (i : ℕ) → 0 < times i key.idx → (k : Key) → StandsIn k (each (terms T i key.g (remove i key.idx)) named)
      → ComesFirst T X k key
  pub needs : (k : Key) → StandsIn k (needs T key) → ComesFirst T X k key
  pub rests : (k : Key) → RestsOn T key k → ComesFirst T X k key

abbrev pub NeedsLaw : Type 0
NeedsLaw = (T : Tensors) (X : ℕ) (key : Key) → IsPlanned T X key → NeedsComeFirst T X key
