-- What is left of a key's indices without the pivot, with what a walk over it needs.
use Prim.Native.Nat.{◌<◌}
use mathlib.Core.Path.{◌≡◌}
use lib.IntN.{ℤ}
use Rattle.std.specs.List.{AllByRecursion}
use Rattle.airy_math.specs.Splits.{runs}
use Rattle.index_lists.specs.Measures.{IsMeasured, IsLight, gain, loss}
use Rattle.index_lists.specs.declared.rest.Rest.{Rest}

-- Bytes with their runs, their measure, which is small, and how far the excess of a part of it can rise and fall.
pub record IsRest (c : ℤ) (rest : Rest) : Type 0 where
  pub bytes : AllByRecursion (λ x. x < 256) rest.list.items
  pub runs : rest.runs.items ≡ runs rest.list.items
  pub whole : IsMeasured c rest.list.items rest.whole
  pub light : IsLight rest.whole
  pub gain : rest.gain ≡ gain c rest.list.items
  pub loss : rest.loss ≡ loss c rest.list.items
