-- The tensors of the named families, as they are stored.
use Prim.Native.Nat.{ℕ}
use mathlib.Core.Path.{◌≡◌}
use mathlib.Core.Bool.{true}
use Rattle.airy_math.specs.Tensors.{Tensors, SameEntries}
use Rattle.airy_math.specs.Families.{top_wk, top_bgw}
use Rattle.airy_math.specs.declared.Family.{Family}
use Rattle.airy_math.specs.declared.Family.TheVariants.{Wk, Bgw, Wp}
use Rattle.sparse_tensor.specs.Entries.{Entries, looked_up}
use Rattle.std.specs.Prelude.{Option, Some}
use Rattle.airy_curve.specs.declared.making.CurveErr.{CurveErr}
use Rattle.airy_curve.specs.declared.making.CurveErr.TheVariants as curve_err
use Rattle.named_families.specs.declared.petersson.MakeErr.{MakeErr}
use Rattle.named_families.specs.declared.petersson.MakeErr.TheVariants.{Over, NoMemory}
-- The stored entries are those of T, as far as its indices go, without a letter.
pub use Rattle.airy_curve.specs.Storing.{StandsFor}

-- The same with a letter.
pub record StandsForLettered (t : Entries) (T : Tensors) : Type 0 where
  pub entries : SameEntries (looked_up t) T
  pub letter : t.letter ≡ true

-- What a refusal says of the k to be named: that it is this one; want of memory says nothing.
unfoldable pub Names : MakeErr → Option ℕ → Type 0
Names (Over k) named = named ≡ Some k
Names NoMemory named = Unit

-- the refusal of a curve's tensors, as one of wp's
unfoldable pub made_of : CurveErr → MakeErr
made_of (curve_err.Over k) = Over k
made_of curve_err.NoMemory = NoMemory

-- the greatest index that a table of the family up to the bound can need
unfoldable pub top : Family → ℕ → ℕ
top Wk X = top_wk X
top Bgw X = top_bgw X
top Wp X = top_wk X
