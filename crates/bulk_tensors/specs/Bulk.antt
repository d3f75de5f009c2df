-- Tensors from a number: diagonal ones, and changes of basis, all by the draws of a seed.
use Prim.Native.Nat.{ℕ, zero, suc, ◌+◌, ◌*◌, ◌-◌, ◌%◌}
use mathlib.Core.Path.{◌≡◌}
use mathlib.Core.Bool.{Bool, false, cond, ◌&&◌}
use lib.Dec.{eqb}
use lib.IntN.{pos, ◌-ℤ◌}
use Rattle.std.specs.Prelude.{Option, Some, None}
use Rattle.airy_math.specs.Rational.{ℚ, whole, ◌/ℚ◌}
use Rattle.airy_math.specs.Sums.{when}
use Rattle.airy_math.specs.declared.Shape.TheVariants.{All}
use Rattle.airy_math.specs.Tensors.{Tensors, SameEntries}
use Rattle.airy_math.specs.Jobs.{Bulk, IsSound}
use Rattle.sparse_tensor.specs.Entries.{Entries, looked_up}
use Rattle.bulk_tensors.specs.Change.{changed, is_obtained}
use Rattle.bulk_tensors.specs.declared.full_tensors.BulkErr.{BulkErr}
use Rattle.bulk_tensors.specs.declared.full_tensors.BulkErr.TheVariants.{Over, NoMemory}
use Rattle.bulk_tensors.specs.Draws.{draw}

-- f of the index where all three are one, and 0 elsewhere
unfoldable pub on_diagonal : (ℕ → ℚ) → ℕ → ℕ → ℕ → ℚ
on_diagonal f i j k = when (eqb i j && eqb i k) (f i)

-- Four draws an index: A is from 1 to 3, B from 1 to 3, C is 0 or 1, and D is from 1/8 to 7/8.
unfoldable pub diagonal : ℕ → ℕ → Tensors
diagonal seed dim = record {
  dim = dim;
  shape = All;
  A = on_diagonal λ i. whole (1 + draw seed (4 * i) % 3);
  B = on_diagonal λ i. whole (1 + draw seed (4 * i + 1) % 3);
  C = on_diagonal λ i. whole (draw seed (4 * i + 2) % 2);
  D = λ i. pos (1 + draw seed (4 * i + 3) % 7) /ℚ 8;
}

-- the factor of the change (r, r + 1, t), which is -1, 0 or 1: one draw each, behind those of the diagonal
unfoldable pub factor : ℕ → ℕ → ℕ → ℚ
factor seed dim r = (pos (draw seed (4 * dim + r) % 3) -ℤ pos 1) /ℚ 1

-- the tensors after the first n changes, the change numbered q being the one with r = q - 1 and s = q
unfoldable pub after : ℕ → ℕ → ℕ → Tensors
after seed dim zero = diagonal seed dim
after seed dim (suc r) = changed r (suc r) (factor seed dim r) (after seed dim r)

-- the tensors of a seed and a dim
unfoldable pub bulk : ℕ → ℕ → Tensors
bulk seed dim = after seed dim (dim - 1)

-- ---- refusals

-- q, where no earlier change is refused and this one isn't obtained
unfoldable pub then_refused : Option ℕ → Bool → ℕ → Option ℕ
then_refused (Some p) obtained q = Some p
then_refused None obtained q = cond obtained None (Some q)

-- the first of the first n changes of which a step isn't obtained
unfoldable pub first_refused : ℕ → ℕ → ℕ → Option ℕ
first_refused seed dim zero = None
first_refused seed dim (suc r) =
    then_refused (first_refused seed dim r) (is_obtained r (suc r) (factor seed dim r) (after seed dim r)) (suc r)

-- the change that is refused, None where all are obtained
unfoldable pub bulk_refusal : ℕ → ℕ → Option ℕ
bulk_refusal seed dim = first_refused seed dim (dim - 1)

-- ---- what is made

-- What a refusal says of the change to be named: that it is this one; want of memory says nothing.
unfoldable pub NamesStep : BulkErr → Option ℕ → Type 0
NamesStep (Over step) named = named ≡ Some step
NamesStep NoMemory named = Unit

-- Each step is obtained, and the stored entries are those of the bulk, which is symmetric and graded.
pub record StandsForBulk (seed dim : ℕ) (t : Entries) : Type 0 where
  pub obtained : bulk_refusal seed dim ≡ None
  pub entries : SameEntries (looked_up t) (bulk seed dim)
  pub letter : t.letter ≡ false
  pub sound : IsSound (Bulk (bulk seed dim))
