-- The parts that tensors are stored in, and how a put answers.
use Prim.Native.Nat.{ℕ}
use mathlib.Core.Path.{◌≡◌}
use mathlib.Core.Bool.{Bool, true, false}
use mathlib.Core.List.{List}
use Rattle.std.specs.Prelude.{Result, Ok, Err}
use Rattle.std.specs.declared.alloc.AllocError.{AllocError}
use Rattle.airy_math.specs.Rational.{ℚ}
use Rattle.airy_math.specs.declared.Shape.{Shape}
use Rattle.sparse_tensor.specs.Entries.{Entries}
use Rattle.sparse_tensor.specs.Grades.{AreEntries}
use Rattle.sparse_tensor.specs.Rows.{Places}
use Rattle.sparse_tensor.specs.declared.tensors.PutErr.{PutErr}
use Rattle.sparse_tensor.specs.declared.tensors.PutErr.TheVariants.{Index, Grade, Twice, NoMemory}

-- the entries of all parts
abbrev pub gathered : ℕ → Shape → Bool → Places → Places → Places → List (ℕ × ℚ) → Entries
gathered dim shape letter a b c d = record { dim = dim; shape = shape; letter = letter; a = a.entries; b = b.entries; c = c.entries; d = d }

-- What the parts keep: their entries together, and one dim.
pub record AreParts (t : Entries) (a b c : Places) : Type 0 where
  pub entries : AreEntries t
  pub a_dim : a.dim ≡ t.dim
  pub b_dim : b.dim ≡ t.dim
  pub c_dim : c.dim ≡ t.dim

-- whether an entry is to be stored, or why not
abbrev pub checked : Bool → Bool → Bool → Result Bool PutErr
checked false zero graded = Err Index
checked true true graded = Ok false
checked true false false = Err Grade
checked true false true = Ok true

-- the answer where the place was free or not, or memory is wanting
abbrev pub answered : Result Bool AllocError → Result Unit PutErr
answered (Ok true) = Ok tt
answered (Ok false) = Err Twice
answered (Err e) = Err NoMemory
