-- What it takes to put an entry, and what it leaves.
use Prim.Native.Nat.{ℕ, min, max}
use mathlib.Core.Path.{◌≡◌}
use mathlib.Core.Bool.{Bool, true, false, ◌&&◌, cond}
use lib.Dec.{ltb}
use Rattle.airy_math.specs.Rational.{ℚ}
use Rattle.airy_math.specs.Tensors.{is_zero}
use Rattle.std.specs.Prelude.{◌↔◌, Result, IsErrOf, IsOk, IfErr, OnOk, OnErr}
use Rattle.airy_math.specs.declared.Shape.{Shape}
use Rattle.sparse_tensor.specs.declared.parts.Part.{Part}
use Rattle.sparse_tensor.specs.declared.parts.Part.TheVariants.{A, B, C}
use Rattle.sparse_tensor.specs.declared.tensors.PutErr.{PutErr}
use Rattle.sparse_tensor.specs.declared.tensors.PutErr.TheVariants.{Index, Grade, Twice, NoMemory}
use Rattle.sparse_tensor.specs.Entries.{Entries, is_taken, is_given, with_entry, with_value}
use Rattle.sparse_tensor.specs.Grades.{keeps_a, keeps_b, keeps_c, keeps_d}

-- the first check that an entry fails, or that there is nothing to store, or that it can be stored
pub data Putting : Type 0 where
  Outside : Putting
  Nothing : Putting
  Ungraded : Putting
  Taken : Putting
  Free : Putting

-- no check refuses the put
unfoldable pub IsAllowed : Putting → Type 0
IsAllowed Outside = ⊥
IsAllowed Nothing = Unit
IsAllowed Ungraded = ⊥
IsAllowed Taken = ⊥
IsAllowed Free = Unit

unfoldable pub putting : Bool → Bool → Bool → Bool → Putting
putting inside zero graded taken = cond inside (cond zero Nothing (cond graded (cond taken Taken Free) Ungraded)) Outside

unfoldable pub are_inside : ℕ → ℕ → ℕ → ℕ → Bool
are_inside dim i j k = ltb i dim && ltb j dim && ltb k dim

unfoldable pub putting_a : Entries → ℕ → ℕ → ℕ → ℚ → Putting
putting_a t i j k v = putting (are_inside t.dim i j k) (is_zero v) (keeps_a t.shape i j k) (is_taken t.a i (min j k) (max j k))

unfoldable pub putting_b : Entries → ℕ → ℕ → ℕ → ℚ → Putting
putting_b t i j k v = putting (are_inside t.dim i j k) (is_zero v) (keeps_b t.shape i j k) (is_taken t.b i j k)

unfoldable pub putting_c : Entries → ℕ → ℕ → ℕ → ℚ → Putting
putting_c t i j k v = putting (are_inside t.dim i j k) (is_zero v) (keeps_c t.shape i j k) (is_taken t.c i (min j k) (max j k))

unfoldable pub putting_d : Entries → ℕ → ℚ → Putting
putting_d t i v = putting (ltb i t.dim) (is_zero v) (keeps_d t.shape i) (is_given t.d i)

-- the entries with one more; a zero value stores nothing
unfoldable pub with_a : Entries → ℕ → ℕ → ℕ → ℚ → Entries
with_a t i j k v = cond (is_zero v) t (record t { a = with_entry (record { i = i; j = min j k; k = max j k; v = v }) t.a })

unfoldable pub with_b : Entries → ℕ → ℕ → ℕ → ℚ → Entries
with_b t i j k v = cond (is_zero v) t (record t { b = with_entry (record { i = i; j = j; k = k; v = v }) t.b })

unfoldable pub with_c : Entries → ℕ → ℕ → ℕ → ℚ → Entries
with_c t i j k v = cond (is_zero v) t (record t { c = with_entry (record { i = i; j = min j k; k = max j k; v = v }) t.c })

unfoldable pub with_d : Entries → ℕ → ℚ → Entries
with_d t i v = cond (is_zero v) t (record t { d = with_value i v t.d })

-- ---- the same of each part whose entries have three indices

-- whether an entry of the part keeps the grading
unfoldable pub keeps_in : Part → Shape → ℕ → ℕ → ℕ → Bool
keeps_in A shape i j k = keeps_a shape i j k
keeps_in B shape i j k = keeps_b shape i j k
keeps_in C shape i j k = keeps_c shape i j k

-- whether an entry of the part stands at the place
unfoldable pub taken_in : Part → Entries → ℕ → ℕ → ℕ → Bool
taken_in A t i j k = is_taken t.a i (min j k) (max j k)
taken_in B t i j k = is_taken t.b i j k
taken_in C t i j k = is_taken t.c i (min j k) (max j k)

unfoldable pub with_in : Part → Entries → ℕ → ℕ → ℕ → ℚ → Entries
with_in A t i j k v = with_a t i j k v
with_in B t i j k v = with_b t i j k v
with_in C t i j k v = with_c t i j k v

unfoldable pub putting_in : Part → Entries → ℕ → ℕ → ℕ → ℚ → Putting
putting_in part t i j k v = putting (are_inside t.dim i j k) (is_zero v) (keeps_in part t.shape i j k) (taken_in part t i j k)

-- An entry that passes the checks of its indices, its value and its grading.
pub record IsAdmitted (inside zero graded : Bool) : Type 0 where
  pub inside_true : inside ≡ true
  pub zero_false : zero ≡ false
  pub graded_true : graded ≡ true

-- What a put answers, by the first check that the entry fails, and what it leaves.
pub record IsPut (r : Result Unit PutErr) (p : Putting) (old with new : Entries) : Type 0 where
  pub index : IsErrOf r Index ↔ (p ≡ Outside)
  pub grade : IsErrOf r Grade ↔ (p ≡ Ungraded)
  pub twice : IsErrOf r Twice ↔ (p ≡ Taken)
  pub nothing : p ≡ Nothing → IsOk r
  pub allowed : IsAllowed p → IfErr r (λ e. e ≡ NoMemory)
  pub put : OnOk r (new ≡ with)
  pub same : OnErr r (new ≡ old)
