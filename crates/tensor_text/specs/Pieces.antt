-- For private functions and for proofs: no public contract rests on this file.
-- The canonical text as it is written: what stands at each place, in the order of places.
use Rattle.std.specs.Prelude.{ℕ, zero, suc, ◌+◌, ◌-◌, List, [], ◌++◌, cond}
use Rattle.airy_math.specs.Rational.{ℚ}
use Rattle.airy_math.specs.Tensors.{is_zero}
use Rattle.sparse_tensor.specs.Entries.{Entries, Entry, looked_up}
use Rattle.tensor_text.specs.Canonical.{place_text, index_text}
use Rattle.sparse_tensor.specs.declared.parts.Part.{Part}
use Rattle.sparse_tensor.specs.declared.parts.Part.TheVariants.{A, B, C}

-- what n numbers from a on give, one after the other
unfoldable pub each_from : (ℕ → List ℕ) → ℕ → ℕ → List ℕ
each_from f a zero = []
each_from f a (suc n) = each_from f a n ++ f (a + n)

-- the entries of a letter
abbrev pub entries_of : Part → Entries → List Entry
entries_of A t = t.a
entries_of B t = t.b
entries_of C t = t.c

unfoldable pub value_in : Part → Entries → ℕ → ℕ → ℕ → ℚ
value_in A t i j k = (looked_up t).A i j k
value_in B t i j k = (looked_up t).B i j k
value_in C t i j k = (looked_up t).C i j k

-- the least last index: of A and C each pair of last indices is written once
abbrev pub first_in : Part → ℕ → ℕ
first_in A j = j
first_in B j = 0
first_in C j = j

-- the line of a value that isn't 0
unfoldable pub place_piece : Part → Entries → ℕ → ℕ → ℕ → List ℕ
place_piece letter t i j k =
    cond (is_zero (value_in letter t i j k)) []
    (place_text letter (record { i = i; j = j; k = k; v = value_in letter t i j k }))

unfoldable pub row_piece : Part → Entries → ℕ → ℕ → List ℕ
row_piece letter t i j = each_from (place_piece letter t i j) (first_in letter j) (t.dim - first_in letter j)

unfoldable pub plane_piece : Part → Entries → ℕ → List ℕ
plane_piece letter t i = each_from (row_piece letter t i) 0 t.dim

unfoldable pub places_piece : Part → Entries → List ℕ
places_piece letter t = each_from (plane_piece letter t) 0 t.dim

unfoldable pub index_piece : Entries → ℕ → List ℕ
index_piece t i = cond (is_zero ((looked_up t).D i)) [] (index_text (i, (looked_up t).D i))

unfoldable pub indices_piece : Entries → List ℕ
indices_piece t = each_from (index_piece t) 0 t.dim
