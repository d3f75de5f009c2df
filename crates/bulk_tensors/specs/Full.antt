-- Tensors with at most 8 indices, whose entries are all listed.
use Prim.Native.Nat.{ℕ, ◌+◌, ◌*◌, ◌<◌}
use mathlib.Core.Path.{◌≡◌, refl}
use mathlib.Core.List.{List}
use lib.ListN.{get_or, set, replicate}
use Rattle.std.specs.Coded.{Coded, code_by, coded×, coded_ℕ, coded_list}
use Rattle.airy_math.specs.Rational.{ℚ, rational_code}
use Rattle.airy_math.specs.RationalLaws.{0ℚ}
use Rattle.airy_math.specs.declared.Shape.TheVariants.{All}
use Rattle.airy_math.specs.Tensors.{Tensors, SameEntries, IsSymmetric}
use Rattle.sparse_tensor.specs.Entries.{Entries, looked_up}

-- the place of i, j and k in a list of 512
abbrev pub place : ℕ → ℕ → ℕ → ℕ
place i j k = 64 * i + 8 * j + k

-- the entry there
unfoldable pub entry : List ℚ → ℕ → ℕ → ℕ → ℚ
entry entries i j k = get_or entries (place i j k) 0ℚ

-- the two agree at indices below dim
unfoldable pub SameBelow : ℕ → (ℕ → ℕ → ℕ → ℚ) → (ℕ → ℕ → ℕ → ℚ) → Type 0
SameBelow dim F G = (i j k : ℕ) → i < dim → j < dim → k < dim → F i j k ≡ G i j k

-- The entries of A, B, C and D.
pub record Lists : Type 0 where
  pub dim : ℕ
  pub a : List ℚ
  pub b : List ℚ
  pub c : List ℚ
  pub d : List ℚ

abbrev pub entries_code : Coded (List ℚ)
entries_code = coded_list rational_code

abbrev pub lists_code : Coded Lists
lists_code = code_by (ℕ × ((List ℚ × List ℚ) × (List ℚ × List ℚ)))
    (coded× coded_ℕ (coded× (coded× entries_code entries_code) (coded× entries_code entries_code)))
    (λ t. (t.dim, ((t.a, t.b), (t.c, t.d))))
    (λ p. record { dim = p.0; a = p.1.0.0; b = p.1.0.1; c = p.1.1.0; d = p.1.1.1 })
    (λ _. refl)

-- the tensors that are listed, of shape All
unfoldable pub listed : Lists → Tensors
listed t = record { dim = t.dim; shape = All; A = entry t.a; B = entry t.b; C = entry t.c; D = λ i. get_or t.d i 0ℚ }

-- all entries 0
unfoldable pub zero_lists : ℕ → Lists
zero_lists dim = record { dim = dim; a = replicate 512 0ℚ; b = replicate 512 0ℚ; c = replicate 512 0ℚ; d = replicate 8 0ℚ }

-- with other entries at i, i and i, and at i
unfoldable pub with_diagonal : Lists → ℕ → ℚ → ℚ → ℚ → ℚ → Lists
with_diagonal t i a b c d = record {
  dim = t.dim;
  a = set t.a (place i i i) a;
  b = set t.b (place i i i) b;
  c = set t.c (place i i i) c;
  d = set t.d i d;
}

-- t has the listed entries, where those are the entries of symmetric tensors
abbrev pub AreListed : Lists → Entries → Type 0
AreListed from t = (T : Tensors) → IsSymmetric T → SameEntries (listed from) T → SameEntries (looked_up t) T
