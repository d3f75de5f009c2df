-- Rows of entries, as they are stored, and the entries that they stand for.
use Prim.Native.Nat.{ℕ, suc, ◌/◌, ◌%◌, ◌<◌, ◌≤◌}
use mathlib.Core.Path.{◌≡◌, refl}
use mathlib.Core.Bool.{Bool, true, false, ◌&&◌, cond}
use mathlib.Core.List.{List, [], ◌∷◌, ◌++◌}
use lib.Dec.{ltb, eqb}
use lib.ListN.{length, get_or}
use Rattle.std.specs.Prelude.{Result, Ok, Err, insert, map}
use Rattle.std.specs.declared.alloc.AllocError.{AllocError}
use Rattle.std.specs.Coded.{Coded, code_by, coded×, coded_ℕ, coded_list}
use Rattle.airy_math.specs.Rational.{ℚ, rational_code}
use Rattle.airy_math.specs.RationalLaws.{0ℚ}
use Rattle.sparse_tensor.specs.Items.{first_value, is_any, picked, put_in_front, Ascends}
use Rattle.sparse_tensor.specs.Entries.{Entry, entry_code, value_of, is_given, with_value}

-- One part of the tensors: its dim and its entries.
pub record Places : Type 0 where
  pub dim : ℕ
  pub entries : List Entry

abbrev pub places_code : Coded Places
places_code = code_by (ℕ × List Entry) (coded× coded_ℕ (coded_list entry_code))
    (λ p. (p.dim, p.entries))
    (λ p. record { dim = p.0; entries = p.1 })
    (λ _. refl)

abbrev pub row_code : Coded (List (ℕ × ℚ))
row_code = coded_list (coded× coded_ℕ rational_code)

abbrev pub pair_row_code : Coded (List (ℕ × ℕ × ℚ))
pair_row_code = coded_list (code_by (ℕ × (ℕ × ℚ)) (coded× coded_ℕ (coded× coded_ℕ rational_code))
    (λ e. (e.0, (e.1, e.2)))
    (λ p. (p.0, p.1.0, p.1.1))
    (λ _. refl))

-- ---- rows by two indices

-- j and k stand before the pair of the entry
unfoldable pub pair_before : ℕ → ℕ → (ℕ × ℕ × ℚ) → Bool
pair_before j k e = cond (ltb j e.0) true (eqb j e.0 && ltb k e.1)

-- the entry is that of j and k
unfoldable pub same_pair : ℕ → ℕ → (ℕ × ℕ × ℚ) → Bool
same_pair j k e = eqb j e.0 && eqb k e.1

-- the value at a pair, 0 where none stands there
unfoldable pub pair_value : List (ℕ × ℕ × ℚ) → ℕ → ℕ → ℚ
pair_value es j k = first_value (same_pair j k) (λ (e : ℕ × ℕ × ℚ). e.2) es

-- whether an entry stands at a pair
unfoldable pub has_pair : List (ℕ × ℕ × ℚ) → ℕ → ℕ → Bool
has_pair es j k = is_any (same_pair j k) es

-- the row with one more entry, in the order of pairs
unfoldable pub with_pair : ℕ → ℕ → ℚ → List (ℕ × ℕ × ℚ) → List (ℕ × ℕ × ℚ)
with_pair j k v es = put_in_front (pair_before j k) (j, k, v) es

-- each entry's pair is behind the one before it
unfoldable pub IsAscendingByPair : List (ℕ × ℕ × ℚ) → Type 0
IsAscendingByPair = Ascends (λ (x y : ℕ × ℕ × ℚ). pair_before x.0 x.1 y)

-- ---- what a search in a row answers

-- An item is the one that is looked for, and stands at the place.
pub record IsFound {E : Type 0} (is_there : Bool) (found : ℚ) (reads : E → ℚ) (es : List E) (at : ℕ) : Type 0 where
  pub within : at < length es
  pub given : is_there ≡ true
  pub value : (d : E) → found ≡ reads (get_or es at d)

-- None is, and the place is where it belongs.
pub record IsGap {E : Type 0} (is_there : Bool) (found : ℚ) (with : ℚ → List E) (item : ℚ → E) (es : List E) (at : ℕ) : Type 0 where
  pub within : at ≤ length es
  pub given : is_there ≡ false
  pub value : found ≡ 0ℚ
  pub put : (v : ℚ) → with v ≡ insert es at (item v)

-- a search for the index k answers where its entry stands, or would stand
abbrev pub Finds : ℕ → List (ℕ × ℚ) → Result ℕ ℕ → Type 0
Finds k es (Ok at) = IsFound (is_given es k) (value_of es k) (λ (e : ℕ × ℚ). e.1) es at
Finds k es (Err at) = IsGap (is_given es k) (value_of es k) (λ v. with_value k v es) (λ v. (k, v)) es at

-- the same for a pair
abbrev pub FindsPair : ℕ → ℕ → List (ℕ × ℕ × ℚ) → Result ℕ ℕ → Type 0
FindsPair j k es (Ok at) = IsFound (has_pair es j k) (pair_value es j k) (λ (e : ℕ × ℕ × ℚ). e.2) es at
FindsPair j k es (Err at) = IsGap (has_pair es j k) (pair_value es j k) (λ v. with_pair j k v es) (λ v. (j, k, v)) es at

-- ---- the entries that rows stand for

-- the entries of the row of i and j, and those of the row of i
unfoldable pub row_entries : ℕ → ℕ → List (ℕ × ℚ) → List Entry
row_entries i j es = map (λ (e : ℕ × ℚ). record { i = i; j = j; k = e.0; v = e.1 }) es

unfoldable pub pair_entries : ℕ → List (ℕ × ℕ × ℚ) → List Entry
pair_entries i es = map (λ (e : ℕ × ℕ × ℚ). record { i = i; j = e.0; k = e.1; v = e.2 }) es

-- the entries of the rows one after another, the first row having the number n
unfoldable pub joined : {R : Type 0} → (ℕ → R → List Entry) → ℕ → List R → List Entry
joined entries n [] = []
joined entries n (r ∷ rs) = entries n r ++ joined entries (suc n) rs

-- the row of the number n = i dim + j holds the entries at i and j
unfoldable pub grid_row : ℕ → ℕ → List (ℕ × ℚ) → List Entry
grid_row dim n es = row_entries (n / dim) (n % dim) es

-- the entries at i and j, by their last index
unfoldable pub row_of : ℕ → ℕ → List Entry → List (ℕ × ℚ)
row_of i j es = picked (λ (e : Entry). eqb i e.i && eqb j e.j) (λ (e : Entry). (e.k, e.v)) es

-- the entries at i, by their last two indices
unfoldable pub pairs_of : ℕ → List Entry → List (ℕ × ℕ × ℚ)
pairs_of i es = picked (λ (e : Entry). eqb i e.i) (λ (e : Entry). (e.j, e.k, e.v)) es

-- ---- what a put answers and leaves

-- The place was free and holds the entry now, or was taken, or memory is wanting.
abbrev pub PutsIn : {P : Type 0} → Result Bool AllocError → Bool → P → P → P → Type 0
PutsIn (Ok true) taken old with new = (taken ≡ false) × (new ≡ with)
PutsIn (Ok false) taken old with new = (taken ≡ true) × (new ≡ old)
PutsIn (Err e) taken old with new = (taken ≡ false) × (new ≡ old)
