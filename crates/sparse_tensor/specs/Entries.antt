-- Tensors as four finite lists of entries, and what stands at each place.
use Prim.Native.Nat.{ℕ, zero, suc, min, max}
use mathlib.Core.Path.{◌≡◌, refl}
use mathlib.Core.Bool.{Bool, true, ◌&&◌, cond}
use mathlib.Core.List.{List, []}
use lib.Dec.{ltb, eqb}
use lib.IntN.{ℤ, pos}
use Rattle.std.specs.Coded.{Coded, code_by, coded×, coded_ℕ, coded_ℤ, coded_bool, coded_list}
use Rattle.airy_math.specs.Rational.{ℚ, rational_code}
use Rattle.airy_math.specs.declared.Shape.{Shape}
use Rattle.airy_math.specs.declared.Shape.TheVariants.{All, Exact, AtMost}
use Rattle.airy_math.specs.Tensors as math
use Rattle.sparse_tensor.specs.Items.{first_value, is_any, put_in_front}

-- An entry: the value v at the indices i, j and k.
pub record Entry : Type 0 where
  pub i : ℕ
  pub j : ℕ
  pub k : ℕ
  pub v : ℚ

-- The entries of A, B, C and D. Those of A and C stand with j at most k, for both orders of j and k.
pub record Entries : Type 0 where
  pub dim : ℕ
  pub shape : Shape
  pub letter : Bool
  pub a : List Entry
  pub b : List Entry
  pub c : List Entry
  pub d : List (ℕ × ℚ)

unfoldable pub same_place : ℕ → ℕ → ℕ → Entry → Bool
same_place i j k e = eqb i e.i && eqb j e.j && eqb k e.k

-- the value at a place of a list of entries, 0 where none stands there
unfoldable pub value_at : List Entry → ℕ → ℕ → ℕ → ℚ
value_at es i j k = first_value (same_place i j k) (λ (e : Entry). e.v) es

-- whether an entry stands at the place
unfoldable pub is_taken : List Entry → ℕ → ℕ → ℕ → Bool
is_taken es i j k = is_any (same_place i j k) es

-- the value at an index of the entries of D, 0 where none stands there
unfoldable pub value_of : List (ℕ × ℚ) → ℕ → ℚ
value_of es i = first_value (λ (e : ℕ × ℚ). eqb i e.0) (λ (e : ℕ × ℚ). e.1) es

-- whether it has one
unfoldable pub is_given : List (ℕ × ℚ) → ℕ → Bool
is_given es i = is_any (λ (e : ℕ × ℚ). eqb i e.0) es

-- The tensors that the entries stand for: the listed values, and 0 elsewhere.
unfoldable pub looked_up : Entries → math.Tensors
looked_up t = record {
  dim = t.dim;
  shape = t.shape;
  A = λ i j k. value_at t.a i (min j k) (max j k);
  B = λ i j k. value_at t.b i j k;
  C = λ i j k. value_at t.c i (min j k) (max j k);
  D = λ i. value_of t.d i;
}

-- no entries
unfoldable pub no_entries : ℕ → Shape → Bool → Entries
no_entries dim shape letter = record { dim = dim; shape = shape; letter = letter; a = []; b = []; c = []; d = [] }

-- ---- the order of places, as in a dictionary

unfoldable pub place_before : Entry → Entry → Bool
place_before x y = cond (ltb x.i y.i) true (eqb x.i y.i && cond (ltb x.j y.j) true (eqb x.j y.j && ltb x.k y.k))

-- the list with one more entry, in the order of places
unfoldable pub with_entry : Entry → List Entry → List Entry
with_entry x es = put_in_front (place_before x) x es

unfoldable pub with_value : ℕ → ℚ → List (ℕ × ℚ) → List (ℕ × ℚ)
with_value i v es = put_in_front (λ (e : ℕ × ℚ). ltb i e.0) (i, v) es

-- ---- how entries are stored as data, for the models of types

abbrev pub shape_tuple : Shape → ℕ × (ℤ × ℤ)
shape_tuple All = (0, (pos 0, pos 0))
shape_tuple (Exact l) = (1, (l.per_g, l.per_n))
shape_tuple (AtMost l) = (2, (l.per_g, l.per_n))

abbrev pub tuple_shape : ℕ × (ℤ × ℤ) → Shape
tuple_shape (zero, l) = All
tuple_shape (suc zero, l) = Exact record { per_g = l.0; per_n = l.1 }
tuple_shape (suc (suc n), l) = AtMost record { per_g = l.0; per_n = l.1 }

pub shape_back : (s : Shape) → tuple_shape (shape_tuple s) ≡ s
shape_back All = refl
shape_back (Exact l) = refl
shape_back (AtMost l) = refl

abbrev pub shape_code : Coded Shape
shape_code = code_by (ℕ × (ℤ × ℤ)) (coded× coded_ℕ (coded× coded_ℤ coded_ℤ)) shape_tuple tuple_shape shape_back

abbrev pub entry_code : Coded Entry
entry_code = code_by ((ℕ × ℕ) × (ℕ × ℚ)) (coded× (coded× coded_ℕ coded_ℕ) (coded× coded_ℕ rational_code))
    (λ e. ((e.i, e.j), (e.k, e.v)))
    (λ p. record { i = p.0.0; j = p.0.1; k = p.1.0; v = p.1.1 })
    (λ _. refl)

abbrev pub entries_code : Coded Entries
entries_code = code_by ((ℕ × (Shape × Bool)) × ((List Entry × List Entry) × (List Entry × List (ℕ × ℚ))))
    (coded× (coded× coded_ℕ (coded× shape_code coded_bool))
    (coded× (coded× (coded_list entry_code) (coded_list entry_code))
    (coded× (coded_list entry_code) (coded_list (coded× coded_ℕ rational_code)))))
    (λ t. ((t.dim, (t.shape, t.letter)), ((t.a, t.b), (t.c, t.d))))
    (λ p. record { dim = p.0.0; shape = p.0.1.0; letter = p.0.1.1; a = p.1.0.0; b = p.1.0.1; c = p.1.1.0; d = p.1.1.1 })
    (λ _. refl)
