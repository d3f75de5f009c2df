-- What is written place by place is what the lists of entries say.
use Rattle.std.proofs.Common.{◌≡◌, ℕ, zero, suc, ◌+◌, ◌-◌, ◌*◌, ◌<◌, ◌≤◌, ◌⊎◌, inl, inr, Bool, true, false, cond, eqb, ltb, List, [], ◌∷◌, ◌++◌, refl, sym, ap, ap₂, ◌∙◌, arith, append_assoc, append-nil, min, max, ◌&&◌}
use Rattle.std.specs.List.{flat_map}
use Rattle.std.proofs.lemmas.Bool.{cases_order, cases_lt, cases_eq, lt-ltb, le-ltb, eq-eqb, ne_eqb, ltb-true, eqb-true}
use Rattle.airy_math.specs.Rational.{ℚ}
use Rattle.airy_math.specs.RationalLaws.{0ℚ}
use Rattle.airy_math.specs.Tensors.{is_zero}
use Rattle.sparse_tensor.specs.Entries.{Entries, Entry, value_at, same_place, looked_up, place_before, value_of}
use Rattle.sparse_tensor.specs.Grades.{ArePlaced, keeps_a, keeps_c, IsAscending, AreStored, AreOrdered, IsAscendingByIndex, AreStoredByIndex, AreEntries}
use Rattle.tensor_text.specs.Canonical.{place_text, index_text}
use Rattle.tensor_text.specs.Pieces.{each_from, value_in, place_piece, row_piece, plane_piece, places_piece, index_piece, indices_piece, entries_of}
use Rattle.sparse_tensor.specs.declared.parts.Part.{Part}
use Rattle.sparse_tensor.specs.declared.parts.Part.TheVariants.{A, B, C}
use Rattle.sparse_tensor.proofs.SoundLaw.{is_zero-some, is_zero-of}

-- ---- places as numbers

unfoldable pub number_at : ℕ → ℕ → ℕ → ℕ
number_at i j k = 10000 * i + (100 * j + k)

unfoldable pub number : Entry → ℕ
number e = number_at e.i e.j e.k

-- indices below 100, a value that isn't 0, and numbers that ascend from n on
unfoldable pub Rise : ℕ → List Entry → Type 0
Rise n [] = Unit {0}
Rise n (e ∷ es) = ((n ≤ number e) × (e.j < 100) × (e.k < 100) × (e.v ≡ 0ℚ → ⊥)) × Rise (suc (number e)) es

-- the entries from a number on
unfoldable from : ℕ → List Entry → List Entry
from n [] = []
from n (e ∷ es) = cond (ltb (number e) n) (from n es) (e ∷ es)

from-all : (n m : ℕ) (es : List Entry) → Rise n es → m ≤ n → from m es ≡ es
unfolding Rise from
from-all n m [] r h = refl
from-all n m (e ∷ es) r h = rw (le-ltb (number e) m (omega (arith, r.0.0))) refl

pub apart : (i j k : ℕ) (e : Entry) → (number e ≡ number_at i j k → ⊥) → same_place i j k e ≡ false
unfolding same_place number number_at
apart i j k e h = by (eqb i e.i) (eqb j e.j) (eqb k e.k) refl refl refl
  where
    by : (a b c : Bool) → eqb i e.i ≡ a → eqb j e.j ≡ b → eqb k e.k ≡ c → (a && b && c) ≡ false
    by false b c p q r = refl
    by true false c p q r = refl
    by true true false p q r = refl
    by true true true p q r =
        let x = eqb-true i e.i p in
        let y = eqb-true j e.j q in
        let z = eqb-true k e.k r in
        absurd (h (omega arith))

-- below 100 a number has one place
same_i : (i j k a b c : ℕ) → j < 100 → k < 100 → b < 100 → c < 100 → number_at i j k ≡ number_at a b c → (i ≡ a) × (j ≡ b) × (k ≡ c)
unfolding number_at
same_i i j k a b c p q r s e = (omega arith, omega arith, omega arith)

together : (i j k : ℕ) (e : Entry) → i ≡ e.i → j ≡ e.j → k ≡ e.k → same_place i j k e ≡ true
unfolding same_place
together i j k e p q r = rw (eq-eqb i e.i p, eq-eqb j e.j q, eq-eqb k e.k r) refl

value-before : (n i j k : ℕ) (es : List Entry) → Rise n es → number_at i j k < n → value_at es i j k ≡ 0ℚ
unfolding Rise value_at
value-before n i j k [] r h = refl
value-before n i j k (e ∷ es) r h = rw (apart i j k e (λ s. omega (arith, r.0.0))) (value-before (suc (number e)) i j k es r.1 (omega (arith, r.0.0)))

-- ---- one place

from-before : (n : ℕ) (e : Entry) (es : List Entry) → number e < n → from n (e ∷ es) ≡ from n es
unfolding from
from-before n e es h = rw (lt-ltb (number e) n h) refl

from-here : (n : ℕ) (e : Entry) (es : List Entry) → n ≤ number e → from n (e ∷ es) ≡ e ∷ es
unfolding from
from-here n e es h = rw (le-ltb (number e) n h) refl

-- what a value writes at a place
abbrev pub piece : (Entry → List ℕ) → ℕ → ℕ → ℕ → ℚ → List ℕ
piece text i j k v = cond (is_zero v) [] (text (record { i = i; j = j; k = k; v = v }))

entry-is : (i j k : ℕ) (e : Entry) → i ≡ e.i → j ≡ e.j → k ≡ e.k → ◌≡◌ {A = Entry} (record { i = i; j = j; k = k; v = e.v }) e
entry-is i j k e p q r = λ t. record { i = p t; j = q t; k = r t; v = e.v }

value-apart : (i j k : ℕ) (e : Entry) (es : List Entry) → (number e ≡ number_at i j k → ⊥) → value_at (e ∷ es) i j k ≡ value_at es i j k
unfolding value_at
value-apart i j k e es h = rw (apart i j k e h) refl

value-here : (i j k : ℕ) (e : Entry) (es : List Entry) → i ≡ e.i → j ≡ e.j → k ≡ e.k → value_at (e ∷ es) i j k ≡ e.v
unfolding value_at
value-here i j k e es p q r = rw (together i j k e p q r) refl

piece-none : (text : Entry → List ℕ) (i j k : ℕ) (v : ℚ) → v ≡ 0ℚ → piece text i j k v ≡ []
piece-none text i j k v e = rw (is_zero-of v e) refl

piece-some : (text : Entry → List ℕ) (i j k : ℕ) (v : ℚ) → (v ≡ 0ℚ → ⊥) → piece text i j k v ≡ text (record { i = i; j = j; k = k; v = v })
piece-some text i j k v e = rw (is_zero-some v e) refl

step-here : (text : Entry → List ℕ) (i j k : ℕ) (e : Entry) (es : List Entry) → j < 100 → k < 100 → e.j < 100 → e.k < 100 → (e.v ≡ 0ℚ → ⊥) → Rise (suc (number e)) es → number e ≡ number_at i j k
    → piece text i j k (value_at (e ∷ es) i j k) ++ flat_map text (from (suc (number_at i j k)) (e ∷ es)) ≡ flat_map text (from (number_at i j k) (e ∷ es))
unfolding number
step-here text i j k e es p q u w some r s =
    let at = number_at i j k in
    let same = same_i i j k e.i e.j e.k p q u w (sym s) in
    let v = value-here i j k e es same.0 same.1 same.2 in
    let here : piece text i j k (value_at (e ∷ es) i j k) ≡ text e = ap (piece text i j k) v ∙ piece-some text i j k e.v some ∙ ap text (entry-is i j k e same.0 same.1 same.2) in
    let behind : from (suc at) (e ∷ es) ≡ es = from-before (suc at) e es (omega arith) ∙ from-all (suc (number e)) (suc at) es r (omega arith) in
    let all : from at (e ∷ es) ≡ e ∷ es = from-here at e es (omega arith) in
    rw (here, behind, all) refl

step-later : (text : Entry → List ℕ) (i j k : ℕ) (e : Entry) (es : List Entry) → Rise (suc (number e)) es → number_at i j k < number e
    → piece text i j k (value_at (e ∷ es) i j k) ++ flat_map text (from (suc (number_at i j k)) (e ∷ es)) ≡ flat_map text (from (number_at i j k) (e ∷ es))
step-later text i j k e es r h =
    let at = number_at i j k in
    let v : value_at (e ∷ es) i j k ≡ 0ℚ = value-apart i j k e es (λ s. omega arith) ∙ value-before (suc (number e)) i j k es r (omega arith) in
    let none = piece-none text i j k (value_at (e ∷ es) i j k) v in
    rw (none, from-here (suc at) e es (omega arith), from-here at e es (omega arith)) refl

step-sooner : (text : Entry → List ℕ) (i j k : ℕ) (e : Entry) (es : List Entry) → number e < number_at i j k
    → piece text i j k (value_at es i j k) ++ flat_map text (from (suc (number_at i j k)) es) ≡ flat_map text (from (number_at i j k) es)
    → piece text i j k (value_at (e ∷ es) i j k) ++ flat_map text (from (suc (number_at i j k)) (e ∷ es)) ≡ flat_map text (from (number_at i j k) (e ∷ es))
step-sooner text i j k e es h ih =
    let at = number_at i j k in
    rw (value-apart i j k e es (λ s. omega arith), from-before (suc at) e es (omega arith), from-before at e es h) ih

place-step : (text : Entry → List ℕ) (n i j k : ℕ) (es : List Entry) → j < 100 → k < 100 → Rise n es
    → piece text i j k (value_at es i j k) ++ flat_map text (from (suc (number_at i j k)) es) ≡ flat_map text (from (number_at i j k) es)
unfolding Rise value_at from
place-step text n i j k [] p q r = rw (is_zero-of 0ℚ refl) refl
place-step text n i j k (e ∷ es) p q r = by (cases_order (number e) (number_at i j k)) (place-step text (suc (number e)) i j k es p q r.1)
  where
    by : (number e ≡ number_at i j k) ⊎ ((number e < number_at i j k) ⊎ (number_at i j k < number e)) → piece text i j k (value_at es i j k) ++ flat_map text (from (suc (number_at i j k)) es) ≡ flat_map text (from (number_at i j k) es)
        → piece text i j k (value_at (e ∷ es) i j k) ++ flat_map text (from (suc (number_at i j k)) (e ∷ es)) ≡ flat_map text (from (number_at i j k) (e ∷ es))
    by (inl s) ih = step-here text i j k e es p q r.0.1 r.0.2 r.0.3 r.1 s
    by (inr (inl h)) ih = step-sooner text i j k e es h ih
    by (inr (inr h)) ih = step-later text i j k e es r.1 h

-- ---- between places

-- the indices of entries, and where their last index begins
unfoldable pub Inside : ℕ → (ℕ → ℕ) → List Entry → Type 0
Inside dim first [] = Unit {0}
Inside dim first (e ∷ es) = ((e.i < dim) × (e.j < dim) × (e.k < dim) × (first e.j ≤ e.k)) × Inside dim first es

from-nil : (n : ℕ) → from n [] ≡ []
unfolding from
from-nil n = refl

-- numbers between which there is no entry
gap : (dim : ℕ) (first : ℕ → ℕ) (n m : ℕ) (es : List Entry) → n ≤ m → Inside dim first es
    → ((e : Entry) → e.i < dim → e.j < dim → e.k < dim → first e.j ≤ e.k → n ≤ number e → number e < m → ⊥) → from n es ≡ from m es
unfolding Inside
gap dim first n m [] h w none = from-nil n ∙ sym (from-nil m)
gap dim first n m (e ∷ es) h w none = by (cases_lt (number e) n) (cases_lt (number e) m) (gap dim first n m es h w.1 none)
  where
    by : (number e < n) ⊎ (n ≤ number e) → (number e < m) ⊎ (m ≤ number e) → from n es ≡ from m es → from n (e ∷ es) ≡ from m (e ∷ es)
    by (inl s) t ih = from-before n e es s ∙ ih ∙ sym (from-before m e es (omega arith))
    by (inr s) (inl t) ih = absurd (none e w.0.0 w.0.1 w.0.2 w.0.3 s t)
    by (inr s) (inr t) ih = from-here n e es s ∙ sym (from-here m e es t)

-- behind the last
beyond : (dim : ℕ) (first : ℕ → ℕ) (es : List Entry) → dim ≤ 72 → Inside dim first es → from (number_at dim 0 0) es ≡ []
unfolding Inside number number_at
beyond dim first [] h w = from-nil _
beyond dim first (e ∷ es) h w = from-before (number_at dim 0 0) e es (omega (arith, w.0)) ∙ beyond dim first es h w.1

-- ---- pieces one after the other

each-tail : (f g : ℕ → List ℕ) (a n : ℕ) → ((m : ℕ) → a ≤ m → m < a + n → f m ++ g (suc m) ≡ g m) → each_from f a n ++ g (a + n) ≡ g a
unfolding each_from
each-tail f g a zero h = let e : a + 0 ≡ a = omega arith in rw e refl
each-tail f g a (suc n) h =
    let e : a + suc n ≡ suc (a + n) = omega arith in
    rw e (append_assoc (each_from f a n) (f (a + n)) (g (suc (a + n))) ∙ ap (λ w. each_from f a n ++ w) (h (a + n) (omega arith) (omega arith)) ∙ each-tail f g a n (λ m p q. h m p (omega arith)))

-- what the pieces of places say of a list of entries
pub record Pieces (dim : ℕ) (first : ℕ → ℕ) (value : ℕ → ℕ → ℕ → ℚ) (es : List Entry) : Type 0 where
  pub small : dim ≤ 72
  pub low : (j : ℕ) → first j ≤ j
  pub rise : Rise 0 es
  pub inside : Inside dim first es
  pub values : (i j k : ℕ) → first j ≤ k → value i j k ≡ value_at es i j k

row-gap : (dim : ℕ) (first : ℕ → ℕ) (low : (j : ℕ) → first j ≤ j) (small : dim ≤ 72) (i j : ℕ) (e : Entry) → j < dim → e.i < dim → e.j < dim → e.k < dim → first e.j ≤ e.k
    → number_at i j dim ≤ number e → number e < number_at i (suc j) (first (suc j)) → ⊥
unfolding number number_at
row-gap dim first low small i j e h a b c d n m = by (cases_eq e.j (suc j))
  where
    by : (e.j ≡ suc j) ⊎ (e.j ≡ suc j → ⊥) → ⊥
    by (inl s) = let f : first e.j ≡ first (suc j) = ap first s in omega arith
    by (inr s) = let l = low (suc j) in omega arith

plane-gap : (dim : ℕ) (first : ℕ → ℕ) (small : dim ≤ 72) (i : ℕ) (e : Entry) → e.i < dim → e.j < dim → e.k < dim
    → number_at i dim (first dim) ≤ number e → number e < number_at (suc i) 0 0 → ⊥
unfolding number number_at
plane-gap dim first small i e a b c n m = omega arith

suc-number : (i j k : ℕ) → suc (number_at i j k) ≡ number_at i j (suc k)
unfolding number_at
suc-number i j k = omega arith

row-over : (i j dim n : ℕ) → dim ≤ 72 → number_at i j dim ≤ number_at i (suc j) n
unfolding number_at
row-over i j dim n h = omega arith

plane-over : (i dim n : ℕ) → dim ≤ 72 → n ≤ dim → number_at i dim n ≤ number_at (suc i) 0 0
unfolding number_at
plane-over i dim n h l = omega arith

row-tail : (text : Entry → List ℕ) (dim : ℕ) (first : ℕ → ℕ) (value : ℕ → ℕ → ℕ → ℚ) (es : List Entry) → Pieces dim first value es → (i j : ℕ) → j < dim
    → each_from (λ k. piece text i j k (value i j k)) (first j) (dim - first j) ++ flat_map text (from (number_at i (suc j) (first (suc j))) es) ≡ flat_map text (from (number_at i j (first j)) es)
row-tail text dim first value es p i j h =
    let tail = λ (k : ℕ). flat_map text (from (number_at i j k) es) in
    let l = p.low j in
    let l' = p.low (suc j) in
    let small = p.small in
    let end : first j + (dim - first j) ≡ dim = omega arith in
    let over : number_at i j dim ≤ number_at i (suc j) (first (suc j)) = row-over i j dim (first (suc j)) p.small in
    let none : from (number_at i j dim) es ≡ from (number_at i (suc j) (first (suc j))) es = gap dim first _ _ es over p.inside (λ e a b c d n m. row-gap dim first p.low p.small i j e h a b c d n m) in
    ap (λ x. each_from (λ k. piece text i j k (value i j k)) (first j) (dim - first j) ++ flat_map text x) (sym none)
    ∙ ap (λ k. each_from (λ k. piece text i j k (value i j k)) (first j) (dim - first j) ++ tail k) (sym end)
    ∙ each-tail (λ k. piece text i j k (value i j k)) tail (first j) (dim - first j)
    (λ m a b. ap₂ (λ v x. piece text i j m v ++ flat_map text (from x es)) (p.values i j m a) (sym (suc-number i j m)) ∙ place-step text 0 i j m es (omega arith) (omega arith) p.rise)

plane-tail : (text : Entry → List ℕ) (dim : ℕ) (first : ℕ → ℕ) (value : ℕ → ℕ → ℕ → ℚ) (es : List Entry) → Pieces dim first value es → (i : ℕ)
    → each_from (λ j. each_from (λ k. piece text i j k (value i j k)) (first j) (dim - first j)) 0 dim ++ flat_map text (from (number_at (suc i) 0 0) es) ≡ flat_map text (from (number_at i 0 0) es)
plane-tail text dim first value es p i =
    let row = λ (j : ℕ). each_from (λ k. piece text i j k (value i j k)) (first j) (dim - first j) in
    let tail = λ (j : ℕ). flat_map text (from (number_at i j (first j)) es) in
    let l = p.low 0 in
    let start : first 0 ≡ 0 = omega arith in
    let end : 0 + dim ≡ dim = omega arith in
    let none : from (number_at i dim (first dim)) es ≡ from (number_at (suc i) 0 0) es = gap dim first _ _ es (plane-over i dim (first dim) p.small (p.low dim)) p.inside (λ e a b c d n m. plane-gap dim first p.small i e a b c n m) in
    ap (λ x. each_from row 0 dim ++ flat_map text x) (sym none)
    ∙ ap (λ j. each_from row 0 dim ++ tail j) (sym end)
    ∙ each-tail row tail 0 dim (λ j a b. row-tail text dim first value es p i j (omega arith))
    ∙ ap (λ k. flat_map text (from (number_at i 0 k) es)) start

first_number : number_at 0 0 0 ≤ 0
unfolding number_at
first_number = omega arith

pub all_pieces : (text : Entry → List ℕ) (dim : ℕ) (first : ℕ → ℕ) (value : ℕ → ℕ → ℕ → ℚ) (es : List Entry) → Pieces dim first value es
    → each_from (λ i. each_from (λ j. each_from (λ k. piece text i j k (value i j k)) (first j) (dim - first j)) 0 dim) 0 dim ≡ flat_map text es
all_pieces text dim first value es p =
    let plane = λ (i : ℕ). each_from (λ j. each_from (λ k. piece text i j k (value i j k)) (first j) (dim - first j)) 0 dim in
    let tail = λ (i : ℕ). flat_map text (from (number_at i 0 0) es) in
    let end : 0 + dim ≡ dim = omega arith in
    let none : tail (0 + dim) ≡ [] = ap tail end ∙ ap (flat_map text) (beyond dim first es p.small p.inside) in
    let zero_number : number_at 0 0 0 ≤ 0 = first_number in
    sym (append-nil (each_from plane 0 dim)) ∙ ap (λ x. each_from plane 0 dim ++ x) (sym none)
    ∙ each-tail plane tail 0 dim (λ i a b. plane-tail text dim first value es p i)
    ∙ ap (flat_map text) (from-all 0 (number_at 0 0 0) es p.rise zero_number)

-- ---- stored entries

pub number-behind : (x y : Entry) → x.j < 72 → x.k < 72 → y.j < 72 → y.k < 72 → place_before x y ≡ true → suc (number x) ≤ number y
unfolding place_before number number_at
number-behind x y p q r s h = by (ltb x.i y.i) (eqb x.i y.i) (ltb x.j y.j) (eqb x.j y.j) (ltb x.k y.k) refl refl refl refl refl h
  where
    by : (a b c d e : Bool) → ltb x.i y.i ≡ a → eqb x.i y.i ≡ b → ltb x.j y.j ≡ c → eqb x.j y.j ≡ d → ltb x.k y.k ≡ e → cond a true (b && cond c true (d && e)) ≡ true → suc (10000 * x.i + (100 * x.j + x.k)) ≤ 10000 * y.i + (100 * y.j + y.k)
    by true b c d e t u v w z h = let l = ltb-true x.i y.i t in omega arith
    by false true true d e t u v w z h = let l = eqb-true x.i y.i u in let m = ltb-true x.j y.j v in omega arith
    by false true false true true t u v w z h = let l = eqb-true x.i y.i u in let m = eqb-true x.j y.j w in let n = ltb-true x.k y.k z in omega arith
    by false false c d e t u v w z h = cc
    by false true false false e t u v w z h = cc
    by false true false true false t u v w z h = cc

rises_from : (grade : ℕ → ℕ → ℕ → Bool) (dim n : ℕ) (x : Entry) (es : List Entry) → dim ≤ 72 → n ≤ number x → IsAscending (x ∷ es) → AreStored grade dim (x ∷ es) → Rise n (x ∷ es)
unfolding IsAscending AreStored Rise
rises_from grade dim n x [] h l a s = ((l, omega (arith, s.0.1), omega (arith, s.0.2), s.0.3), tt)
rises_from grade dim n x (y ∷ es) h l a s =
    let next = number-behind x y (omega (arith, s.0.1)) (omega (arith, s.0.2)) (omega (arith, s.1.0.1)) (omega (arith, s.1.0.2)) a.0 in
    ((l, omega (arith, s.0.1), omega (arith, s.0.2), s.0.3), rises_from grade dim (suc (number x)) y es h next a.1 s.1)

pub rises : (grade : ℕ → ℕ → ℕ → Bool) (dim : ℕ) (es : List Entry) → dim ≤ 72 → IsAscending es → AreStored grade dim es → Rise 0 es
unfolding Rise
rises grade dim [] h a s = tt
rises grade dim (x ∷ es) h a s = rises_from grade dim 0 x es h (omega arith) a s

pub inside_free : (grade : ℕ → ℕ → ℕ → Bool) (dim : ℕ) (es : List Entry) → AreStored grade dim es → Inside dim (λ j. 0) es
unfolding AreStored Inside
inside_free grade dim [] s = tt
inside_free grade dim (e ∷ es) s = ((s.0.0, s.0.1, s.0.2, omega arith), inside_free grade dim es s.1)

pub inside_ordered : (grade : ℕ → ℕ → ℕ → Bool) (dim : ℕ) (es : List Entry) → AreStored grade dim es → AreOrdered es → Inside dim (λ j. j) es
unfolding AreStored AreOrdered Inside
inside_ordered grade dim [] s o = tt
inside_ordered grade dim (e ∷ es) s o = ((s.0.0, s.0.1, s.0.2, o.0), inside_ordered grade dim es s.1 o.1)

-- ---- the pieces of tensors

ordered_value : (es : List Entry) (i j k : ℕ) → j ≤ k → value_at es i (min j k) (max j k) ≡ value_at es i j k
ordered_value es i j k h =
    let l : min j k ≡ j = omega arith in
    let m : max j k ≡ k = omega arith in
    ap₂ (value_at es i) l m

ordered_pieces : (text : Entry → List ℕ) (grade : ℕ → ℕ → ℕ → Bool) (dim : ℕ) (es : List Entry) → dim ≤ 72 → ArePlaced grade dim es → AreOrdered es
    → each_from (λ i. each_from (λ j. each_from (λ k. piece text i j k (value_at es i (min j k) (max j k))) j (dim - j)) 0 dim) 0 dim ≡ flat_map text es
ordered_pieces text grade dim es most p o = all_pieces text dim (λ j. j) _ es (record {
  small = most;
  low = λ j. omega arith;
  rise = rises grade dim es most p.ascend p.stored;
  inside = inside_ordered grade dim es p.stored o;
  values = λ i j k h. ordered_value es i j k h;
})

pub places_are : (letter : Part) (t : Entries) → AreEntries t → places_piece letter t ≡ flat_map (place_text letter) (entries_of letter t)
unfolding places_piece plane_piece row_piece place_piece value_in looked_up
places_are A t s = ordered_pieces (place_text A) (keeps_a t.shape) t.dim t.a s.most s.a s.a_ordered
places_are B t s = all_pieces (place_text B) t.dim (λ j. 0) _ t.b (record { small = s.most; low = λ j. omega arith; rise = rises _ t.dim t.b s.most s.b.ascend s.b.stored; inside = inside_free _ t.dim t.b s.b.stored; values = λ i j k h. refl })
places_are C t s = ordered_pieces (place_text C) (keeps_c t.shape) t.dim t.c s.most s.c s.c_ordered

-- ---- the entries of D

-- indices that ascend from n on, below dim, with values that aren't 0
unfoldable RiseByIndex : ℕ → ℕ → List (ℕ × ℚ) → Type 0
RiseByIndex dim n [] = Unit {0}
RiseByIndex dim n (e ∷ es) = ((n ≤ e.0) × (e.0 < dim) × (e.1 ≡ 0ℚ → ⊥)) × RiseByIndex dim (suc e.0) es

value-before-index : (dim n i : ℕ) (es : List (ℕ × ℚ)) → RiseByIndex dim n es → i < n → value_of es i ≡ 0ℚ
unfolding RiseByIndex value_of
value-before-index dim n i [] r h = refl
value-before-index dim n i (e ∷ es) r h = rw (ne_eqb i e.0 (λ s. omega (arith, r.0.0))) (value-before-index dim (suc e.0) i es r.1 (omega (arith, r.0.0)))

unfoldable from_index : ℕ → List (ℕ × ℚ) → List (ℕ × ℚ)
from_index n [] = []
from_index n (e ∷ es) = cond (ltb e.0 n) (from_index n es) (e ∷ es)

index-before : (n : ℕ) (e : ℕ × ℚ) (es : List (ℕ × ℚ)) → e.0 < n → from_index n (e ∷ es) ≡ from_index n es
unfolding from_index
index-before n e es h = rw (lt-ltb e.0 n h) refl

index-here : (n : ℕ) (e : ℕ × ℚ) (es : List (ℕ × ℚ)) → n ≤ e.0 → from_index n (e ∷ es) ≡ e ∷ es
unfolding from_index
index-here n e es h = rw (le-ltb e.0 n h) refl

index-all : (dim n m : ℕ) (es : List (ℕ × ℚ)) → RiseByIndex dim n es → m ≤ n → from_index m es ≡ es
unfolding RiseByIndex from_index
index-all dim n m [] r h = refl
index-all dim n m (e ∷ es) r h = rw (le-ltb e.0 m (omega (arith, r.0.0))) refl

index-beyond : (dim n : ℕ) (es : List (ℕ × ℚ)) → RiseByIndex dim n es → from_index dim es ≡ []
unfolding RiseByIndex from_index
index-beyond dim n [] r = refl
index-beyond dim n (e ∷ es) r = index-before dim e es r.0.1 ∙ index-beyond dim (suc e.0) es r.1

abbrev piece_at : ℕ → ℚ → List ℕ
piece_at i v = cond (is_zero v) [] (index_text (i, v))

at-none : (i : ℕ) (v : ℚ) → v ≡ 0ℚ → piece_at i v ≡ []
at-none i v e = rw (is_zero-of v e) refl

at-some : (i : ℕ) (v : ℚ) → (v ≡ 0ℚ → ⊥) → piece_at i v ≡ index_text (i, v)
at-some i v e = rw (is_zero-some v e) refl

value-at-index : (i : ℕ) (e : ℕ × ℚ) (es : List (ℕ × ℚ)) → i ≡ e.0 → value_of (e ∷ es) i ≡ e.1
unfolding value_of
value-at-index i e es p = rw (eq-eqb i e.0 p) refl

value-off-index : (i : ℕ) (e : ℕ × ℚ) (es : List (ℕ × ℚ)) → (i ≡ e.0 → ⊥) → value_of (e ∷ es) i ≡ value_of es i
unfolding value_of
value-off-index i e es p = rw (ne_eqb i e.0 p) refl

index-step : (dim n i : ℕ) (es : List (ℕ × ℚ)) → RiseByIndex dim n es → piece_at i (value_of es i) ++ flat_map index_text (from_index (suc i) es) ≡ flat_map index_text (from_index i es)
unfolding RiseByIndex value_of from_index
index-step dim n i [] r = rw (is_zero-of 0ℚ refl) refl
index-step dim n i (e ∷ es) r = by (cases_order e.0 i) (index-step dim (suc e.0) i es r.1)
  where
    by : (e.0 ≡ i) ⊎ ((e.0 < i) ⊎ (i < e.0)) → piece_at i (value_of es i) ++ flat_map index_text (from_index (suc i) es) ≡ flat_map index_text (from_index i es)
        → piece_at i (value_of (e ∷ es) i) ++ flat_map index_text (from_index (suc i) (e ∷ es)) ≡ flat_map index_text (from_index i (e ∷ es))
    by (inl s) ih =
        let here : piece_at i (value_of (e ∷ es) i) ≡ index_text e = ap (piece_at i) (value-at-index i e es (sym s)) ∙ at-some i e.1 r.0.2 ∙ ap (λ m. index_text (m, e.1)) (sym s) in
        let behind : from_index (suc i) (e ∷ es) ≡ es = index-before (suc i) e es (omega arith) ∙ index-all dim (suc e.0) (suc i) es r.1 (omega arith) in
        rw (here, behind, index-here i e es (omega arith)) refl
    by (inr (inl h)) ih = rw (value-off-index i e es (λ s. omega arith), index-before (suc i) e es (omega arith), index-before i e es h) ih
    by (inr (inr h)) ih =
        let v : value_of (e ∷ es) i ≡ 0ℚ = value-off-index i e es (λ s. omega arith) ∙ value-before-index dim (suc e.0) i es r.1 (omega arith) in
        rw (at-none i (value_of (e ∷ es) i) v, index-here (suc i) e es h, index-here i e es (omega arith)) refl

rises_from_index : (grade : ℕ → Bool) (dim n : ℕ) (x : ℕ × ℚ) (es : List (ℕ × ℚ)) → n ≤ x.0 → IsAscendingByIndex (x ∷ es) → AreStoredByIndex grade dim (x ∷ es) → RiseByIndex dim n (x ∷ es)
unfolding IsAscendingByIndex AreStoredByIndex RiseByIndex
rises_from_index grade dim n x [] l a s = ((l, s.0.0, s.0.1), tt)
rises_from_index grade dim n x (y ∷ es) l a s = ((l, s.0.0, s.0.1), rises_from_index grade dim (suc x.0) y es (omega (arith, ltb-true x.0 y.0 a.0)) a.1 s.1)

rises_by_index : (grade : ℕ → Bool) (dim : ℕ) (es : List (ℕ × ℚ)) → IsAscendingByIndex es → AreStoredByIndex grade dim es → RiseByIndex dim 0 es
unfolding RiseByIndex
rises_by_index grade dim [] a s = tt
rises_by_index grade dim (x ∷ es) a s = rises_from_index grade dim 0 x es (omega arith) a s

pub indices_are : (t : Entries) → AreEntries t → indices_piece t ≡ flat_map index_text t.d
unfolding indices_piece index_piece looked_up
indices_are t s =
    let rise = rises_by_index _ t.dim t.d s.d.ascend s.d.stored in
    let piece = λ (i : ℕ). piece_at i (value_of t.d i) in
    let tail = λ (i : ℕ). flat_map index_text (from_index i t.d) in
    let end : 0 + t.dim ≡ t.dim = omega arith in
    let none : tail (0 + t.dim) ≡ [] = ap tail end ∙ ap (flat_map index_text) (index-beyond t.dim 0 t.d rise) in
    sym (append-nil (each_from piece 0 t.dim)) ∙ ap (λ x. each_from piece 0 t.dim ++ x) (sym none)
    ∙ each-tail piece tail 0 t.dim (λ i a b. index-step t.dim 0 i t.d rise)
    ∙ ap (flat_map index_text) (index-all t.dim 0 0 t.d rise (omega arith))
