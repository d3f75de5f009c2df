-- The numbers and entries of a curve step by step in 128 bits, and the first step that leaves the range.
use Prim.Native.Nat.{ℕ, zero, suc, ◌+◌, ◌*◌, ◌-◌}
use mathlib.Core.Bool.{Bool, true, false, ◌&&◌}
use mathlib.Core.List.{List, [], ◌∷◌}
use lib.Dec.{leb}
use lib.IntN.{pos}
use Rattle.std.specs.Prelude.{Option, Some, None}
use Rattle.airy_math.specs.Rational.{ℚ, ◌/ℚ◌, neg_ℚ, whole}
use Rattle.airy_math.specs.RationalLaws.{0ℚ}
use Rattle.airy_math.specs.Obtained.{obtained_product, obtained_from}
use Rattle.airy_math.specs.Curves.{numbers_down, number_of}

-- u_l times the first number, u_(l+1) times the next, and so on
unfoldable pub obtained_products : (ℕ → ℚ) → ℕ → List ℚ → List (Option ℚ)
obtained_products u l [] = []
obtained_products u l (c ∷ cs) = obtained_product (u l) c ∷ obtained_products u (suc l) cs

unfoldable pub negative : Option ℚ → Option ℚ
negative (Some x) = Some (neg_ℚ x)
negative None = None

-- The number that follows c_(k-1), .., c_0: the negative of the sum that begins at 0, to which the products of u_l and c_(k-l) are
-- added for l from 1 to k.
unfoldable pub next_number : (ℕ → ℚ) → List ℚ → Option ℚ
next_number u cs = negative (obtained_from (Some 0ℚ) (obtained_products u 1 cs))

-- ---- the k that is named

-- k, where the number isn't obtained
unfoldable pub unless_obtained : ℕ → Option ℚ → Option ℕ
unless_obtained k (Some x) = None
unless_obtained k None = Some k

unfoldable pub or_else : Option ℕ → Option ℕ → Option ℕ
or_else (Some k) o = Some k
or_else None o = o

unfoldable pub where_so : Bool → Option ℕ → Option ℕ
where_so true o = o
where_so false o = None

-- the first answer of f over the n numbers from a on
unfoldable pub first_answer : ℕ → ℕ → (ℕ → Option ℕ) → Option ℕ
first_answer a zero f = None
first_answer a (suc n) f = or_else (f a) (first_answer (suc a) n f)

-- k, where c_k isn't obtained of the numbers before it
unfoldable pub number_refusal : (ℕ → ℚ) → ℕ → Option ℕ
number_refusal u k = unless_obtained k (next_number u (numbers_down u (k - 1)))

-- e = k + 1 - i - j, where it is from 0 to most and the product of 2j + 1 and c_e isn't obtained
unfoldable pub place_refusal : (ℕ → ℚ) → ℕ → ℕ → ℕ → ℕ → Option ℕ
place_refusal c most i j k =
    where_so (leb (i + j) (k + 1) && leb (k + 1 - (i + j)) most)
    (unless_obtained (k + 1 - (i + j)) (obtained_product (whole (2 * j + 1)) (c (k + 1 - (i + j)))))

-- the first such e over the places of B with indices below dim, by i, j and k ascending: at one i and j, at one i, at all
abbrev pub row_refusal : (ℕ → ℚ) → ℕ → ℕ → ℕ → ℕ → Option ℕ
row_refusal c dim most i j = first_answer 0 dim (place_refusal c most i j)

abbrev pub plane_refusal : (ℕ → ℚ) → ℕ → ℕ → ℕ → Option ℕ
plane_refusal c dim most i = first_answer 0 dim (row_refusal c dim most i)

abbrev pub entry_refusal : (ℕ → ℚ) → ℕ → ℕ → Option ℕ
entry_refusal c dim most = first_answer 0 dim (plane_refusal c dim most)

-- What is named of the steps from numbers to entries, None where all are obtained: the e of the first entry of B whose product
-- isn't obtained; else 1, where the product of c_1 and 1/8 isn't.
unfoldable pub tensors_refusal : (ℕ → ℚ) → ℕ → ℕ → Option ℕ
tensors_refusal c dim most = or_else (entry_refusal c dim most) (unless_obtained 1 (obtained_product (c 1) (pos 1 /ℚ 8)))

-- What is named of all steps: the least k from 1 to most at which c_k isn't obtained; else what is named of the entries.
unfoldable pub curve_refusal : (ℕ → ℚ) → ℕ → ℕ → Option ℕ
curve_refusal u dim most = or_else (first_answer 1 most (number_refusal u)) (tensors_refusal (number_of u) dim most)
