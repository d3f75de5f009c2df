-- Residues of the solution of wk up to 3, and the relations of a structure that closes and of one that doesn't, each by computation.
use Prim.Native.Nat.{ℕ}
use mathlib.Core.Path.{◌≡◌, refl}
use mathlib.Core.Bool.{true, false, ◌&&◌}
use mathlib.Core.List.{[], List, ◌∷◌}
use lib.Dec.{eqb}
use lib.IntN.{pos, negsuc}
use Rattle.airy_math.specs.Rational.{ℚ, ◌/ℚ◌, ◌+ℚ◌}
use Rattle.airy_math.specs.RationalLaws.{0ℚ, 1ℚ}
use Rattle.airy_math.specs.Sums.{when}
use Rattle.airy_math.specs.Keys.{same_list}
use Rattle.airy_math.specs.Shapes.{All}
use Rattle.airy_math.specs.Tensors.{Tensors}
use Rattle.airy_math.specs.Named.{wk}
use Rattle.airy_math.specs.Relations.{rel_AA, rel_BA, rel_BB, rel_BC, rel_D, differences, all_zero}
use Rattle.airy_math.specs.Series.{Series, residue}
use Rattle.airy_math.specs.Examples.{computes}

-- v at h^(k-1) x^p
unfoldable pub at_place : ℚ → ℕ → List ℕ → Series
at_place v k p g e = when (eqb g k && same_list e p) v

-- the solution of wk up to 3: the eleven amplitudes, each divided by the factorials of its exponents
unfoldable pub wk_3_series : Series
wk_3_series g e =
    at_place (pos 1 /ℚ 6) 0 (3 ∷ 0 ∷ 0 ∷ 0 ∷ 0 ∷ []) g e
    +ℚ at_place (pos 1 /ℚ 8) 1 (0 ∷ 1 ∷ 0 ∷ 0 ∷ 0 ∷ []) g e
    +ℚ at_place (pos 3 /ℚ 6) 0 (3 ∷ 1 ∷ 0 ∷ 0 ∷ 0 ∷ []) g e
    +ℚ at_place (pos 5 /ℚ 8) 1 (1 ∷ 0 ∷ 1 ∷ 0 ∷ 0 ∷ []) g e
    +ℚ at_place (pos 3 /ℚ 16) 1 (0 ∷ 2 ∷ 0 ∷ 0 ∷ 0 ∷ []) g e
    +ℚ at_place (pos 15 /ℚ 24) 0 (4 ∷ 0 ∷ 1 ∷ 0 ∷ 0 ∷ []) g e
    +ℚ at_place (pos 18 /ℚ 12) 0 (3 ∷ 2 ∷ 0 ∷ 0 ∷ 0 ∷ []) g e
    +ℚ at_place (pos 35 /ℚ 16) 1 (2 ∷ 0 ∷ 0 ∷ 1 ∷ 0 ∷ []) g e
    +ℚ at_place (pos 15 /ℚ 4) 1 (1 ∷ 1 ∷ 1 ∷ 0 ∷ 0 ∷ []) g e
    +ℚ at_place (pos 9 /ℚ 24) 1 (0 ∷ 3 ∷ 0 ∷ 0 ∷ 0 ∷ []) g e
    +ℚ at_place (pos 105 /ℚ 128) 2 (0 ∷ 0 ∷ 0 ∷ 0 ∷ 1 ∷ []) g e

-- genus 0: products of F(0,3) with itself, and 15 = 4 times 3 and a half of 6
residue_products : residue (wk 4) wk_3_series 2 0 (4 ∷ 0 ∷ 0 ∷ 0 ∷ 0 ∷ []) ≡ 0ℚ
unfolding computes wk_3_series at_place
residue_products = refl

-- genus 1: the joined term F(0,4) and products of F(0,3) with F(1,1)
residue_joined : residue (wk 4) wk_3_series 3 1 (2 ∷ 0 ∷ 0 ∷ 0 ∷ 0 ∷ []) ≡ 0ℚ
unfolding computes wk_3_series at_place
residue_joined = refl

-- genus 2: joined terms F(1,2), and F(1,1) times itself
residue_two : residue (wk 4) wk_3_series 4 2 (0 ∷ 0 ∷ 0 ∷ 0 ∷ 0 ∷ []) ≡ 0ℚ
unfolding computes wk_3_series at_place
residue_two = refl

-- and where one coefficient is another, the residue isn't 0
residue_wrong : residue (wk 4) (λ g e. wk_3_series g e +ℚ at_place (pos 1 /ℚ 2) 1 (0 ∷ 1 ∷ 0 ∷ 0 ∷ 0 ∷ []) g e) 1 1 (0 ∷ 0 ∷ 0 ∷ 0 ∷ 0 ∷ [])
    ≡ pos 1 /ℚ 2
unfolding computes wk_3_series at_place
residue_wrong = refl

-- ---- relations

-- v where the indices are these
unfoldable pub entry : ℚ → ℕ → ℕ → ℕ → ℕ → ℕ → ℕ → ℚ
entry v a b c i j k = when (eqb i a && eqb j b && eqb k c) v

-- Two structures of one index, with A, B, C, D = 3, 2, 1, 1/4 and 1, 1, 1, 1/8, after the change of basis in which the
-- second amplitude is the sum of both.
unfoldable pub closed : Tensors
closed = record {
  dim = 2;
  shape = All;
  A = λ i j k. (pos 3 /ℚ 1) +ℚ entry 1ℚ 1 1 1 i j k;
  B = λ i j k. entry (pos 2 /ℚ 1) 0 0 0 i j k +ℚ entry (pos 2 /ℚ 1) 0 1 0 i j k +ℚ entry (pos 2 /ℚ 1) 1 0 0 i j k
      +ℚ entry 1ℚ 1 1 0 i j k +ℚ entry 1ℚ 1 1 1 i j k;
  C = λ i j k. entry 1ℚ 0 0 0 i j k +ℚ entry (pos 2 /ℚ 1) 1 0 0 i j k +ℚ entry (negsuc 0 /ℚ 1) 1 0 1 i j k
      +ℚ entry (negsuc 0 /ℚ 1) 1 1 0 i j k +ℚ entry 1ℚ 1 1 1 i j k;
  D = λ i. when (eqb i 0) (pos 1 /ℚ 4) +ℚ when (eqb i 1) (pos 3 /ℚ 8);
}

closed_closes : all_zero (differences closed 2) ≡ true
unfolding computes closed entry rel_AA rel_BA rel_BB rel_BC rel_D differences all_zero
closed_closes = refl

-- the five expressions at places where none is 0
closed_values : rel_AA closed 0 1 1 ∷ rel_BA closed 0 1 1 1 ∷ rel_BB closed 0 1 1 0 ∷ rel_BC closed 0 1 0 0 ∷ rel_D closed 0 1 ∷ []
    ≡ (pos 3 /ℚ 1) ∷ (pos 18 /ℚ 1) ∷ (pos 11 /ℚ 1) ∷ (pos 6 /ℚ 1) ∷ (pos 2 /ℚ 1) ∷ []
unfolding computes closed entry rel_AA rel_BA rel_BB rel_BC rel_D
closed_values = refl

-- B^0_10 = 2 and B^1_11 = 1 alone: for i = 0 and j = 1 the relation BB differs at k = 1, l = 0 and nowhere else; the other
-- four have no entry to stand on
unfoldable pub broken : Tensors
broken = record {
  dim = 2;
  shape = All;
  A = λ i j k. 0ℚ;
  B = λ i j k. entry (pos 2 /ℚ 1) 0 1 0 i j k +ℚ entry 1ℚ 1 1 1 i j k;
  C = λ i j k. 0ℚ;
  D = λ i. 0ℚ;
}

broken_left : rel_BB broken 0 1 0 0 ∷ rel_BB broken 0 1 0 1 ∷ rel_BB broken 0 1 1 0 ∷ rel_BB broken 0 1 1 1 ∷ []
    ≡ 0ℚ ∷ 0ℚ ∷ (pos 4 /ℚ 1) ∷ 0ℚ ∷ []
unfolding computes broken entry rel_BB
broken_left = refl

broken_right : rel_BB broken 1 0 0 0 ∷ rel_BB broken 1 0 0 1 ∷ rel_BB broken 1 0 1 0 ∷ rel_BB broken 1 0 1 1 ∷ []
    ≡ 0ℚ ∷ 0ℚ ∷ (pos 2 /ℚ 1) ∷ 0ℚ ∷ []
unfolding computes broken entry rel_BB
broken_right = refl

broken_opens : all_zero (differences broken 2) ≡ false
unfolding computes broken entry rel_AA rel_BA rel_BB rel_BC rel_D differences all_zero
broken_opens = refl
