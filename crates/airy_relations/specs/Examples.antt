-- Small verdicts, each by computation.
use Prim.Native.Nat.{ℕ, ◌^◌}
use mathlib.Core.Path.{◌≡◌, refl}
use mathlib.Core.Bool.{◌&&◌}
use mathlib.Core.List.{[], ◌∷◌}
use lib.Dec.{eqb}
use Rattle.airy_math.specs.Rational.{whole, ◌+ℚ◌}
use Rattle.airy_math.specs.RationalLaws.{0ℚ}
use Rattle.airy_math.specs.Sums.{when}
use Rattle.airy_math.specs.declared.Shape.TheVariants.{All}
use Rattle.airy_math.specs.Tensors.{Tensors, same_number}
use Rattle.airy_math.specs.Named.{wk, bgw}
use Rattle.airy_math.specs.Examples.{computes}
use Rattle.airy_relations.specs.Sides.{AA, BB, D, at_BA, at_BB, at_BC, at_D, of_pair}
use Rattle.airy_relations.specs.Sides.{products, product_value, obtained_value, obtained_side}
use Rattle.airy_relations.specs.Places.{indices, choices_k, choices_l, from_to, places_of, places}
use Rattle.airy_relations.specs.Verdicts.{Closed, Differs, Over, compared, verdict_at, or_later, first_over, verdict}

-- To name this on an `unfolding` line opens the definitions of verdicts, too.
unfoldable pub verdicts_compute : ℕ → ℕ
unfolding computes at_BA at_BB at_BC at_D of_pair products product_value obtained_value obtained_side indices choices_k choices_l
    from_to places_of places same_number compared verdict_at or_later first_over verdict
verdicts_compute n = n

wk_closed : verdict (wk 6) 3 ≡ Closed
unfolding verdicts_compute
wk_closed = refl

bgw_closed : verdict (bgw 6) 3 ≡ Closed
unfolding verdicts_compute bgw
bgw_closed = refl

-- two indices, and no entries
unfoldable none : Tensors
none = record { dim = 2; shape = All; A = λ i j k. 0ℚ; B = λ i j k. 0ℚ; C = λ i j k. 0ℚ; D = λ i. 0ℚ }

single_entry : verdict (record none { A = λ i j k. when (eqb i 0 && eqb j 1 && eqb k 1) (whole 1) }) 2
    ≡ Differs AA (0 ∷ 1 ∷ 1 ∷ 0 ∷ []) (whole 1) (whole 0)
unfolding verdicts_compute none
single_entry = refl

-- This one fails at no other place of BB.
above_l : verdict (record none {
  B = λ i j k. when (eqb i 0 && eqb j 1 && eqb k 0) (whole 2)
      +ℚ when (eqb i 1 && eqb j 1 && eqb k 1) (whole 1);
}) 2
    ≡ Differs BB (0 ∷ 1 ∷ 1 ∷ 0 ∷ []) (whole 4) (whole 2)
unfolding verdicts_compute none
above_l = refl

too_large : verdict (record none {
  B = λ i j k. when (eqb i 1 && eqb j 0 && eqb k 0) (whole (2 ^ 64));
  D = λ i. when (eqb i 0) (whole (2 ^ 64));
}) 2
    ≡ Over D (0 ∷ 1 ∷ 0 ∷ 0 ∷ [])
unfolding verdicts_compute none
too_large = refl
