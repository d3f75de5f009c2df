-- The plan of wk up to 3, its levels, terms and needs, and the splits of a list, each by computation.
use mathlib.Core.Path.{◌≡◌, refl}
use mathlib.Core.Bool.{true, false}
use mathlib.Core.List.{[], ◌∷◌, map}
use lib.IntN.{pos}
use Rattle.airy_math.specs.Rational.{◌/ℚ◌}
use Rattle.airy_math.specs.RationalLaws.{1ℚ}
use Rattle.airy_math.specs.Keys.{key_of, less_list, before}
use Rattle.airy_math.specs.Splits.{splits}
use Rattle.airy_math.specs.Named.{wk, bgw}
use Rattle.airy_math.specs.Planned.{planned}
use Rattle.airy_math.specs.Terms.{Once, Joined, Twice, terms, needs}
use Rattle.airy_math.specs.Levels.{level, number_before}
use Rattle.airy_math.specs.Examples.{computes}

parts_001 : map (λ s. s.part) (splits (0 ∷ 0 ∷ 1 ∷ [])) ≡ [] ∷ (1 ∷ []) ∷ (0 ∷ []) ∷ (0 ∷ 1 ∷ []) ∷ (0 ∷ 0 ∷ []) ∷ (0 ∷ 0 ∷ 1 ∷ []) ∷ []
unfolding computes
parts_001 = refl

planned_wk_3 : planned (wk 4) 3 ≡
    key_of 0 (0 ∷ 0 ∷ 0 ∷ []) ∷ key_of 1 (1 ∷ [])
    ∷ key_of 0 (0 ∷ 0 ∷ 0 ∷ 1 ∷ []) ∷ key_of 1 (0 ∷ 2 ∷ []) ∷ key_of 1 (1 ∷ 1 ∷ [])
    ∷ key_of 0 (0 ∷ 0 ∷ 0 ∷ 0 ∷ 2 ∷ []) ∷ key_of 0 (0 ∷ 0 ∷ 0 ∷ 1 ∷ 1 ∷ [])
    ∷ key_of 1 (0 ∷ 0 ∷ 3 ∷ []) ∷ key_of 1 (0 ∷ 1 ∷ 2 ∷ []) ∷ key_of 1 (1 ∷ 1 ∷ 1 ∷ []) ∷ key_of 2 (4 ∷ []) ∷ []
unfolding computes
planned_wk_3 = refl

-- the level of Euler number 2
level_wk_2 : level (wk 4) 2 ≡ key_of 0 (0 ∷ 0 ∷ 0 ∷ 1 ∷ []) ∷ key_of 1 (0 ∷ 2 ∷ []) ∷ key_of 1 (1 ∷ 1 ∷ []) ∷ []
unfolding computes level
level_wk_2 = refl

-- 2,1 [4] has rank 10
rank_of_last : number_before (key_of 2 (4 ∷ [])) (planned (wk 4) 3) ≡ 10
unfolding computes before less_list number_before
rank_of_last = refl

-- bgw has no key of genus 0, as A is 0 and so is each amplitude there
planned_bgw_3 : planned (bgw 1) 3 ≡ key_of 1 (0 ∷ []) ∷ key_of 1 (0 ∷ 0 ∷ []) ∷ key_of 1 (0 ∷ 0 ∷ 0 ∷ []) ∷ key_of 2 (1 ∷ []) ∷ []
unfolding computes bgw
planned_bgw_3 = refl

-- 0,5 [0 0 0 0 2] at the pivot 2: four times B^2_01 F(0,4)[0 0 0 1], and C^2_00 / 2 times the six splits of 0 0 0 0 in halves
terms_05 : terms (wk 4) 2 0 (0 ∷ 0 ∷ 0 ∷ 0 ∷ []) ≡
    Once (pos 4 /ℚ 1) 1ℚ (key_of 0 (0 ∷ 0 ∷ 0 ∷ 1 ∷ []))
    ∷ Twice true 1ℚ (pos 6 /ℚ 1) (key_of 0 (0 ∷ 0 ∷ 0 ∷ [])) (key_of 0 (0 ∷ 0 ∷ 0 ∷ [])) ∷ []
unfolding computes
terms_05 = refl

-- 1,3 [0 1 2] at the pivot 2: B^2_01 F(1,2)[1 1], then B^2_12 F(1,2)[0 2], then C^2_00 / 2 times F(0,4)[0 0 0 1]
terms_13 : terms (wk 4) 2 1 (0 ∷ 1 ∷ []) ≡
    Once 1ℚ 1ℚ (key_of 1 (1 ∷ 1 ∷ [])) ∷ Once 1ℚ (pos 3 /ℚ 1) (key_of 1 (0 ∷ 2 ∷ []))
    ∷ Joined true 1ℚ (key_of 0 (0 ∷ 0 ∷ 0 ∷ 1 ∷ [])) ∷ []
unfolding computes
terms_13 = refl

-- 2,1 [4]: of the pair 0 2 the joined term, of the pair 1 1 the joined term and one product
terms_21 : terms (wk 4) 4 2 [] ≡
    Joined false 1ℚ (key_of 1 (0 ∷ 2 ∷ [])) ∷ Joined true 1ℚ (key_of 1 (1 ∷ 1 ∷ []))
    ∷ Twice true 1ℚ 1ℚ (key_of 1 (1 ∷ [])) (key_of 1 (1 ∷ [])) ∷ []
unfolding computes
terms_21 = refl

-- 2,1 [4] needs 1,2 [0 2] from the pair 0 2, and from the pair 1 1 the key 1,2 [1 1] and twice 1,1 [1]
needs_21 : needs (wk 4) (key_of 2 (4 ∷ [])) ≡ key_of 1 (0 ∷ 2 ∷ []) ∷ key_of 1 (1 ∷ 1 ∷ []) ∷ key_of 1 (1 ∷ []) ∷ key_of 1 (1 ∷ []) ∷ []
unfolding computes needs
needs_21 = refl
