-- Lists of items: those that a test picks, one more item in its place, and the order of items.
use mathlib.Core.Path.{◌≡◌}
use mathlib.Core.Bool.{Bool, true, false, cond}
use mathlib.Core.List.{List, [], ◌∷◌}
use Rattle.airy_math.specs.Rational.{ℚ}
use Rattle.airy_math.specs.RationalLaws.{0ℚ}

-- what the step makes of the picked items, from the last to the first, beginning with the end
abbrev pub fold_where : {E B : Type 0} → (E → Bool) → (E → B → B) → B → List E → B
fold_where test step end [] = end
fold_where test step end (e ∷ es) = cond (test e) (step e (fold_where test step end es)) (fold_where test step end es)

-- the value of the first item that is picked, 0 where there is none
abbrev pub first_value : {E : Type 0} → (E → Bool) → (E → ℚ) → List E → ℚ
first_value test value = fold_where test (λ e rest. value e) 0ℚ

-- whether an item is picked
abbrev pub is_any : {E : Type 0} → (E → Bool) → List E → Bool
is_any test = fold_where test (λ e rest. true) false

-- what is read of each item that is picked
abbrev pub picked : {E F : Type 0} → (E → Bool) → (E → F) → List E → List F
picked test read = fold_where test (λ e rest. read e ∷ rest) []

-- the list with x in front of the first item that the test picks, or at its end
abbrev pub put_in_front : {E : Type 0} → (E → Bool) → E → List E → List E
put_in_front test x [] = x ∷ []
put_in_front test x (e ∷ es) = cond (test e) (x ∷ e ∷ es) (e ∷ put_in_front test x es)

-- x stands before the first item of the list, if there is one
abbrev pub IsNext : {E : Type 0} → (E → E → Bool) → E → List E → Type 0
IsNext before x [] = Unit
IsNext before x (e ∷ es) = before x e ≡ true

-- each item stands before the one behind it
abbrev pub Ascends : {E : Type 0} → (E → E → Bool) → List E → Type 0
Ascends before [] = Unit
Ascends before (e ∷ es) = IsNext before e es × Ascends before es
