-- What is written is read back.
use Rattle.std.specs.Prelude.{◌≡◌, ℕ, ◌≤◌, List, length, Some, None}
use Rattle.airy_math.specs.Rational.{ℚ}
use Rattle.amp_plan.specs.Plans.{Planning}
use Rattle.airy_json.specs.Reading.{Kind, kind_of, IsPlanOf, making_over, Gives, answer_of}

-- A text of at most 16,777,216 bytes is read as the plan's bound and these values, with the kind that s says, where the plan is one
-- of that kind and every number of Weil and Petersson that the kind needs is obtained.
abbrev pub ReadsBack : List ℕ → Planning → List ℚ → List ℕ → Type 0
ReadsBack s plan vs bytes =
    length bytes ≤ 16777216 → (kind : Kind) → kind_of s ≡ Some kind → IsPlanOf kind plan.bound plan → making_over kind plan.bound ≡ None
    → answer_of bytes ≡ Gives kind plan.bound vs
