-- For private functions and for proofs: no public contract rests on this file.
-- What the steps of a volume keep.
use Prim.Native.Nat.{ℕ, ◌<◌, ◌≤◌}
use mathlib.Core.Path.{◌≡◌}
use mathlib.Core.Bool.{true, cond}
use mathlib.Core.List.{List, ◌++◌, map}
use mathlib.Core.Logic.{◌⊎◌}
use lib.ListN.{length, get_or}
use Rattle.std.specs.Prelude.{Option, Some, option_map}
use lib.IntN.{pos}
use Rattle.airy_math.specs.Rational.{ℚ, ◌/ℚ◌}
use Rattle.airy_math.specs.RationalLaws.{0ℚ}
use Rattle.airy_math.specs.Sums.{each}
use Rattle.airy_math.specs.Keys.{Key, euler}
use Rattle.airy_math.specs.Families.{wp_shape}
use Rattle.amp_plan.specs.Plans.{Planning, keys_of, key_at}
use Rattle.amp_terms.specs.declared.Outcome.{Outcome}
use Rattle.correlators.specs.declared.refusals.CorrErr.{CorrErr}
use Rattle.correlators.specs.declared.refusals.CorrErr.TheVariants as refused
use Rattle.correlators.specs.declared.polynomial.Term.{Term}
use Rattle.correlators.specs.declared.lists.Source.{Source}
use Rattle.correlators.specs.Volumes.{is_of, keys_of_pair, coefficient_of, first_lacking, term_of, parts_of, greatest_sum, lists_up_to}

-- A pair that the plan and the pair alone don't refuse, of tensors with the law of Weil and Petersson.
pub record IsAsked (p : Planning) (g n : ℕ) : Type 0 where
  pub letter : p.tensors.letter ≡ true
  pub shape : p.tensors.shape ≡ wp_shape
  pub stable : 0 < euler g n
  pub some : 1 ≤ n
  pub most : n ≤ 26
  pub within : euler g n ≤ p.bound
  pub small : euler g n ≤ 24
  pub below : greatest_sum g n < p.tensors.dim

-- the number of a key of (g,n), and 0 for each other
unfoldable pub own_number : ℕ → ℕ → (Key → Option ℚ) → Key → Option ℚ
own_number g n number key = cond (is_of g n key) (number key) (Some (pos 0 /ℚ 1))

-- The numbers of the first ranks: those of the keys of (g,n) are their coefficients.
pub record AreCoefficients (p : Planning) (cells : List (Option Outcome)) (g n count : ℕ) (numbers : List ℚ) : Type 0 where
  pub len : length numbers ≡ count
  pub own : (r : ℕ) → r < count → own_number g n (coefficient_of p cells) (key_at p r) ≡ Some (get_or numbers r 0ℚ)

-- the refusal names the first key of (g,n) without a coefficient, or it is want of memory
unfoldable pub TellsOver : Planning → List (Option Outcome) → ℕ → ℕ → CorrErr → Type 0
TellsOver p cells g n e =
    (option_map (λ key. refused.Over key) (first_lacking (coefficient_of p cells) (keys_of_pair p g n)) ≡ Some e)
    ⊎ (e ≡ refused.NoMemory)

-- the lists, each behind the prefix
unfoldable pub behind : List ℕ → List (List ℕ) → List (List ℕ)
behind prefix ls = map (λ ds. prefix ++ ds) ls

-- The terms of the lists stand behind the old ones, whatever the table is that the numbers are of.
unfoldable pub AddsTerms : Planning → ℕ → ℕ → List ℚ → List (List ℕ) → List Term → List Term → Type 0
AddsTerms p g n numbers ls old new = (cells : List (Option Outcome)) → AreCoefficients p cells g n (length (keys_of p)) numbers
    → parts_of new ≡ parts_of old ++ each ls (term_of p cells g)

-- The same of what the terms are made of.
abbrev pub AddsOf : Source → List (List ℕ) → List Term → List Term → Type 0
AddsOf s ls old new = AddsTerms s.plan.now s.genus s.places s.coefficients.now ls old new

-- all lists that have a term, in order
abbrev pub lists_of : Source → List (List ℕ)
lists_of s = lists_up_to s.places (greatest_sum s.genus s.places)
