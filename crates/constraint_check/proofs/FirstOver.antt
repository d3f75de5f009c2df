-- The first rank without a Value has the outcome Over: what its key needs has lower ranks.
use Rattle.std.proofs.Common.{◌≡◌, ℕ, ◌<◌, true, false, length, Option, Some, None, refl, sym, ap, ◌∙◌}
use Rattle.airy_math.specs.Keys.{Key, head_or}
use Rattle.airy_math.specs.Rational.{ℚ}
use Rattle.airy_math.specs.Terms.{obtained_pivot_sum}
use Rattle.airy_math.specs.Ranks.{place_of}
use Rattle.amp_plan.specs.Needs.{AreNeeds}
use Rattle.amp_plan.specs.Plans.{Planning, tensors_of, keys_of, key_at}
use Rattle.amp_terms.specs.declared.Outcome.TheVariants.{Over}
use Rattle.amp_terms.specs.Outcomes.{has_value, outcome_at, outcome_from}
use Rattle.amp_terms.specs.Pivots.{number_at}
use Rattle.amp_terms.proofs.NamedLemmas.{named_below}
use Rattle.amp_terms.proofs.OutcomeLemmas.{outcome_known}
use Rattle.series_law.proofs.PivotsLaw.{outcome_shown}

over_from : (s : Option ℚ) → has_value (outcome_from None s) ≡ false → outcome_from None s ≡ Over
unfolding outcome_from has_value
over_from None e = refl
over_from (Some v) e = cc

pub first_over : (p : Planning) (r : ℕ) → AreNeeds (tensors_of p) p.bound → r < length (keys_of p) → has_value (outcome_at p r) ≡ false → ((q : ℕ) → q < r → has_value (outcome_at p q) ≡ true) → outcome_at p r ≡ Over
first_over p r are h none lower = sym is ∙ over_from sum (ap has_value is ∙ none)
  where
    key : Key
    key = key_at p r

    sum : Option ℚ
    sum = obtained_pivot_sum (tensors_of p) (λ k. number_at (outcome_at p) (place_of k (keys_of p))) key (head_or 0 key.idx)

    is : outcome_from None sum ≡ outcome_at p r
    is =
        sym (outcome_shown (λ q. q < r) (outcome_at p) lower (tensors_of p) (keys_of p) key (head_or 0 key.idx) (named_below (λ q. q < r) p r are h (λ q l. l)))
        ∙ outcome_known p r (outcome_at p) h (named_below (λ q. (q < r) × (outcome_at p q ≡ outcome_at p q)) p r are h (λ q l. (l, refl)))
