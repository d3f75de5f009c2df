-- A blocked rank rests on a lower one.
use Rattle.std.proofs.Common.{◌≡◌, ◌⊎◌, inl, inr, ℕ, ◌<◌, ◌≤◌, min, Bool, true, false, List, [], ◌∷◌, length, Option, Some, None, arith, refl, sym, ◌∙◌, subst}
use Rattle.std.proofs.lemmas.Bool.{cases_lt}
use Rattle.std.specs.Prelude.{cond}
use Rattle.airy_math.specs.Rational.{ℚ}
use Rattle.amp_plan.specs.Needs.{AreNeeds}
use Rattle.amp_plan.specs.Plans.{Planning, tensors_of, keys_of, key_at}
use Rattle.amp_plan.specs.Ranked.{AreAllowed}
use Rattle.amp_terms.specs.declared.Outcome.{Outcome}
use Rattle.amp_terms.specs.declared.Outcome.TheVariants.{Blocked}
use Rattle.amp_terms.specs.Outcomes.{has_value, smaller, outcome_from, outcome_at}
use Rattle.amp_terms.specs.Pivots.{least_without, pivot_outcome}
use Rattle.amp_terms.proofs.NamedLemmas.{named_below}
use Rattle.amp_terms.proofs.OutcomeLemmas.{outcome_known}

-- the least rank of a list without a Value is one of the list
least-named : (P : ℕ → Type 0) (shown : ℕ → Outcome) (rs : List ℕ) (q : ℕ) → AreAllowed P rs → least_without shown rs ≡ Some q → P q
unfolding AreAllowed least_without smaller
least-named P shown [] q h e = cc
least-named P shown (r ∷ rs) q h e = by (has_value (shown r)) (least_without shown rs) (λ s f. least-named P shown rs s h.1 f) refl e
  where
    of_min : (s : ℕ) → P s → (r < s) ⊎ (s ≤ r) → P (min r s)
    of_min s p (inl l) = let m : min r s ≡ r = omega arith in subst P (sym m) h.0
    of_min s p (inr l) = let m : min r s ≡ s = omega arith in subst P (sym m) p

    by : (b : Bool) (o : Option ℕ) → ((s : ℕ) → least_without shown rs ≡ Some s → P s) → least_without shown rs ≡ o → cond b o (smaller r o) ≡ Some q → P q
    by true o rest f e = rest q (f ∙ e)
    by false None rest f e = let same : r ≡ q = cc in subst P same h.0
    by false (Some s) rest f e = let same : min r s ≡ q = cc in subst P same (of_min s (rest s f) (cases_lt r s))

blocked-by : (o : Option ℕ) (v : Option ℚ) (q : ℕ) → outcome_from o v ≡ Blocked q → o ≡ Some q
unfolding outcome_from
blocked-by (Some r) v q e = cc
blocked-by None None q e = cc
blocked-by None (Some v) q e = cc

pub blocked-below : (p : Planning) (r q : ℕ) → AreNeeds (tensors_of p) p.bound → r < length (keys_of p) → outcome_at p r ≡ Blocked q → q < r
unfolding pivot_outcome
blocked-below p r q are h e =
    let key = key_at p r in let T = tensors_of p in
    let named = named_below (λ q. (q < r) × (outcome_at p q ≡ outcome_at p q)) p r are h (λ q l. (l, refl)) in
    (least-named (λ q. (q < r) × (outcome_at p q ≡ outcome_at p q)) (outcome_at p) _ q named (blocked-by _ _ q (outcome_known p r (outcome_at p) h named ∙ e))).0
