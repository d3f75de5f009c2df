-- Given values as outcomes of ranks.
use Rattle.std.proofs.Common.{ℕ, zero, suc, ◌<◌, ◌≡◌, refl, sym, ap, ap₂, ◌∙◌, true, List, [], ◌∷◌, arith, length, get_or, Some, None}
use Rattle.airy_json.proofs.Common.{ℚ, 0ℚ, Key, remove, Tensors, planned, IsPlanned, place_of, terms, obtained_pivot_sum, Value, Over, has_value, outcome_from, number_at, pivot_outcome, listed, VerifyEnd, as_table, given_to, said, place-has, outcome_shown}
use Rattle.airy_math.proofs.PlanLemmas.{planned_has}
use Rattle.amp_plan.specs.Ranked.{AreAllowed}
use Rattle.amp_terms.specs.Outcomes.{value_or_zero, value_in, ranks_named}
use Rattle.constraint_check.specs.declared.pivots.Failure.{Failure}
use Rattle.airy_json.specs.declared.verify_ends.VerifyEnd.TheVariants as end
use Rattle.airy_json.specs.Verifying.{Names}

pub length-table : (vs : List ℚ) → length (as_table vs) ≡ length vs
unfolding as_table
length-table [] = refl
length-table (v ∷ vs) = ap suc (length-table vs)

-- each rank has its value
pub value_listed : (vs : List ℚ) (r : ℕ) (d : ℚ) → r < length vs → get_or (as_table vs) r Over ≡ Value (get_or vs r d)
unfolding as_table
value_listed [] r d h = absurd (omega arith)
value_listed (v ∷ vs) zero d h = refl
value_listed (v ∷ vs) (suc r) d h = value_listed vs r d (omega arith)

pub has_listed : (vs : List ℚ) (r : ℕ) → r < length vs → has_value (listed (as_table vs) r) ≡ true
unfolding listed has_value
has_listed vs r h = ap has_value (value_listed vs r 0ℚ h)

-- The outcome of a key's pivot sum over given values, where the ranks that its terms name have one: nothing blocks it.
pub outcome_given : (T : Tensors) (X : ℕ) (vs : List ℚ) (key : Key) (i : ℕ) → AreAllowed (λ r. r < length vs) (ranks_named (planned T X) (terms T i key.g (remove i key.idx)))
    → pivot_outcome T (planned T X) (listed (as_table vs)) key i ≡ outcome_from None (obtained_pivot_sum T (given_to T X vs) key i)
unfolding given_to value_in number_at listed
outcome_given T X vs key i h = outcome_shown (λ r. r < length vs) (listed (as_table vs)) (has_listed vs) T (planned T X) key i h

module _ (T : Tensors) (X : ℕ) (vs : List ℚ) (long : length vs ≡ length (planned T X)) (key : Key) (p : IsPlanned T X key) where
  pub rank_within : place_of key (planned T X) < length vs
  rank_within = omega (arith, place-has key (planned T X) (planned_has T X key p), long)

  -- the value at a planned key's rank
  pub given_is : given_to T X vs key ≡ get_or vs (place_of key (planned T X)) 0ℚ
  unfolding given_to value_in value_or_zero
  given_is = ap value_or_zero (value_listed vs (place_of key (planned T X)) 0ℚ rank_within)

  pub given_listed : get_or (as_table vs) (place_of key (planned T X)) Over ≡ Value (given_to T X vs key)
  given_listed = value_listed vs (place_of key (planned T X)) 0ℚ rank_within ∙ ap Value (sym given_is)

-- the end of a key that fails is what is said of it
pub said_failed : (F : Key → ℚ) (e : VerifyEnd) (f : Failure) → Names e f → f.value ≡ F f.key → said F (Some (f.key, (f.pivot, f.sum))) ≡ e
unfolding said
said_failed F end.Solution f n w = absurd n
said_failed F (end.Over key i) f n w = ap (λ s. said F (Some (f.key, (f.pivot, s)))) n.2 ∙ ap₂ end.Over (sym n.0) (sym n.1)
said_failed F (end.Differs key i v a) f n w = ap (λ s. said F (Some (f.key, (f.pivot, s)))) n.2 ∙ all (sym n.0) (sym n.1) (sym w ∙ sym n.3)
  where
    all : {k k' : Key} {i i' : ℕ} {a a' : ℚ} → k ≡ k' → i ≡ i' → a ≡ a' → end.Differs k i v a ≡ end.Differs k' i' v a'
    all p q r = cc
