-- What a table shows at a rank is what every solution has there, and so are the numbers.
use Rattle.std.proofs.Common.{◌≡◌, false, List, Option, Some, None, Result, refl, sym, ap, subst, ◌∙◌, pos, get_or, inl, IfOk}
use Rattle.correlators.proofs.Words.{ℚ, ◌/ℚ◌, ◌*ℚ◌, 0ℚ, 1ℚ, 1ℚ_idl, 0ℚ-*ℚ, Key, covers, Tensors, Series, amplitude, power, letter_of, power-one, looked_up, Planning, tensors_of, keys_of, rank_at, Outcome, Value, Blocked, value_at, value_of_cell, HoldsOutcomes, intersection_number, odd_factorials, CorrErr, over_odd_factorials, number_of, quotient_at, IsShown, NumberOfSolutions}
use Rattle.amp_terms.specs.declared.Outcome.TheVariants.{Over}
use Rattle.amp_terms.specs.Tables.{value_of}
use Rattle.correlators.proofs.ExactLemmas.{odd_exact}
use Rattle.series_law.proofs.AmplitudeLaw.{shown_value}

module _ (p : Planning) (cells : List (Option Outcome)) (key : Key) (holds : HoldsOutcomes p cells) where
  -- the Value of a planned key, with the letter's power, is the amplitude of every solution that the table shows
  pub amplitude_there : (v u : ℚ) (T' : Tensors) (f : Series) → IsShown p u T' f → value_at cells (rank_at p key) ≡ Some v → amplitude T'.dim f key ≡ power u (letter_of p.tensors.shape key) *ℚ v
  unfolding HoldsOutcomes value_at rank_at keys_of tensors_of looked_up
  amplitude_there v u T' f shown e = shown.values key v (sym (holds (rank_at p key) (Value v) (shown_value (get_or cells (rank_at p key) None) v e)))

  quotient_unique : (v w : ℚ) → value_at cells (rank_at p key) ≡ Some v → over_odd_factorials key.idx v ≡ Some w → NumberOfSolutions p key w
  unfolding NumberOfSolutions intersection_number
  quotient_unique v w e h T' f shown sorted =
      ap (λ x. x *ℚ (pos 1 /ℚ odd_factorials key.idx))
      (amplitude_there v 1ℚ T' f shown e ∙ ap (λ x. x *ℚ v) (power-one (letter_of p.tensors.shape key)) ∙ 1ℚ_idl v)
      ∙ sym (odd_exact key.idx v w h)

  -- the number of a key at a rank is that of every solution
  pub number_unique : (value : Option ℚ) (result : Result ℚ CorrErr) → result ≡ number_of key value → value ≡ value_at cells (rank_at p key) → IfOk result (NumberOfSolutions p key)
  number_unique None result e h = subst (λ r. IfOk r (NumberOfSolutions p key)) (sym e) tt
  number_unique (Some v) result e h = subst (λ r. IfOk r (NumberOfSolutions p key)) (sym e) (by (over_odd_factorials key.idx v) refl)
    where
      by : (o : Option ℚ) → over_odd_factorials key.idx v ≡ o → IfOk (quotient_at key o) (NumberOfSolutions p key)
      by None i = tt
      by (Some w) i = quotient_unique v w (sym h) i

-- where the shape does not cover the key, every solution has 0
pub zero_unique : (p : Planning) (key : Key) → covers p.tensors.shape key ≡ false → NumberOfSolutions p key 0ℚ
unfolding NumberOfSolutions intersection_number tensors_of looked_up
zero_unique p key un T' f shown sorted = ap (λ x. x *ℚ (pos 1 /ℚ odd_factorials key.idx)) (shown.zeros key sorted (inl un)) ∙ 0ℚ-*ℚ (pos 1 /ℚ odd_factorials key.idx)
