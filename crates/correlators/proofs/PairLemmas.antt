-- The keys of a pair, and the first of them that has no number.
use Rattle.std.proofs.Common.{◌≡◌, ℕ, ◌+◌, ◌<◌, ◌≤◌, Bool, true, false, List, [], ◌∷◌, ◌++◌, length, drop, get_or, Option, Some, None, refl, sym, ap, ◌∙◌, arith, pos, is_none, cond, option_and_then, ◌⊎◌, inl, inr}
use Rattle.correlators.proofs.Words.{at_drop_more, at_drop_all, get_or_append_left, get_or_push, length_push, cases_lt, ℚ, ◌/ℚ◌, 0ℚ, Key, keep, ListsPlanned, no_key, Planning, tensors_of, keys_of, key_at, rank_at, Outcome, value_at, over_factorials, is_of, keys_of_pair, table_coefficient, coefficient_of, first_lacking, own_number, AreCoefficients}
use Rattle.correlators.specs.Volumes.{value_of}

-- the Value at a rank is that of its key
pub value_here : (p : Planning) (cells : List (Option Outcome)) (r : ℕ) → ListsPlanned (tensors_of p) p.bound → r < length (keys_of p) → value_of p cells (key_at p r) ≡ value_at cells r
unfolding value_of rank_at key_at keys_of
value_here p cells r planned h = ap (value_at cells) (planned.once r h)

pub coefficient_here : (p : Planning) (cells : List (Option Outcome)) (r : ℕ) → ListsPlanned (tensors_of p) p.bound → r < length (keys_of p)
    → coefficient_of p cells (key_at p r) ≡ option_and_then (over_factorials (key_at p r).idx) (value_at cells r)
unfolding coefficient_of table_coefficient rank_at key_at keys_of
coefficient_here p cells r planned h = ap (λ q. option_and_then (over_factorials (key_at p r).idx) (value_at cells q)) (planned.once r h)

-- ---- the first key without a number

module _ (p : Planning) (g n : ℕ) (number : Key → Option ℚ) where
  -- from the rank r on
  unfoldable pub lacking_from : ℕ → Option Key
  lacking_from r = first_lacking number (keep (is_of g n) (drop r (keys_of p)))

  step : (k : Key) (ks : List Key) → first_lacking number (keep (is_of g n) (k ∷ ks)) ≡ cond (is_none (own_number g n number k)) (Some k) (first_lacking number (keep (is_of g n) ks))
  unfolding first_lacking keep own_number
  step k ks = by (is_of g n k)
    where
      by : (t : Bool) → first_lacking number (elim t [ true ↦ k ∷ keep (is_of g n) ks | false ↦ keep (is_of g n) ks ]) ≡ cond (is_none (cond t (number k) (Some (pos 0 /ℚ 1)))) (Some k) (first_lacking number (keep (is_of g n) ks))
      by true = refl
      by false = refl

  at_rank : (r : ℕ) → r < length (keys_of p) → lacking_from r ≡ cond (is_none (own_number g n number (key_at p r))) (Some (key_at p r)) (lacking_from (r + 1))
  unfolding lacking_from key_at Rattle.airy_math.specs.Ranks.key_at
  at_rank r h = at_drop_more (λ l. first_lacking number (keep (is_of g n) l)) (keys_of p) r no_key h ∙ step (key_at p r) (drop (r + 1) (keys_of p))

  pub lacking_here : (r : ℕ) → r < length (keys_of p) → own_number g n number (key_at p r) ≡ None → lacking_from r ≡ Some (key_at p r)
  lacking_here r h e = at_rank r h ∙ ap (λ o. cond (is_none o) (Some (key_at p r)) (lacking_from (r + 1))) e

  pub lacking_next : (r : ℕ) (w : ℚ) → r < length (keys_of p) → own_number g n number (key_at p r) ≡ Some w → lacking_from r ≡ lacking_from (r + 1)
  lacking_next r w h e = at_rank r h ∙ ap (λ o. cond (is_none o) (Some (key_at p r)) (lacking_from (r + 1))) e

  pub lacking_start : lacking_from 0 ≡ first_lacking number (keys_of_pair p g n)
  unfolding lacking_from keys_of_pair
  lacking_start = refl

  pub lacking_end : (r : ℕ) → length (keys_of p) ≤ r → lacking_from r ≡ None
  unfolding lacking_from first_lacking keep
  lacking_end r h = at_drop_all (λ l. first_lacking number (keep (is_of g n) l)) (keys_of p) r h

-- ---- the coefficients by rank

pub coefficients-more : (p : Planning) (cells : List (Option Outcome)) (g n count : ℕ) (numbers more : List ℚ) (number : ℚ) → AreCoefficients p cells g n count numbers
    → own_number g n (coefficient_of p cells) (key_at p count) ≡ Some number → more ≡ numbers ++ number ∷ [] → AreCoefficients p cells g n (count + 1) more
coefficients-more p cells g n count numbers more number are e m = record {
  len = ap length m ∙ length_push numbers number ∙ omega (arith, are.len);
  own = λ r h. by r h (cases_lt r count);
}
  where
    by : (r : ℕ) → r < count + 1 → (r < count) ⊎ (count ≤ r) → own_number g n (coefficient_of p cells) (key_at p r) ≡ Some (get_or more r 0ℚ)
    by r h (inl l) = are.own r l ∙ ap Some (sym (ap (λ l. get_or l r 0ℚ) m ∙ get_or_append_left numbers (number ∷ []) 0ℚ r (omega (arith, are.len))))
    by r h (inr k) = let s : r ≡ count = omega arith in
        ap (λ q. own_number g n (coefficient_of p cells) (key_at p q)) s ∙ e ∙ ap Some (sym (ap (λ l. get_or l r 0ℚ) m ∙ get_or_push numbers number 0ℚ r (omega (arith, are.len))))

pub coefficients-none : (p : Planning) (cells : List (Option Outcome)) (g n : ℕ) (numbers : List ℚ) → numbers ≡ [] → AreCoefficients p cells g n 0 numbers
coefficients-none p cells g n numbers e = record { len = ap length e; own = λ r h. absurd (omega arith) }
