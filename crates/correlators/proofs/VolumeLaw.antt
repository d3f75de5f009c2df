-- The terms of a volume are those of every solution.
use Rattle.std.proofs.Common.{◌≡◌, ℕ, suc, ◌+◌, ◌-◌, ◌*◌, ◌<◌, ◌≤◌, Bool, true, false, List, [], ◌∷◌, map, length, get_or, Option, Some, None, refl, sym, ap, ap₂, subst, ◌∙◌, arith, pos, ◌⊎◌, inl, inr, cond, ltb, option_and_then}
use Rattle.correlators.proofs.Words.{cases_lt, lt-leb, ℚ, ◌/ℚ◌, ◌*ℚ◌, 0ℚ, *ℚ_assoc, 0ℚ-*ℚ, sum_over, when, Key, euler, key_of, total, ordered, same_list, covers, Tensors, is_zero, Series, amplitude, factorials, power, letter_of, ListsPlanned, *ℚ-0ℚ, 0ℚ_idr, sum-cong, sum-each, when-zero, zero_number, IsKey, looked_up, Planning, tensors_of, keys_of, rank_at, are_below, letter_power, Outcome, HoldsOutcomes, volume_coefficient, length_factorials, Term, over_factorials, Part, part, table_term, table_terms, table_coefficient, term_of, parts_of, coefficient_of, lists_up_to, greatest_sum, volume_terms, IsAsked, AreCoefficients, AddsTerms, IsShown, coefficient_in, same_list-true, length-ordered}
use Rattle.std.proofs.lemmas.Bool.{lt-ltb, le-ltb}
use Rattle.correlators.specs.Volumes.{value_of}
use Rattle.correlators.proofs.ExactLemmas.{all_exact}
use Rattle.correlators.proofs.ListedLemmas.{doubled_same, listed_up_to}
use Rattle.correlators.proofs.NumberLaw.{amplitude_there}
use Rattle.correlators.proofs.OrderLemmas.{exponents-ordered, factorials-ordered, sorted-ordered, total-ordered}
use Rattle.correlators.proofs.TermLemmas.{below_all, covers_wp, placed, coefficient_at}

-- the terms that were added behind none are those of the volume
pub terms_are : (p : Planning) (cells : List (Option Outcome)) (g n : ℕ) (numbers same : List ℚ) (terms : List Term) → AddsTerms p g n numbers (lists_up_to n (greatest_sum g n)) [] terms
    → numbers ≡ same → AreCoefficients p cells g n (length (keys_of p)) same → parts_of terms ≡ volume_terms p cells g n
unfolding AddsTerms volume_terms parts_of table_terms term_of
terms_are p cells g n numbers same terms added e are = added cells (subst (AreCoefficients p cells g n (length (keys_of p))) (sym e) are)

unfoldable pub number_or_zero : Option ℚ → ℚ
number_or_zero None = 0ℚ
number_or_zero (Some w) = w

-- ---- what stands at the powers of one list

module _ (v : ℚ) (ds : List ℕ) where
  abbrev stands : Part → ℚ
  stands t = when (same_list t.powers (map (λ d. 2 * d) ds)) (power v t.letter *ℚ t.coef)

  nothing : (b : Bool) (e : ℕ) (w : ℚ) → w ≡ 0ℚ → 0ℚ ≡ when b (power v e *ℚ w)
  nothing b e w h = sym (ap (λ x. when b (power v e *ℚ x)) h ∙ ap (when b) (*ℚ-0ℚ (power v e)) ∙ when-zero b)

  part_sum : (e : ℕ) (es : List ℕ) (o : Option ℚ) → sum_over (part e es o) stands ≡ when (same_list es ds) (power v e *ℚ number_or_zero o)
  unfolding part sum_over number_or_zero
  part_sum e es None = nothing (same_list es ds) e 0ℚ refl
  part_sum e es (Some w) = by (is_zero w) refl
    where
      by : (t : Bool) → is_zero w ≡ t → sum_over (cond t [] (record { coef = w; letter = e; powers = map (λ d. 2 * d) es } ∷ [])) stands ≡ when (same_list es ds) (power v e *ℚ w)
      by true z = nothing (same_list es ds) e w (zero_number w z)
      by false z = 0ℚ_idr (when (same_list (map (λ d. 2 * d) es) (map (λ d. 2 * d) ds)) (power v e *ℚ w)) ∙ ap (λ t. when t (power v e *ℚ w)) (doubled_same es ds)

  module _ (p : Planning) (cells : List (Option Outcome)) (g n : ℕ) where
    own_term : List ℕ → ℚ
    own_term es = power v (letter_power p (key_of g (ordered es))) *ℚ number_or_zero (coefficient_of p cells (key_of g (ordered es)))

    term_sum : (es : List ℕ) → sum_over (term_of p cells g es) stands ≡ when (same_list es ds) (own_term ds)
    unfolding term_of own_term when table_term coefficient_of letter_power
    term_sum es = part_sum (letter_power p (key_of g (ordered es))) es (coefficient_of p cells (key_of g (ordered es))) ∙ by (same_list es ds) refl
      where
        by : (t : Bool) → same_list es ds ≡ t → when t (own_term es) ≡ when t (own_term ds)
        by true e = ap own_term (same_list-true es ds e)
        by false e = refl

    pub coefficient_sum : length ds ≡ n → coefficient_in v (map (λ d. 2 * d) ds) (volume_terms p cells g n)
        ≡ when (ltb (total ds) (suc (greatest_sum g n))) (power v (letter_power p (key_of g (ordered ds))) *ℚ number_or_zero (coefficient_of p cells (key_of g (ordered ds))))
    unfolding coefficient_in volume_terms own_term table_terms term_of
    coefficient_sum e =
        sum-each stands (term_of p cells g) (lists_up_to n (greatest_sum g n))
        ∙ sum-cong (λ es. sum_over (term_of p cells g es) stands) (λ es. when (same_list es ds) (own_term ds)) (lists_up_to n (greatest_sum g n)) term_sum
        ∙ listed_up_to n (greatest_sum g n) ds (own_term ds) e

-- ---- what every solution has

-- the order of the indices is of no meaning
in_order : (m g : ℕ) (f : Series) (ds : List ℕ) → volume_coefficient m f (key_of g ds) ≡ volume_coefficient m f (key_of g (ordered ds))
unfolding volume_coefficient amplitude key_of
in_order m g f ds = ap₂ (λ e k. (Rattle.airy_math.specs.Rational.whole (factorials e) *ℚ f g e) *ℚ (pos 1 /ℚ k)) (sym (exponents-ordered m ds)) (sym (factorials-ordered ds))

module _ (p : Planning) (cells : List (Option Outcome)) (g n : ℕ) (asked : IsAsked p g n) (planned : ListsPlanned (tensors_of p) p.bound) (holds : HoldsOutcomes p cells)
    (numbers : List ℚ) (are : AreCoefficients p cells g n (length (keys_of p)) numbers)
    (v : ℚ) (T' : Tensors) (f : Series) (shown : IsShown p v T' f) (ds : List ℕ) (len : length ds ≡ n) (below : are_below T'.dim ds ≡ true) where
  abbrev K : Key
  K = key_of g (ordered ds)

  letter_is : letter_power p K ≡ letter_of p.tensors.shape K
  unfolding letter_power
  letter_is = ap (λ t. cond t (letter_of p.tensors.shape K) 0) asked.letter

  -- beyond the greatest sum the shape does not cover the key
  outside : greatest_sum g n < total ds → volume_coefficient T'.dim f K ≡ 0ℚ
  unfolding volume_coefficient tensors_of looked_up key_of euler
  outside h =
      let long : length (ordered ds) ≡ n = length-ordered ds ∙ len in
      let wide : 3 ≤ 3 * g + length (ordered ds) = omega (arith, asked.stable, asked.some) in
      let uncovered : covers p.tensors.shape K ≡ false = covers_wp p.tensors.shape g (ordered ds) asked.shape wide ∙ lt-leb (total (ordered ds)) (3 * g + length (ordered ds) - 3) (omega (arith, total-ordered ds, long, h)) in
      ap (λ x. x *ℚ (pos 1 /ℚ length_factorials (ordered ds))) (shown.zeros K (sorted-ordered T'.dim ds below) (inl uncovered)) ∙ 0ℚ-*ℚ (pos 1 /ℚ length_factorials (ordered ds))

  divided : (value coefficient : ℚ) (o : Option ℚ) → o ≡ Some value → option_and_then (over_factorials (ordered ds)) o ≡ Some coefficient → over_factorials (ordered ds) value ≡ Some coefficient
  divided value coefficient o e h = ap (option_and_then (over_factorials (ordered ds))) (sym e) ∙ h

  by_value : (o : Option ℚ) (w : ℚ) → value_of p cells K ≡ o → option_and_then (over_factorials (ordered ds)) o ≡ Some w → volume_coefficient T'.dim f K ≡ power v (letter_power p K) *ℚ w
  unfolding volume_coefficient value_of key_of
  by_value None w e h = cc
  by_value (Some u) w e h =
      ap (λ x. x *ℚ (pos 1 /ℚ length_factorials (ordered ds))) (amplitude_there p cells K holds u v T' f shown e)
      ∙ *ℚ_assoc (power v (letter_of p.tensors.shape K)) u (pos 1 /ℚ length_factorials (ordered ds))
      ∙ ap₂ (λ e x. power v e *ℚ x) (sym letter_is) (sym (all_exact (ordered ds) u w h))

  inside : total ds ≤ greatest_sum g n → volume_coefficient T'.dim f K ≡ power v (letter_power p K) *ℚ number_or_zero (coefficient_of p cells K)
  unfolding coefficient_of number_or_zero key_of euler table_coefficient value_of rank_at
  inside h =
      let is_key : IsKey g (ordered ds) = record {
        some = omega (arith, length-ordered ds, asked.some);
        room = omega (arith, length-ordered ds, asked.most);
        stable = subst (λ m. 0 < euler g m) (sym (length-ordered ds ∙ len)) asked.stable;
        sorted = sorted-ordered 256 ds (below_all 256 ds (omega (arith, asked.small, h)));
      } in
      let e : coefficient_of p cells K ≡ Some (get_or numbers (rank_at p K) 0ℚ) = coefficient_at p g n asked ds len h planned K refl is_key (rank_at p K) (placed p g n asked ds len h) numbers cells are in
      by_value (value_of p cells K) (get_or numbers (rank_at p K) 0ℚ) refl e ∙ ap (λ o. power v (letter_power p K) *ℚ number_or_zero o) (sym e)

  pub volume_unique : volume_coefficient T'.dim f (key_of g ds) ≡ coefficient_in v (map (λ d. 2 * d) ds) (volume_terms p cells g n)
  unfolding when
  volume_unique = in_order T'.dim g f ds ∙ by (cases_lt (greatest_sum g n) (total ds)) ∙ sym (coefficient_sum v ds p cells g n len)
    where
      by : (greatest_sum g n < total ds) ⊎ (total ds ≤ greatest_sum g n) → volume_coefficient T'.dim f K ≡ when (ltb (total ds) (suc (greatest_sum g n))) (power v (letter_power p K) *ℚ number_or_zero (coefficient_of p cells K))
      by (inl l) = outside l ∙ sym (ap (λ t. when t (power v (letter_power p K) *ℚ number_or_zero (coefficient_of p cells K))) (le-ltb (total ds) (suc (greatest_sum g n)) (omega arith)))
      by (inr h) = inside h ∙ sym (ap (λ t. when t (power v (letter_power p K) *ℚ number_or_zero (coefficient_of p cells K))) (lt-ltb (total ds) (suc (greatest_sum g n)) (omega arith)))
