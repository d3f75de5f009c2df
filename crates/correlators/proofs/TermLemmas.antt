-- The term of a list: its key is planned, and its coefficient stands at the key's rank.
use Rattle.std.proofs.Common.{◌≡◌, ℕ, ◌+◌, ◌-◌, ◌*◌, ◌<◌, ◌≤◌, true, List, [], ◌∷◌, ◌++◌, map, length, get_or, Option, Some, refl, sym, ap, ap₂, subst, ◌∙◌, arith, pos, cond, leb, ltb, ◌&&◌}
use Rattle.correlators.proofs.Words.{le_z, ints, map-append, get_or_read, ℚ, ◌/ℚ◌, 0ℚ, each, Key, euler, key_of, total, ordered, Shape, covers, law_number, wp_shape, ListsPlanned, length-ordered, IsKey, is_zero-0ℚ, is_zero-some, Planning, tensors_of, keys_of, rank_at, place_in, are_below, letter_power, At, Zero, Beyond, BadIndex, rank_within, key_of_rank, Outcome, Term, part, table_term, term_of, part_of, parts_of, is_of, coefficient_of, greatest_sum, IsAsked, AreCoefficients, AddsTerms, own_number}
use lib.IntN.{◌+ℤ◌, ◌*ℤ◌, ◌-ℤ◌}
use Rattle.std.proofs.lemmas.Bool.{le-leb, le-ltb, lt-ltb, eq-eqb}
use Rattle.correlators.proofs.OrderLemmas.{total-ordered}
use Rattle.airy_math.proofs.KeyLemmas.{append-nil}

-- ---- the key

pub below_all : (m : ℕ) (xs : List ℕ) → total xs < m → are_below m xs ≡ true
unfolding are_below total
below_all m [] h = refl
below_all m (x ∷ xs) h = let e : ltb x m ≡ true = lt-ltb x m (omega arith) in ap₂ (λ s t. s && t) e (below_all m xs (omega arith))

-- the law of Weil and Petersson: the sum is at most 3g - 3 + n
pub covers_wp : (s : Shape) (g : ℕ) (xs : List ℕ) → s ≡ wp_shape → 3 ≤ 3 * g + length xs → covers s (key_of g xs) ≡ leb (total xs) (3 * g + length xs - 3)
unfolding covers wp_shape law_number key_of
covers_wp s g xs e h = ap (λ s. covers s (key_of g xs)) e ∙ ap (le_z (pos (total xs))) (number g (length xs) h)
  where
    number : (g n : ℕ) → 3 ≤ 3 * g + n → pos 3 *ℤ (pos g -ℤ pos 1) +ℤ pos 1 *ℤ pos n ≡ pos (3 * g + n - 3)
    number g n h = omega (arith, ints)

module _ (p : Planning) (g n : ℕ) (asked : IsAsked p g n) (ds : List ℕ) (len : length ds ≡ n) (sum : total ds ≤ greatest_sum g n) where
  abbrev key : Key
  key = key_of g (ordered ds)

  long : length (ordered ds) ≡ n
  long = length-ordered ds ∙ len

  wide : 3 ≤ 3 * g + n
  unfolding euler
  wide = omega (arith, asked.stable, asked.some)

  -- it is one of the pair, and at a rank
  own : is_of g n key ≡ true
  unfolding is_of key_of
  own = ap₂ (λ s t. s && t) (eq-eqb g g refl) (eq-eqb (length (ordered ds)) n long)

  pub placed : place_in p key ≡ At (rank_at p key)
  unfolding place_in key_of
  placed =
      ap (λ t. cond t Beyond (cond (covers p.tensors.shape key) (cond (are_below p.tensors.dim (ordered ds)) (At (rank_at p key)) BadIndex) Zero)) (le-ltb p.bound (euler g (length (ordered ds))) (subst (λ m. euler g m ≤ p.bound) (sym long) asked.within))
      ∙ ap (λ t. cond t (cond (are_below p.tensors.dim (ordered ds)) (At (rank_at p key)) BadIndex) Zero)
      (covers_wp p.tensors.shape g (ordered ds) asked.shape (omega (arith, long, wide)) ∙ le-leb (total (ordered ds)) (3 * g + length (ordered ds) - 3) (omega (arith, total-ordered ds, long, sum)))
      ∙ ap (λ t. cond t (At (rank_at p key)) BadIndex) (below_all p.tensors.dim (ordered ds) (omega (arith, total-ordered ds, sum, asked.below)))

  module _ (planned : ListsPlanned (tensors_of p) p.bound) (K : Key) (is : K ≡ key) (is_key : IsKey K.g K.idx) (r : ℕ) (place : place_in p K ≡ At r) where
    pub ranked : r < length (keys_of p)
    ranked = rank_within p K r planned is_key place

    -- its coefficient is the number at its rank
    pub coefficient_at : (numbers : List ℚ) (cells : List (Option Outcome)) → AreCoefficients p cells g n (length (keys_of p)) numbers → coefficient_of p cells K ≡ Some (get_or numbers r 0ℚ)
    unfolding own_number
    coefficient_at numbers cells are =
        ap (λ t. cond t (coefficient_of p cells K) (Some (pos 0 /ℚ 1))) (sym (ap (is_of g n) is ∙ own))
        ∙ ap (own_number g n (coefficient_of p cells)) (sym (key_of_rank p K r planned is_key place))
        ∙ are.own r ranked

    module _ (numbers : List ℚ) (w : ℚ) (at : w ≡ get_or numbers r w) (long_enough : length numbers ≡ length (keys_of p)) where
      coefficient : (cells : List (Option Outcome)) → AreCoefficients p cells g n (length (keys_of p)) numbers → coefficient_of p cells K ≡ Some w
      coefficient cells are = coefficient_at numbers cells are ∙ ap Some (sym (get_or_read numbers r w (omega (arith, ranked, long_enough)) at 0ℚ))

      -- the terms of the one list are those that are added
      pub adds_part : (old new ts : List Term) → new ≡ old ++ ts → parts_of ts ≡ part (letter_power p K) ds (Some w) → AddsTerms p g n numbers (ds ∷ []) old new
      unfolding AddsTerms parts_of each term_of table_term coefficient_of letter_power
      adds_part old new ts e t = λ cells are.
          ap parts_of e ∙ map-append part_of old ts
          ∙ ap (λ l. parts_of old ++ l) (t ∙ sym (append-nil (term_of p cells g ds) ∙ ap (λ k. part (letter_power p k) ds (coefficient_of p cells k)) (sym is) ∙ ap (part (letter_power p K) ds) (coefficient cells are)))

      pub adds_nothing : (old : List Term) → w ≡ 0ℚ → AddsTerms p g n numbers (ds ∷ []) old old
      unfolding part parts_of
      adds_nothing old z = adds_part old old [] (sym (append-nil old)) (sym (ap (λ w. part (letter_power p K) ds (Some w)) z ∙ ap (λ t. cond t [] (record { coef = 0ℚ; letter = letter_power p K; powers = map (λ d. 2 * d) ds } ∷ [])) is_zero-0ℚ))

      pub adds_one : (old new : List Term) (t : Term) → (w ≡ 0ℚ → ⊥) → new ≡ old ++ t ∷ [] → t.coef ≡ w → t.letter ≡ letter_power p K → t.powers.items ≡ map (λ d. 2 * d) ds → AddsTerms p g n numbers (ds ∷ []) old new
      unfolding part parts_of
      adds_one old new t z e c l q = adds_part old new (t ∷ []) e ((λ i. record { coef = c i; letter = l i; powers = q i } ∷ []) ∙ sym (ap (λ b. cond b [] (record { coef = w; letter = letter_power p K; powers = map (λ d. 2 * d) ds } ∷ [])) (is_zero-some w z)))
