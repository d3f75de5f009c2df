-- Given values that pass every pivot are a solution; and where a sum is another number, their series is none.
use Rattle.std.proofs.Common.{◌↔◌, Option, append-nil, ℕ, zero, suc, ◌<◌, ◌≤◌, ◌≡◌, refl, sym, ap, subst, ◌∙◌, [], List, ◌∷◌, ◌++◌, ◌⊎◌, inl, inr, arith, pos, length, get_or, length-append, Some, None}
use Rattle.airy_json.proofs.Common.{ℚ, 0ℚ, 1ℚ, Key, times, remove, Tensors, IsSymmetric, IsGraded, planned, IsPlanned, place_of, key_at, no_key, terms, obtained_pivot_sum, letter_of, power, Outcome, Value, Over, has_value, outcome_from, listed, series_with, every, VerifyEnd, as_table, given_to, said, verified, head_or, key_of, indices, exponents, needs, pivot_sum, StandsIn, plan_law, ranks_in_order, times_same, AllPivots, converse, pivot_weighed, one_some, value_only, IsFirstFailure, AreSolution, VerifiedLaw, values_series, without_letter}
use Rattle.std.proofs.Math.ListN.{get_or-append}
use Rattle.std.proofs.Math.Seq.{get_or-append_seam}
use Rattle.airy_math.specs.Rational.{◌*ℚ◌, ◌/ℚ◌, whole}
use Rattle.airy_math.specs.RationalLaws.{0ℚ-*ℚ, 1ℚ_idl, *ℚ_comm, *ℚ_assoc, inverse_lem}
use Rattle.airy_math.specs.Solutions.{Solves, factorials}
use Rattle.airy_math.specs.Cuts.{IsCut, outer, if_none}
use Rattle.airy_math.proofs.SumLemmas.{*ℚ-0ℚ}
use Rattle.airy_math.proofs.KeyLemmas.{Ascending, AllBelow, below_by}
use Rattle.airy_math.proofs.ConstraintLemmas.{factorials_pos}
use Rattle.airy_math.proofs.SplitLemmas.{scaled}
use Rattle.airy_math.proofs.SolutionLaw.{amp, indices_again}
use Rattle.airy_math.proofs.PlannedLaw.{head_stands, ascending, small}
use Rattle.airy_math.proofs.CutLaw.{weight_of, Known}
use Rattle.airy_math.proofs.ExactLaw.{outer-none, self_cut}
use Rattle.airy_math.proofs.ObtainedLaw.{pivot_exact}
use Rattle.amp_terms.specs.Outcomes.{value_in, outcome_of, outcomes, outcomes_after}
use Rattle.amp_terms.proofs.FillingLemmas.{outcome_is}
use Rattle.amp_terms.proofs.NamedLemmas.{allowed_places}
use Rattle.amp_terms.proofs.OutcomeLemmas.{pivot-same}
use Rattle.series_law.specs.Check.{check}
use Rattle.series_law.specs.Check as verdict
use Rattle.series_law.specs.First.{HaveValues, IsFirst}
use Rattle.series_law.specs.Scans.{Failing, failing_key, Agrees, IsLooked, IsFirstFailing}
use Rattle.series_law.proofs.ScansLaw.{finds_first}
use Rattle.series_law.proofs.FirstLaw.{first_finding}
use Rattle.series_law.proofs.UniquenessLaw.{uniqueness}
use Rattle.airy_json.specs.declared.verify_ends.VerifyEnd.TheVariants as end
use Rattle.airy_json.proofs.GivenLemmas.{has_listed, length-table, value_listed, outcome_given, given_is, given_listed}
use Rattle.airy_math.proofs.EachLemmas.{append_assoc}

-- ---- what is found is the first failure, and there is exactly one

first_failure : (T : Tensors) (X : ℕ) (vs : List ℚ) (e : VerifyEnd) → (verified T X vs ≡ e) ↔ IsFirstFailure T X vs e
unfolding verified said IsFirstFailure
first_failure T X vs e = (λ h. subst (IsFirstFailure T X vs) h (first found ((finds_first T X F every found).0 refl)), only e)
  where
    F : Key → ℚ
    F = given_to T X vs

    found : Option (Key × Failing)
    found = failing_key T F every (planned T X)

    first : (f : Option (Key × Failing)) → IsFirstFailing T X F every f → IsFirstFailure T X vs (said F f)
    first None h = h
    first (Some (key, (i, None))) h = h
    first (Some (key, (i, Some v))) h = (h, refl)

    is : (f : Option (Key × Failing)) → IsFirstFailing T X F every f → said F found ≡ said F f
    is f h = ap (said F) ((finds_first T X F every f).1 h)

    only : (e : VerifyEnd) → IsFirstFailure T X vs e → said F found ≡ e
    only end.Solution h = is None h
    only (end.Over key i) h = is (Some (key, (i, None))) h
    only (end.Differs key i v w) h = is (Some (key, (i, Some v))) h.0 ∙ ap (end.Differs key i v) (sym h.1)

-- ---- values that pass every pivot

table_push : (us : List ℚ) (w : ℚ) → as_table us ++ (Value w ∷ []) ≡ as_table (us ++ (w ∷ []))
unfolding as_table
table_push [] w = refl
table_push (u ∷ us) w = ap (λ t. Value u ∷ t) (table_push us w)

module _ (T : Tensors) (X : ℕ) (vs : List ℚ) (long : length vs ≡ length (planned T X)) (holds : (key : Key) → IsPlanned T X key → (i : ℕ) → 0 < times i key.idx → obtained_pivot_sum T (given_to T X vs) key i ≡ Some (given_to T X vs key)) where
  abbrev plan : List Key
  plan = planned T X

  -- the outcome of a key over the values of the ranks below it is its value
  outcome_value : (us ws : List ℚ) → vs ≡ us ++ ws → (key : Key) → IsPlanned T X key → place_of key plan ≡ length us → outcome_of T plan (as_table us) key ≡ Value (given_to T X vs key)
  unfolding needs listed outcome_from
  outcome_value us ws q key p r =
      outcome_is T plan (as_table us) key
      ∙ pivot-same (listed (as_table us)) (listed (as_table vs)) plan T key i (allowed_places (λ r. listed (as_table us) r ≡ listed (as_table vs) r) plan (terms T i key.g (remove i key.idx)) (λ k s. front (place_of k plan) (lower k s)))
      ∙ outcome_given T X vs key i (allowed_places (λ r. r < length vs) plan (terms T i key.g (remove i key.idx)) (λ k s. omega (arith, lower k s, shorter)))
      ∙ ap (outcome_from None) (holds key p i (head_stands key.idx p.places))
    where
      i : ℕ
      i = head_or 0 key.idx

      lower : (k : Key) → StandsIn k (needs T key) → place_of k plan < length us
      lower k s = omega (arith, (ranks_in_order T X).needs key p k s, r)

      shorter : length us ≤ length vs
      shorter = omega (arith, length-append us ws, ap (λ t. length t) q)

      front : (r : ℕ) → r < length us → get_or (as_table us) r Over ≡ get_or (as_table vs) r Over
      front r h =
          value_listed us r 0ℚ h ∙ ap Value (sym (get_or-append us ws 0ℚ r h) ∙ ap (λ l. get_or l r 0ℚ) (sym q))
          ∙ sym (value_listed vs r 0ℚ (omega (arith, h, shorter)))

  after : (us ws : List ℚ) (pre keys : List Key) → plan ≡ pre ++ keys → vs ≡ us ++ ws → length us ≡ length pre → length ws ≡ length keys → outcomes_after T plan (as_table us) keys ≡ as_table vs
  unfolding outcomes_after key_at
  after us [] pre [] p q l m = ap as_table (sym (append-nil us) ∙ sym q)
  after us [] pre (key ∷ keys) p q l m = absurd (omega arith)
  after us (w ∷ ws) pre [] p q l m = absurd (omega arith)
  after us (w ∷ ws) pre (key ∷ keys) p q l m =
      ap (λ d. outcomes_after T plan d keys) (ap (λ o. as_table us ++ (o ∷ [])) (outcome_value us (w ∷ ws) q key is_planned place ∙ ap Value value) ∙ table_push us w)
      ∙ after (us ++ (w ∷ [])) ws (pre ++ (key ∷ [])) keys (p ∙ sym (append_assoc pre (key ∷ []) keys)) (q ∙ sym (append_assoc us (w ∷ []) ws))
      (omega (arith, l, length-append us (w ∷ []), length-append pre (key ∷ []))) (omega (arith, m))
    where
      inside : length pre < length plan
      inside = omega (arith, length-append pre (key ∷ keys), ap (λ t. length t) p)

      here : key_at plan (length pre) ≡ key
      here = ap (λ l. get_or l (length pre) no_key) p ∙ get_or-append_seam pre key keys no_key

      is_planned : IsPlanned T X key
      is_planned = subst (IsPlanned T X) here ((plan_law T X).only (length pre) inside)

      place : place_of key plan ≡ length us
      place = ap (λ k. place_of k plan) (sym here) ∙ (plan_law T X).once (length pre) inside ∙ sym l

      value : given_to T X vs key ≡ w
      value = given_is T X vs long key is_planned ∙ ap (λ n. get_or vs n 0ℚ) place ∙ ap (λ t. get_or t (length us) 0ℚ) q ∙ get_or-append_seam us w ws 0ℚ

  same_table : outcomes T X ≡ as_table vs
  unfolding outcomes as_table
  same_table = after [] vs [] plan refl refl refl long

  all_pivots : AllPivots T X (as_table vs)
  unfolding given_to
  all_pivots = record {
    long = length-table vs ∙ long;
    pivots = λ key p i s. (given_to T X vs key, given_listed T X vs long key p, sym (pivot_exact T (given_to T X vs) key i (given_to T X vs key) (holds key p i s)));
  }

  nothing_found : check T X (outcomes T X) ≡ verdict.Solution
  unfolding IsFirst HaveValues IsFirstFailing IsLooked Agrees given_to has_value as_table listed
  nothing_found = subst (λ t. check T X t ≡ verdict.Solution) (sym same_table) ((first_finding T X (as_table vs) verdict.Solution).1 (
    (λ s l. has_listed vs s (omega (arith, l, length-table vs))),
    (λ key p i o. holds key p i o.0),
  ))

  solved : IsSymmetric T → IsGraded T → AreSolution T X vs
  unfolding values_series key_at
  solved sy gr = record {
    table = same_table;
    checked = nothing_found;
    pivots = all_pivots;
    solves = converse T X (as_table vs) sy gr all_pivots;
    unique = λ f so r h. (uniqueness T X sy gr).values f so (key_at plan r) (get_or vs r 0ℚ)
        (ap (λ n. get_or (outcomes T X) n Over) ((plan_law T X).once r (omega (arith, h, long))) ∙ ap (λ t. get_or t r Over) same_table ∙ value_listed vs r 0ℚ h);
  }

-- ---- a sum that is another number

back : (n : ℕ) → 0 < n → (x : ℚ) → whole n *ℚ (x *ℚ (pos 1 /ℚ n)) ≡ x
unfolding whole
back n h x = sym (*ℚ_assoc _ _ _) ∙ ap (λ t. t *ℚ (pos 1 /ℚ n)) (*ℚ_comm _ _) ∙ *ℚ_assoc _ _ _ ∙ ap (λ t. x *ℚ t) (inverse_lem n h) ∙ *ℚ_comm _ _ ∙ 1ℚ_idl _

-- Where the series of a table solves the greater tensors, its amplitudes are the table's numbers times the keys' weights.
module _ (X : ℕ) (v : ℚ) (T T' : Tensors) (gr : IsGraded T) (sy' : IsSymmetric T') (gr' : IsGraded T') (cut : IsCut X v T T')
    (table : List Outcome) (long : length table ≡ length (planned T X)) (so : Solves T' X (series_with v T X table)) where
  abbrev F : Key → ℚ
  F = value_in (planned T X) table

  abbrev F' : Key → ℚ
  F' = amp T' X (series_with v T X table) sy' gr' so

  amp_is : (g : ℕ) (J : List ℕ) → Ascending 0 J → AllBelow T'.dim J → F' (key_of g J) ≡ power v (letter_of T.shape (key_of g J)) *ℚ F (key_of g J)
  unfolding amp scaled series_with indices key_of
  amp_is g J s b =
      let e = exponents T'.dim J in
      back (factorials e) (factorials_pos e) _ ∙ ap (λ K. power v (letter_of T.shape (key_of g K)) *ℚ F (key_of g K)) (indices_again T'.dim J s b)

  known : Known X v T T' gr cut F F' X
  unfolding weight_of if_none key_of
  known g J s b ne h u = amp_is g J s b ∙ by (outer T.dim J) refl (value_only T X table long (key_of g J))
    where
      y : ℚ
      y = power v (letter_of T.shape (key_of g J))

      by : (n : ℕ) → outer T.dim J ≡ n → (F (key_of g J) ≡ 0ℚ) ⊎ IsPlanned T X (key_of g J) → y *ℚ F (key_of g J) ≡ if_none n y *ℚ F (key_of g J)
      by zero e o = refl
      by (suc n) e (inl z) = ap (λ t. y *ℚ t) z ∙ *ℚ-0ℚ _ ∙ sym (0ℚ-*ℚ _)
      by (suc n) e (inr p) = absurd (omega (arith, sym e ∙ outer-none T.dim J (small 0 T.dim J p.sorted)))

-- so the values' series solves no greater tensors where a pivot sum differs and the letter's power there isn't 0
pub none_greater : (X : ℕ) (v : ℚ) (T T' : Tensors) → IsGraded T → IsSymmetric T' → IsGraded T' → IsCut X v T T' → (vs : List ℚ) → length vs ≡ length (planned T X)
    → (key : Key) (i : ℕ) (a b : ℚ) → verified T X vs ≡ end.Differs key i a b → (power v (letter_of T.shape key) ≡ 0ℚ → ⊥) → Solves T' X (series_with v T X (as_table vs)) → ⊥
unfolding IsFirstFailure IsFirstFailing IsLooked given_to key_of
none_greater X v T T' gr sy' gr' cut vs long key i a b e some so =
    let f = (first_failure T X vs (end.Differs key i a b)).0 e in let up = f.0.0 in
    f.0.2 (ap Some (pivot_exact T (given_to T X vs) key i a f.0.1 ∙ sym (times_same (power v (letter_of T.shape key)) _ _ some (own key up.planned ∙ weighed key up.planned i up.looked.0))))
  where
    long_table : length (as_table vs) ≡ length (planned T X)
    long_table = length-table vs ∙ long

    own : (key : Key) → IsPlanned T X key → power v (letter_of T.shape key) *ℚ given_to T X vs key ≡ amp T' X (series_with v T X (as_table vs)) sy' gr' so key
    own key p = sym (amp_is X v T T' gr sy' gr' cut (as_table vs) long_table so key.g key.idx (ascending 0 T.dim key.idx p.sorted) (below_by T.dim T'.dim key.idx cut.wider (small 0 T.dim key.idx p.sorted)))

    weighed : (key : Key) → IsPlanned T X key → (i : ℕ) → 0 < times i key.idx → amp T' X (series_with v T X (as_table vs)) sy' gr' so key ≡ power v (letter_of T.shape key) *ℚ pivot_sum T (given_to T X vs) key i
    weighed = pivot_weighed X v T T' gr sy' gr' cut (series_with v T X (as_table vs)) so (given_to T X vs) (known X v T T' gr sy' gr' cut (as_table vs) long_table so)

none_here : (T : Tensors) (X : ℕ) (vs : List ℚ) → IsSymmetric T → IsGraded T → length vs ≡ length (planned T X)
    → (key : Key) (i : ℕ) (a b : ℚ) → verified T X vs ≡ end.Differs key i a b → Solves T X (values_series T X vs) → ⊥
unfolding values_series
none_here T X vs sy gr long key i a b e so =
    none_greater X 1ℚ T T gr sy gr (self_cut T X) vs long key i a b e (one_some (letter_of T.shape key)) (subst (Solves T X) (sym (without_letter T X (as_table vs))) so)

pub verified_law : VerifiedLaw
unfolding IsFirstFailure IsFirstFailing IsLooked Agrees every
verified_law T X vs sy gr long = record {
  first = first_failure T X vs;
  solution = λ h. solved T X vs long (λ key p i s. (first_failure T X vs end.Solution).0 h key p i (s, refl)) sy gr;
  no_solution = none_here T X vs sy gr long;
}
