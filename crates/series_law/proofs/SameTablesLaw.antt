-- Tensors with the same entries below dim have the same tables.
use Rattle.std.proofs.Common.{ℕ, ◌≡◌, refl, sym, ap, ap₂, subst, ◌∙◌, [], List, ◌∷◌, ◌++◌, map, Some, pos, length, get_or, Bool, cond, inl, inr}
use Rattle.airy_math.specs.Rational.{ℚ, ◌*ℚ◌, ◌/ℚ◌}
use Rattle.airy_math.specs.Keys.{Key, head_or, remove, key_of, indices}
use Rattle.airy_math.specs.Tensors.{Tensors, SameEntries}
use Rattle.airy_math.specs.Terms.{terms, pivot_sum, obtained_term, obtained_pivot_sum}
use Rattle.airy_math.specs.Obtained.{obtained_from}
use Rattle.airy_math.specs.RationalLaws.{0ℚ}
use Rattle.airy_math.specs.Planned.{planned, IsPlanned}
use Rattle.airy_math.specs.Solutions.{factorials}
use Rattle.airy_math.specs.BelowDim.{SameBelowDim}
use Rattle.airy_math.proofs.SumLemmas.{Each, Each-weaken}
use Rattle.airy_math.proofs.PlannedLaw.{head_stands}
use Rattle.airy_math.proofs.PlanLemmas.{Has, planned_only}
use Rattle.airy_math.proofs.BelowDimLaw.{below_dim, same_back}
use Rattle.amp_terms.specs.declared.Outcome.{Outcome}
use Rattle.amp_terms.specs.declared.Outcome.TheVariants.{Value, Over}
use Rattle.amp_terms.specs.Outcomes.{place_of, outcome_from, least_blocked, ranks_named, value_in, outcome_of, outcomes_after, outcomes}
use Rattle.series_law.specs.Uniqueness.{series_of}
use Rattle.series_law.specs.Pivots.{AllPivots}
use Rattle.series_law.specs.Check.{said, check_keys, check_values, check}
use Rattle.series_law.specs.Scans.{judged, above_least, failing_pivot, of_key, failing_key}
use Rattle.series_law.specs.SameTables.{SameTablesLaw}
use Rattle.series_law.proofs.ScansLaw.{times_has}

-- ---- outcomes

after-same : (T T' : Tensors) (plan : List Key) (done : List Outcome) (keys : List Key) → Each (λ key. (done : List Outcome) → outcome_of T plan done key ≡ outcome_of T' plan done key) keys → outcomes_after T plan done keys ≡ outcomes_after T' plan done keys
unfolding outcomes_after
after-same T T' plan done [] e = refl
after-same T T' plan done (k ∷ keys) e = ap (λ o. outcomes_after T plan (done ++ (o ∷ [])) keys) (e.0 done) ∙ after-same T T' plan (done ++ (outcome_of T' plan done k ∷ [])) keys e.1

-- One plan, and the same terms of each planned key at its least index: one table.
pub outcomes-same : (T T' : Tensors) (X : ℕ) → planned T X ≡ planned T' X → ((key : Key) → IsPlanned T X key → terms T (head_or 0 key.idx) key.g (remove (head_or 0 key.idx) key.idx) ≡ terms T' (head_or 0 key.idx) key.g (remove (head_or 0 key.idx) key.idx)) → outcomes T X ≡ outcomes T' X
unfolding outcomes outcome_of obtained_pivot_sum
outcomes-same T T' X h k =
    after-same T T' (planned T X) [] (planned T X) (Each-weaken (IsPlanned T X) _ (planned T X) (λ key p done.
    ap (λ ts. outcome_from (least_blocked done (ranks_named (planned T X) ts)) (obtained_from (Some 0ℚ) (map (obtained_term (value_in (planned T X) done)) ts))) (k key p)) (planned_only T X))
    ∙ ap (λ plan. outcomes_after T' plan [] plan) h

module _ (T T' : Tensors) (is : SameEntries T T') (X : ℕ) where
  below : SameBelowDim T T'
  below = below_dim T T' is

  -- ---- the check

  pivots_same : (F : Key → ℚ) (looks : Key → ℕ → Bool) (key : Key) → IsPlanned T X key → (is : List ℕ) → ((i : ℕ) → Has i is → Has i key.idx) → failing_pivot T F looks key is ≡ failing_pivot T' F looks key is
  unfolding failing_pivot
  pivots_same F looks key p [] e = refl
  pivots_same F looks key p (i ∷ is) e =
      ap₂ (λ o next. cond (looks key i) (judged (F key) i o next) next) ((below.keys key p.sorted).obtained F i (times_has i key.idx (e i (inl refl)))) (pivots_same F looks key p is (λ j h. e j (inr h)))

  keys_same : (F : Key → ℚ) (looks : Key → ℕ → Bool) (keys : List Key) → Each (IsPlanned T X) keys → failing_key T F looks keys ≡ failing_key T' F looks keys
  unfolding failing_key
  keys_same F looks [] e = refl
  keys_same F looks (key ∷ keys) e = ap₂ (of_key key) (pivots_same F looks key e.0 key.idx (λ i h. h)) (keys_same F looks keys e.1)

  -- of all planned keys, where a table gives their numbers
  pub failing_same : (looks : Key → ℕ → Bool) (table : List Outcome)
      → failing_key T (value_in (planned T X) table) looks (planned T X) ≡ failing_key T' (value_in (planned T' X) table) looks (planned T' X)
  failing_same looks table = keys_same (value_in (planned T X) table) looks (planned T X) (planned_only T X) ∙ ap (λ plan. failing_key T' (value_in plan table) looks plan) (below.plan X)

  check_same : (table : List Outcome) → check T X table ≡ check T' X table
  unfolding check check_keys
  check_same table = ap₂ (λ F f. check_values 0 table (said F f)) (ap (λ plan. value_in plan table) (below.plan X)) (failing_same above_least table)

  -- ---- every pivot, and the series

  passes_on : (table : List Outcome) → AllPivots T X table → AllPivots T' X table
  passes_on table all = record {
    long = all.long ∙ ap length (below.plan X);
    pivots = λ key p i s. let q = (below.planned_keys X key).1 p in let r = all.pivots key q i s in (
      r.0,
      subst (λ plan. get_or table (place_of key plan) Over ≡ Value r.0) (below.plan X) r.1,
      ap (λ plan. pivot_sum T' (value_in plan table) key i) (sym (below.plan X)) ∙ sym ((below.keys key q.sorted).sums (value_in (planned T X) table) i s) ∙ r.2,
    );
  }

  series_same : (table : List Outcome) → series_of T X table ≡ series_of T' X table
  unfolding series_of
  series_same table = ap (λ plan g e. value_in plan table (key_of g (indices e)) *ℚ (pos 1 /ℚ factorials e)) (below.plan X)

pub same_tables : SameTablesLaw
same_tables T T' is X = record {
  outcomes = outcomes-same T T' X ((below_dim T T' is).plan X) (λ key p. ((below_dim T T' is).keys key p.sorted).terms (head_or 0 key.idx) (head_stands key.idx p.places));
  check = check_same T T' is X;
  pivots = λ table. (passes_on T T' is X table, passes_on T' T (same_back T T' is) X table);
  series = series_same T T' is X;
}
