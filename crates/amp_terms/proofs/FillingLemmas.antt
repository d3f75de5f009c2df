-- A table that is filled from rank 0 on.
use Rattle.std.proofs.Common.{◌≡◌, ℕ, suc, zero, ◌+◌, ◌-◌, ◌<◌, ◌≤◌, List, [], ◌∷◌, ◌++◌, map, length, drop, get_or, set, replicate, Option, Some, None, refl, sym, ap, ap₂, subst, ◌∙◌, arith, length-append, append-nil}
use Rattle.std.specs.Prelude.{cond, IsSome}
use Rattle.std.specs.Option.{unwrap_or}
use Rattle.std.proofs.lemmas.List.{drop_more, at_drop_all}
use Rattle.airy_math.specs.Keys.{Key, head_or, remove}
use Rattle.airy_math.specs.Tensors.{Tensors}
use Rattle.airy_math.specs.Terms.{terms, obtained_pivot_sum}
use Rattle.airy_math.specs.Ranks as ranks
use Rattle.amp_terms.specs.declared.Outcome.{Outcome}
use Rattle.amp_terms.specs.declared.Outcome.TheVariants.{Over}
use Rattle.amp_terms.specs.Outcomes.{has_value, smaller, least_blocked, value_in, ranks_named, outcome_from, outcome_of, outcomes_after}
use Rattle.amp_terms.specs.Pivots.{least_without, number_at, pivot_outcome, listed}
use Rattle.amp_terms.specs.Tables.{shown_in, IsFilled}

blocked_is : (done : List Outcome) (rs : List ℕ) → least_blocked done rs ≡ least_without (listed done) rs
unfolding least_blocked least_without listed
blocked_is done [] = refl
blocked_is done (r ∷ rs) = ap (λ o. cond (has_value (get_or done r Over)) o (smaller r o)) (blocked_is done rs)

-- The outcome of a key over the outcomes of the lower ranks is that of its pivot sum at the least index.
pub outcome_is : (T : Tensors) (plan : List Key) (done : List Outcome) (key : Key) → outcome_of T plan done key ≡ pivot_outcome T plan (listed done) key (head_or 0 key.idx)
unfolding outcome_of pivot_outcome value_in number_at listed
outcome_is T plan done key =
    ap (λ b. outcome_from b (obtained_pivot_sum T (value_in plan done) key (head_or 0 key.idx))) (blocked_is done (ranks_named plan (terms T (head_or 0 key.idx) key.g (remove (head_or 0 key.idx) key.idx))))

-- ---- the table so far

-- the outcomes that are there, and nothing behind them
unfoldable pub filled : List Outcome → ℕ → List (Option Outcome)
filled done n = map Some done ++ replicate n None

none_shown : (n r : ℕ) → unwrap_or (get_or (replicate n None) r None) Over ≡ Over
none_shown zero r = refl
none_shown (suc n) zero = refl
none_shown (suc n) (suc r) = none_shown n r

shown_at : (done : List Outcome) (n r : ℕ) → unwrap_or (get_or (filled done n) r None) Over ≡ get_or done r Over
unfolding filled
shown_at [] n r = none_shown n r
shown_at (o ∷ done) n zero = refl
shown_at (o ∷ done) n (suc r) = shown_at done n r

pub shown_filled : (done : List Outcome) (n : ℕ) → shown_in (filled done n) ≡ listed done
unfolding shown_in listed
shown_filled done n = λ i r. shown_at done n r i

pub length-filled : (done : List Outcome) (n : ℕ) → length (filled done n) ≡ length done + n
unfolding filled
length-filled [] n = Rattle.std.proofs.Math.ListN.length-replicate n None ∙ (let e : n ≡ 0 + n = omega arith in e)
length-filled (o ∷ done) n = ap suc (length-filled done n) ∙ (let e : suc (length done + n) ≡ suc (length done) + n = omega arith in e)

pub filled-set : (done : List Outcome) (n : ℕ) (o : Outcome) → set (filled done (suc n)) (length done) (Some o) ≡ filled (done ++ o ∷ []) n
unfolding filled
filled-set [] n o = refl
filled-set (x ∷ done) n o = ap (λ l. Some x ∷ l) (filled-set done n o)

-- ---- a table under construction

pub record IsUnderway (T : Tensors) (plan : List Key) (goal : List Outcome) (rank : ℕ) (table : List (Option Outcome)) : Type 0 where
  pub done : List Outcome
  pub cells : table ≡ filled done (length plan - rank)
  pub count : length done ≡ rank
  pub rest : outcomes_after T plan done (drop rank plan) ≡ goal

pub underway-start : (T : Tensors) (plan : List Key) → IsUnderway T plan (outcomes_after T plan [] plan) 0 (replicate (length plan) None)
unfolding filled
underway-start T plan = record {
  done = [];
  cells = let e : length plan ≡ length plan - 0 = omega arith in ap (λ n. replicate n None) e;
  count = refl;
  rest = refl;
}

pub length-underway : (T : Tensors) (plan : List Key) (goal : List Outcome) (rank : ℕ) (table : List (Option Outcome)) → IsUnderway T plan goal rank table → rank ≤ length plan → length table ≡ length plan
length-underway T plan goal rank table u h = ap length u.cells ∙ length-filled u.done (length plan - rank) ∙ (let e : length u.done + (length plan - rank) ≡ length plan = omega (arith, u.count) in e)

pub underway-next : (T : Tensors) (plan : List Key) (goal : List Outcome) (rank : ℕ) (table : List (Option Outcome)) (o : Outcome)
    → IsUnderway T plan goal rank table → rank < length plan
    → o ≡ (let key = ranks.key_at plan rank in pivot_outcome T plan (shown_in table) key (head_or 0 key.idx))
    → IsUnderway T plan goal (rank + 1) (set table rank (Some o))
unfolding outcomes_after ranks.key_at
underway-next T plan goal rank table o u h e =
    let key = ranks.key_at plan rank in
    let n = length plan - (rank + 1) in
    let more : length plan - rank ≡ suc n = omega arith in
    let cells = u.cells ∙ ap (filled u.done) more in
    let same : o ≡ outcome_of T plan u.done key = e ∙ ap (λ s. pivot_outcome T plan s key (head_or 0 key.idx)) (ap shown_in u.cells ∙ shown_filled u.done (length plan - rank)) ∙ sym (outcome_is T plan u.done key) in
    record {
      done = u.done ++ o ∷ [];
      cells = ap₂ (λ t r. set t r (Some o)) cells (sym u.count) ∙ filled-set u.done n o;
      count = length-append u.done (o ∷ []) ∙ (let s : length u.done + 1 ≡ rank + 1 = omega (arith, u.count) in s);
      rest = ap (λ x. outcomes_after T plan (u.done ++ x ∷ []) (drop (rank + 1) plan)) same ∙ sym (ap (outcomes_after T plan u.done) (drop_more plan rank ranks.no_key h)) ∙ u.rest;
    }

pub underway-all : (T : Tensors) (plan : List Key) (goal : List Outcome) (rank : ℕ) (table : List (Option Outcome)) → IsUnderway T plan goal rank table → length plan ≤ rank → table ≡ map Some goal
unfolding outcomes_after filled
underway-all T plan goal rank table u h =
    let none : length plan - rank ≡ 0 = omega arith in
    u.cells ∙ ap (λ n. map Some u.done ++ replicate n None) none ∙ append-nil (map Some u.done)
    ∙ ap (map Some) (sym (at_drop_all (outcomes_after T plan u.done) plan rank h) ∙ u.rest)

some_below : (done : List Outcome) (n q : ℕ) → q < length done → IsSome (get_or (filled done n) q None)
unfolding filled
some_below [] n q h = absurd (omega arith)
some_below (o ∷ done) n zero h = refl
some_below (o ∷ done) n (suc q) h = some_below done n q (omega arith)

-- all ranks below are filled
pub underway-lower : (T : Tensors) (plan : List Key) (goal : List Outcome) (rank : ℕ) (table : List (Option Outcome)) → IsUnderway T plan goal rank table → rank ≤ length plan → (q : ℕ) → q < rank → IsFilled table q
unfolding IsFilled
underway-lower T plan goal rank table u h q l =
    (omega (arith, length-underway T plan goal rank table u h, l), subst (λ t. IsSome (get_or t q None)) (sym u.cells) (some_below u.done (length plan - rank) q (omega (arith, u.count))))
