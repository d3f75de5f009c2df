-- The first pivot that fails, of the indices from a place of a list on; and the first key, of those from a rank on.
use Rattle.std.proofs.Common.{◌≡◌, ℕ, zero, suc, ◌+◌, ◌<◌, ◌≤◌, Bool, true, false, List, [], ◌∷◌, length, get_or, drop, Option, Some, None, refl, sym, ap, ap₂, subst, ◌∙◌, inl, inr, arith, ◌⊎◌, cond}
use Rattle.std.specs.Prelude.{IsSome}
use Rattle.airy_math.specs.Rational.{ℚ}
use Rattle.airy_math.specs.Keys.{Key, head_or, times}
use Rattle.airy_math.specs.Tensors.{Tensors, same_number}
use Rattle.airy_math.specs.Ranks.{key_at}
use Rattle.airy_math.specs.Terms.{obtained_pivot_sum}
use Rattle.airy_math.proofs.PlanLemmas.{Has}
use Rattle.amp_plan.specs.Ranked.{AreAllowed}
use Rattle.amp_terms.specs.declared.Outcome.{Outcome}
use Rattle.amp_terms.specs.declared.Outcome.TheVariants.{Value, Over, Blocked}
use Rattle.amp_terms.specs.Outcomes.{has_value, value_or_zero}
use Rattle.amp_terms.specs.Tables.{value_of}
use Rattle.series_law.proofs.ScansLaw.{times_has}
use Rattle.series_law.specs.Scans.{Failing, judged, failing_pivot, of_key, failing_key}
use Rattle.std.proofs.Math.Numerals.{suc-eq-add-one}

-- ---- one pivot

-- what fails by itself fails before the next ones
judged_some : (w : ℚ) (i : ℕ) (s : Option ℚ) (f : Failing) (next : Option Failing) → judged w i s None ≡ Some f → judged w i s next ≡ Some f
unfolding judged
judged_some w i None f next e = e
judged_some w i (Some v) f next e = by (same_number v w) e
  where
    by : (t : Bool) → ◌≡◌ {A = Option Failing} (cond t None (Some (i, Some v))) (Some f) → cond t next (Some (i, Some v)) ≡ Some f
    by true e = cc
    by false e = e

judged_none : (w : ℚ) (i : ℕ) (s : Option ℚ) (next : Option Failing) → judged w i s None ≡ None → judged w i s next ≡ next
unfolding judged
judged_none w i None next e = cc
judged_none w i (Some v) next e = by (same_number v w) e
  where
    by : (t : Bool) → ◌≡◌ {A = Option Failing} (cond t None (Some (i, Some v))) None → cond t next (Some (i, Some v)) ≡ next
    by true e = refl
    by false e = cc

-- what a sum says by itself, that is missing, the key's number, or another
pub fails_missing : (w : ℚ) (i : ℕ) (s : Option ℚ) → s ≡ None → ◌≡◌ {A = Option Failing} (Some (i, None)) (judged w i s None)
unfolding judged
fails_missing w i s e = ap (λ s. judged w i s None) (sym e)

pub agrees_alone : (w : ℚ) (i : ℕ) (s : Option ℚ) (v : ℚ) → s ≡ Some v → same_number v w ≡ true → None ≡ judged w i s None
unfolding judged
agrees_alone w i s v e t = ap (λ b. cond b None (Some (i, Some v))) (sym t) ∙ ap (λ s. judged w i s None) (sym e)

pub fails_alone : (w : ℚ) (i : ℕ) (s : Option ℚ) (v : ℚ) → s ≡ Some v → same_number v w ≡ false → ◌≡◌ {A = Option Failing} (Some (i, Some v)) (judged w i s None)
unfolding judged
fails_alone w i s v e t = ap (λ b. cond b None (Some (i, Some v))) (sym t) ∙ ap (λ s. judged w i s None) (sym e)

-- what is said twice is said once
judged_twice : (b : Bool) (w : ℚ) (i : ℕ) (s : Option ℚ) (next : Option Failing) → (let once = cond b (judged w i s next) next in cond b (judged w i s once) once ≡ once)
unfolding judged
judged_twice false w i s next = refl
judged_twice true w i None next = refl
judged_twice true w i (Some v) next = by (same_number v w)
  where
    by : (t : Bool) → cond t (cond t next (Some (i, Some v))) (Some (i, Some v)) ≡ cond t next (Some (i, Some v))
    by true = refl
    by false = refl

-- ---- the pivots of a key

-- what stands in a list stands there once or more
stands_at : (xs : List ℕ) (k : ℕ) → k < length xs → Has (get_or xs k 0) xs
stands_at [] k h = absurd (omega arith)
stands_at (x ∷ xs) zero h = inl refl
stands_at (x ∷ xs) (suc k) h = inr (stands_at xs k (omega arith))

module _ (T : Tensors) (F : Key → ℚ) (looks : Key → ℕ → Bool) (key : Key) where
  -- the first that fails from a place on
  abbrev pub from : List ℕ → ℕ → Option Failing
  from xs k = failing_pivot T F looks key (drop k xs)

  abbrev said : ℕ → Option Failing → Option Failing
  said i next = judged (F key) i (obtained_pivot_sum T F key i) next

  at_place : (xs : List ℕ) (k : ℕ) → k < length xs → from xs k ≡ cond (looks key (get_or xs k 0)) (said (get_or xs k 0) (from xs (suc k))) (from xs (suc k))
  unfolding failing_pivot
  at_place [] k h = absurd (omega arith)
  at_place (x ∷ xs) zero h = refl
  at_place (x ∷ xs) (suc k) h = at_place xs k (omega arith)

  -- the index at a place decides first
  decides : (xs : List ℕ) (k : ℕ) → k < length xs → from xs k ≡ cond (looks key (get_or xs k 0)) (said (get_or xs k 0) (from xs (k + 1))) (from xs (k + 1))
  decides xs k h = at_place xs k h ∙ ap (λ n. cond (looks key (get_or xs k 0)) (said (get_or xs k 0) (from xs n)) (from xs n)) (suc-eq-add-one k)

  -- one that isn't looked at, or is like the next one, decides nothing
  pub skipped : (xs : List ℕ) (k : ℕ) → k < length xs → (looks key (get_or xs k 0) ≡ false) ⊎ ((k + 1 < length xs) × (get_or xs (k + 1) 0 ≡ get_or xs k 0)) → from xs k ≡ from xs (k + 1)
  skipped xs k h (inl e) = decides xs k h ∙ ap (λ b. cond b (said (get_or xs k 0) (from xs (k + 1))) (from xs (k + 1))) e
  skipped xs k h (inr e) =
      decides xs k h ∙ ap (λ next. cond (looks key i) (said i next) next) below ∙ judged_twice (looks key i) (F key) i (obtained_pivot_sum T F key i) (from xs (k + 1 + 1)) ∙ sym below
    where
      i : ℕ
      i = get_or xs k 0

      below : from xs (k + 1) ≡ cond (looks key i) (said i (from xs (k + 1 + 1))) (from xs (k + 1 + 1))
      below = decides xs (k + 1) e.0 ∙ ap (λ j. cond (looks key j) (said j (from xs (k + 1 + 1))) (from xs (k + 1 + 1))) e.1

  pub no_pivots : (xs : List ℕ) (k : ℕ) → length xs ≤ k → from xs k ≡ None
  unfolding failing_pivot
  no_pivots [] zero h = refl
  no_pivots [] (suc k) h = refl
  no_pivots (x ∷ xs) zero h = absurd (omega arith)
  no_pivots (x ∷ xs) (suc k) h = no_pivots xs k (omega arith)

  -- one that is looked at, for a key with the number w and a list that is the key's
  module _ (xs : List ℕ) (k : ℕ) (h : k < length xs) (l : looks key (get_or xs k 0) ≡ true) (w : ℚ) (v : w ≡ F key) (G : Key → ℚ) (same : G ≡ F)
      (o : Option Failing) (e : o ≡ judged w (get_or xs k 0) (obtained_pivot_sum T G key (get_or xs k 0)) None) where
    alone : o ≡ said (get_or xs k 0) None
    alone = e ∙ ap₂ (λ w G. judged w (get_or xs k 0) (obtained_pivot_sum T G key (get_or xs k 0)) None) v same

    first : from xs k ≡ said (get_or xs k 0) (from xs (k + 1))
    first = decides xs k h ∙ ap (λ b. cond b (said (get_or xs k 0) (from xs (k + 1))) (from xs (k + 1))) l

    pub pivot_fails : (f : Failing) → o ≡ Some f → from xs k ≡ Some f
    pivot_fails f s = first ∙ judged_some (F key) (get_or xs k 0) (obtained_pivot_sum T F key (get_or xs k 0)) f (from xs (k + 1)) (sym alone ∙ s)

    pub pivot_agrees : o ≡ None → from xs k ≡ from xs (k + 1)
    pivot_agrees s = first ∙ judged_none (F key) (get_or xs k 0) (obtained_pivot_sum T F key (get_or xs k 0)) (from xs (k + 1)) (sym alone ∙ s)

-- The steps of a loop over a list that is the key's, for a key with the number w and over numbers that are F's.
module _ (T : Tensors) (F : Key → ℚ) (looks : Key → ℕ → Bool) (key : Key) (xs : List ℕ) (is : xs ≡ key.idx) (k : ℕ) (h : k < length xs) where
  pub stands : 0 < times (get_or xs k 0) key.idx
  stands = subst (λ ys. 0 < times (get_or xs k 0) ys) is (times_has _ xs (stands_at xs k h))

  pub passes : from T F looks key xs k ≡ from T F looks key xs (k + 1) → failing_pivot T F looks key (drop k key.idx) ≡ failing_pivot T F looks key (drop (k + 1) key.idx)
  passes e = ap (λ ys. failing_pivot T F looks key (drop k ys)) (sym is) ∙ e ∙ ap (λ ys. failing_pivot T F looks key (drop (k + 1) ys)) is

-- ---- the keys

module _ (T : Tensors) (F : Key → ℚ) (looks : Key → ℕ → Bool) where
  keys_from : (keys : List Key) (r : ℕ) → r < length keys → failing_key T F looks (drop r keys) ≡ of_key (key_at keys r) (failing_pivot T F looks (key_at keys r) (key_at keys r).idx) (failing_key T F looks (drop (suc r) keys))
  unfolding failing_key key_at
  keys_from [] r h = absurd (omega arith)
  keys_from (k ∷ keys) zero h = refl
  keys_from (k ∷ keys) (suc r) h = keys_from keys r (omega arith)

  -- the key of a rank decides first
  pub key_decides : (keys : List Key) (r : ℕ) → r < length keys → (key : Key) → key ≡ key_at keys r → (G : Key → ℚ) → G ≡ F → (o : Option Failing) → o ≡ failing_pivot T G looks key key.idx
      → failing_key T F looks (drop r keys) ≡ of_key key o (failing_key T F looks (drop (r + 1) keys))
  key_decides keys r h key k G same o e =
      keys_from keys r h
      ∙ ap₂ (λ q n. of_key q (failing_pivot T F looks q q.idx) (failing_key T F looks (drop n keys))) (sym k) (suc-eq-add-one r)
      ∙ ap (λ u. of_key key u (failing_key T F looks (drop (r + 1) keys))) (ap (λ G. failing_pivot T G looks key key.idx) (sym same) ∙ sym e)

  pub no_keys : (keys : List Key) (r : ℕ) → length keys ≤ r → failing_key T F looks (drop r keys) ≡ None
  unfolding failing_key
  no_keys [] zero h = refl
  no_keys [] (suc r) h = refl
  no_keys (k ∷ keys) zero h = absurd (omega arith)
  no_keys (k ∷ keys) (suc r) h = no_keys keys r (omega arith)

-- a reader that has each rank below n has those of a list that are
pub allowed_within : (n : ℕ) (has : ℕ → Type 0) (rs : List ℕ) → ((r : ℕ) → r < n → has r) → AreAllowed (λ r. r < n) rs → AreAllowed has rs
unfolding AreAllowed
allowed_within n has [] w h = tt
allowed_within n has (r ∷ rs) w h = (w r h.0, allowed_within n has rs w h.1)

-- an outcome that has a Value
pub has_some : (o : Outcome) → has_value o ≡ true → IsSome (value_of o)
unfolding has_value value_of
has_some (Value v) h = refl
has_some Over h = cc
has_some (Blocked r) h = cc

pub some_is : (o : Outcome) (v : ℚ) → value_of o ≡ Some v → v ≡ value_or_zero o
unfolding value_of value_or_zero
some_is (Value w) v e = cc
some_is Over v e = cc
some_is (Blocked r) v e = cc
