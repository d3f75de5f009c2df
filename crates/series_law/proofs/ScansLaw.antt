-- The first pivot that fails is found, and there is exactly one.
use Rattle.std.proofs.Common.{◌≡◌, ℕ, zero, suc, ◌<◌, ◌≤◌, Bool, true, false, List, [], ◌∷◌, length, get_or, Option, Some, None, refl, sym, ap, ap₂, subst, ◌∙◌, inl, inr, eqb, arith, ◌⊎◌, cond, eqb-true, eq-eqb}
use Rattle.std.proofs.lemmas.Bool.{cases_order}
use Rattle.airy_math.specs.Rational.{ℚ}
use Rattle.airy_math.specs.Keys.{Key, times, more, before}
use Rattle.airy_math.specs.Tensors.{Tensors, same_number}
use Rattle.airy_math.specs.Ranks.{place_of, key_at, no_key}
use Rattle.airy_math.specs.Planned.{planned, IsPlanned}
use Rattle.airy_math.specs.Terms.{obtained_pivot_sum}
use Rattle.airy_math.proofs.SumLemmas.{Each, Each-weaken}
use Rattle.airy_math.proofs.KeyLemmas.{Ascending}
use Rattle.airy_math.proofs.SameNumbers.{same_true, same_self, clash}
use Rattle.airy_math.proofs.PlannedLaw.{ascending}
use Rattle.airy_math.proofs.PlanLemmas.{Has, planned_has, planned_only}
use Rattle.airy_math.proofs.RankLaw.{place-has, place-each, plan_law, ranks_in_order}
use Rattle.series_law.specs.Scans.{IsLooked, Failing, judged, failing_pivot, of_key, failing_key, Agrees, AgreesUpTo, IsFirstFailing, FindsFirst}

-- ---- what stands in a list

has_times : (i : ℕ) (xs : List ℕ) → 0 < times i xs → Has i xs
unfolding times
has_times i [] h = absurd (omega arith)
has_times i (x ∷ xs) h = by (eqb i x) refl h (has_times i xs)
  where
    by : (t : Bool) → eqb i x ≡ t → 0 < more t (times i xs) → (0 < times i xs → Has i xs) → (i ≡ x) ⊎ Has i xs
    by true e h r = inl (eqb-true i x e)
    by false e h r = inr (r h)

pub times_has : (i : ℕ) (xs : List ℕ) → Has i xs → 0 < times i xs
unfolding times
times_has i [] h = absurd h
times_has i (x ∷ xs) (inl e) = by (eqb i x) (eq-eqb i x e)
  where
    by : (t : Bool) → t ≡ true → 0 < more t (times i xs)
    by true u = omega arith
    by false u = cc
times_has i (x ∷ xs) (inr h) = by (eqb i x) (times_has i xs h)
  where
    by : (t : Bool) → 0 < times i xs → 0 < more t (times i xs)
    by true l = omega arith
    by false l = l

least_has : (m i : ℕ) (is : List ℕ) → Ascending m is → Has i is → m ≤ i
least_has m i [] u h = absurd h
least_has m i (x ∷ is) u (inl e) = omega (arith, u.0, e)
least_has m i (x ∷ is) u (inr h) = omega (arith, u.0, least_has x i is u.1 h)

-- ---- looking at pivots in order

module _ (T : Tensors) (F : Key → ℚ) (looks : Key → ℕ → Bool) where
  -- each index of the list that is looked at agrees
  abbrev AllAgree : Key → List ℕ → Type 0
  AllAgree key is = (j : ℕ) → Has j is → looks key j ≡ true → Agrees T F key j

  -- what is found of the indices of a list is the first that fails
  abbrev FirstPivot : Key → List ℕ → Option Failing → Type 0
  FirstPivot key is None = AllAgree key is
  FirstPivot key is (Some (i, s)) = (Has i is × (looks key i ≡ true)) × ((j : ℕ) → Has j is → looks key j ≡ true → j < i → Agrees T F key j) × (obtained_pivot_sum T F key i ≡ s) × (s ≡ Some (F key) → ⊥)

  first_pivot : (key : Key) (m : ℕ) (is : List ℕ) → Ascending m is → FirstPivot key is (failing_pivot T F looks key is)
  unfolding failing_pivot judged Agrees
  first_pivot key m [] up = λ j h l. absurd h
  first_pivot key m (i ∷ is) up = by (first_pivot key i is up.1) (looks key i) refl (obtained_pivot_sum T F key i) refl
    where
      rest : Option Failing
      rest = failing_pivot T F looks key is

      here : looks key i ≡ true → (s : Option ℚ) → obtained_pivot_sum T F key i ≡ s → (s ≡ Some (F key) → ⊥) → FirstPivot key (i ∷ is) (Some (i, s))
      here a s e d = ((inl refl, a), none, e, d)
        where
          none : (j : ℕ) → Has j (i ∷ is) → looks key j ≡ true → j < i → obtained_pivot_sum T F key j ≡ Some (F key)
          none j (inl u) b l = absurd (omega (arith, u, l))
          none j (inr h) b l = absurd (omega (arith, l, least_has i j is up.1 h))

      -- where i agrees if it is looked at
      later : (looks key i ≡ true → obtained_pivot_sum T F key i ≡ Some (F key)) → (f : Option Failing) → FirstPivot key is f → FirstPivot key (i ∷ is) f
      later a None r = all
        where
          all : (j : ℕ) → Has j (i ∷ is) → looks key j ≡ true → obtained_pivot_sum T F key j ≡ Some (F key)
          all j (inl e) b = ap (obtained_pivot_sum T F key) e ∙ a (ap (looks key) (sym e) ∙ b)
          all j (inr h) b = r j h b
      later a (Some (p, s)) r = ((inr r.0.0, r.0.1), lesser, r.2, r.3)
        where
          lesser : (j : ℕ) → Has j (i ∷ is) → looks key j ≡ true → j < p → obtained_pivot_sum T F key j ≡ Some (F key)
          lesser j (inl e) b l = ap (obtained_pivot_sum T F key) e ∙ a (ap (looks key) (sym e) ∙ b)
          lesser j (inr h) b l = r.1 j h b l

      at : FirstPivot key is rest → looks key i ≡ true → (v : ℚ) → obtained_pivot_sum T F key i ≡ Some v → (t : Bool) → same_number v (F key) ≡ t → FirstPivot key (i ∷ is) (cond t rest (Some (i, Some v)))
      at r a v e true t = later (λ b. e ∙ ap Some (same_true v (F key) t)) rest r
      at r a v e false t = here a (Some v) e (λ w. other (some_same w))
        where
          some_same : Some v ≡ Some (F key) → v ≡ F key
          some_same w = cc

          other : v ≡ F key → ⊥
          other w = clash (same_number v (F key)) (ap (same_number v) (sym w) ∙ same_self v) t

      by : FirstPivot key is rest → (b : Bool) → looks key i ≡ b → (o : Option ℚ) → obtained_pivot_sum T F key i ≡ o → FirstPivot key (i ∷ is) (cond b (judged (F key) i o rest) rest)
      by r false a o e = later (λ b. absurd (clash (looks key i) b a)) rest r
      by r true a None e = here a None e (λ w. cc)
      by r true a (Some v) e = at r a v e (same_number v (F key)) refl

  -- what is found of keys in order is the first that fails
  abbrev FirstKey : List Key → Option (Key × Failing) → Type 0
  FirstKey keys None = Each (λ key. AllAgree key key.idx) keys
  FirstKey keys (Some (key, f)) = (r : ℕ) × (r < length keys) × (get_or keys r no_key ≡ key) × ((s : ℕ) → s < r → AllAgree (get_or keys s no_key) (get_or keys s no_key).idx) × FirstPivot key key.idx (Some f)

  first_key : (keys : List Key) → Each (λ key. Ascending 0 key.idx) keys → FirstKey keys (failing_key T F looks keys)
  unfolding failing_key of_key
  first_key [] os = tt
  first_key (key ∷ keys) os = by (failing_pivot T F looks key key.idx) (first_pivot key 0 key.idx os.0) (failing_key T F looks keys) (first_key keys os.1)
    where
      by : (o : Option Failing) → FirstPivot key key.idx o → (next : Option (Key × Failing)) → FirstKey keys next → FirstKey (key ∷ keys) (of_key key o next)
      by (Some f) p next r = (0, (let l : 0 < suc (length keys) = omega arith in l), refl, (λ s l. absurd (omega (arith, l))), p)
      by None a None r = (a, r)
      by None a (Some (k, f)) r = (suc r.0, (let l : suc r.0 < suc (length keys) = omega (arith, r.1) in l), r.2, earlier, r.4)
        where
          earlier : (s : ℕ) → s < suc r.0 → AllAgree (get_or (key ∷ keys) s no_key) (get_or (key ∷ keys) s no_key).idx
          earlier zero l = a
          earlier (suc s) l = r.3 s (omega (arith, l))

  -- ---- what is found is the first, and there is only one

  module _ (X : ℕ) where
    all_agree : (key : Key) → AllAgree key key.idx → (i : ℕ) → IsLooked looks key i → Agrees T F key i
    unfolding IsLooked
    all_agree key a i o = a i (has_times i key.idx o.0) o.1

    is_first : (f : Option (Key × Failing)) → FirstKey (planned T X) f → IsFirstFailing T X F looks f
    unfolding IsFirstFailing IsLooked key_at
    is_first None a = λ key p. all_agree key (place-each (λ key. AllAgree key key.idx) key (planned T X) a (place-has key (planned T X) (planned_has T X key p)))
    is_first (Some (key, (i, s))) r = (
      record {
        planned = subst (IsPlanned T X) r.2 ((plan_law T X).only r.0 r.1);
        looked = (times_has i key.idx r.4.0.0, r.4.0.1);
        keys = λ k q b. all_agree k (subst (λ k. AllAgree k k.idx) ((plan_law T X).there k q) (r.3 (place_of k (planned T X)) (lower k q b)));
        pivots = λ j o l. r.4.1 j (has_times j key.idx o.0) o.1 l;
      },
      r.4.2,
      r.4.3,
    )
      where
        lower : (k : Key) → IsPlanned T X k → before k key ≡ true → place_of k (planned T X) < r.0
        lower k q b = omega (arith, ((ranks_in_order T X).order k key q (subst (IsPlanned T X) r.2 ((plan_law T X).only r.0 r.1))).0 b, ap (λ k. place_of k (planned T X)) (sym r.2) ∙ (plan_law T X).once r.0 r.1)

    first : IsFirstFailing T X F looks (failing_key T F looks (planned T X))
    first = is_first _ (first_key (planned T X) (Each-weaken (IsPlanned T X) _ (planned T X) (λ key p. ascending 0 T.dim key.idx p.sorted) (planned_only T X)))

    before_or : (key key' : Key) → IsPlanned T X key → IsPlanned T X key' → (key ≡ key') ⊎ ((before key key' ≡ true) ⊎ (before key' key ≡ true))
    unfolding key_at
    before_or key key' p q = by (cases_order (place_of key (planned T X)) (place_of key' (planned T X)))
      where
        by : (place_of key (planned T X) ≡ place_of key' (planned T X)) ⊎ ((place_of key (planned T X) < place_of key' (planned T X)) ⊎ (place_of key' (planned T X) < place_of key (planned T X))) → (key ≡ key') ⊎ ((before key key' ≡ true) ⊎ (before key' key ≡ true))
        by (inl e) = inl (sym ((plan_law T X).there key p) ∙ ap (λ r. get_or (planned T X) r no_key) e ∙ (plan_law T X).there key' q)
        by (inr (inl l)) = inr (inl (((ranks_in_order T X).order key key' p q).1 l))
        by (inr (inr l)) = inr (inr (((ranks_in_order T X).order key' key q p).1 l))

    -- this pivot fails, and all that is looked at before it agrees
    record Stops (key : Key) (i : ℕ) : Type 0 where
      up : AgreesUpTo T X F looks key i
      fails : Agrees T F key i → ⊥

    stops : (key : Key) (i : ℕ) (s : Option ℚ) → IsFirstFailing T X F looks (Some (key, (i, s))) → Stops key i
    unfolding IsFirstFailing Agrees
    stops key i s h = record { up = h.0; fails = λ e. h.2 (sym h.1 ∙ e) }

    one_stop : (key key' : Key) (i i' : ℕ) → Stops key i → Stops key' i' → (key ≡ key') × (i ≡ i')
    one_stop key key' i i' s s' = by (before_or key key' s.up.planned s'.up.planned) (cases_order i i')
      where
        same : key ≡ key' → (i ≡ i') ⊎ ((i < i') ⊎ (i' < i)) → i ≡ i'
        same e (inl u) = u
        same e (inr (inl l)) = absurd (s.fails (subst (λ k. Agrees T F k i) (sym e) (s'.up.pivots i (subst (λ k. IsLooked looks k i) e s.up.looked) l)))
        same e (inr (inr l)) = absurd (s'.fails (subst (λ k. Agrees T F k i') e (s.up.pivots i' (subst (λ k. IsLooked looks k i') (sym e) s'.up.looked) l)))

        by : (key ≡ key') ⊎ ((before key key' ≡ true) ⊎ (before key' key ≡ true)) → (i ≡ i') ⊎ ((i < i') ⊎ (i' < i)) → (key ≡ key') × (i ≡ i')
        by (inl e) c = (e, same e c)
        by (inr (inl b)) c = absurd (s.fails (s'.up.keys key s.up.planned b i s.up.looked))
        by (inr (inr b)) c = absurd (s'.fails (s.up.keys key' s'.up.planned b i' s'.up.looked))

    one : (f f' : Option (Key × Failing)) → IsFirstFailing T X F looks f → IsFirstFailing T X F looks f' → f ≡ f'
    unfolding IsFirstFailing
    one None None h h' = refl
    one None (Some (key, (i, s))) h h' = let t = stops key i s h' in absurd (t.fails (h key t.up.planned i t.up.looked))
    one (Some (key, (i, s))) None h h' = let t = stops key i s h in absurd (t.fails (h' key t.up.planned i t.up.looked))
    one (Some (key, (i, s))) (Some (key', (i', s'))) h h' =
        let e = one_stop key key' i i' (stops key i s h) (stops key' i' s' h') in
        all e.0 e.1 (sym h.1 ∙ ap₂ (obtained_pivot_sum T F) e.0 e.1 ∙ h'.1)
      where
        all : key ≡ key' → i ≡ i' → s ≡ s' → ◌≡◌ {A = Option (Key × Failing)} (Some (key, (i, s))) (Some (key', (i', s')))
        all p q r = cc

pub finds_first : FindsFirst
finds_first T X F looks f = (λ e. subst (IsFirstFailing T X F looks) e (first T F looks X), λ h. one T F looks X _ f (first T F looks X) h)
