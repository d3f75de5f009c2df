-- A greater bound keeps the outcomes of ranks, so a table is carried over to the grown plan.
use Rattle.std.proofs.Common.{◌≡◌, ℕ, zero, suc, ◌<◌, ◌≤◌, true, List, [], ◌∷◌, ◌++◌, map, length, get_or, Option, Some, None, inl, inr, refl, sym, ap, ap₂, ◌∙◌, subst, arith, length-append}
use Rattle.std.proofs.Math.ListN.{get_or-append}
use Rattle.airy_math.specs.Obtained.{◌⊛◌, obtained_from}
use Rattle.airy_math.specs.Planned.{planned, IsPlanned}
use Rattle.airy_math.specs.Ranks.{place_of, no_key, PlanLaw, RanksLaw}
use Rattle.airy_math.specs.Rational.{ℚ}
use Rattle.airy_math.specs.RationalLaws.{0ℚ}
use Rattle.airy_math.specs.Sums.{each}
use Rattle.airy_math.specs.Tensors.{Tensors}
use Rattle.airy_math.specs.Terms.{Term, Alone, Once, Joined, Twice, terms, named, StandsIn, obtained_half, obtained_term, obtained_pivot_sum}
use Rattle.airy_math.proofs.NeedsLaw.{needs_first}
use Rattle.airy_math.proofs.PlanOrderLaw.{levels}
use Rattle.airy_math.proofs.RankLaw.{plan_law, ranks_in_order}
use Rattle.amp_plan.proofs.GrowLemmas.{keeps_ranks, planned-split}
use Rattle.amp_terms.specs.Outcomes.{outcomes, outcomes_after, outcome_of, outcome_from, outcome_at, least_blocked, ranks_named, value_in, value_or_zero}
use Rattle.amp_terms.proofs.NamedLemmas.{least_stands}
use Rattle.amp_terms.proofs.OutcomeLemmas.{length-outcomes}
use Rattle.amp_plan.proofs.NeedLemmas.{stands-left, stands-right}
use Rattle.cell_words.proofs.Names.{Key, head_or, remove, tensors_of, keys_of, has, Outcome, Over, carries}
use Rattle.cell_words.specs.Resuming.{GrownTablesLaw}
use Rattle.airy_math.specs.Ranks as ranks

-- ---- terms whose keys have the same values and the same places

term-alike : (F G : Key → ℚ) (t : Term) → ((k : Key) → StandsIn k (named t) → F k ≡ G k) → obtained_term F t ≡ obtained_term G t
unfolding obtained_term named StandsIn
term-alike F G (Alone v) h = refl
term-alike F G (Once m v k) h = ap (λ x. Some m ⊛ Some v ⊛ Some x) (h k (inl refl))
term-alike F G (Joined b v k) h = ap (λ x. obtained_half b v ⊛ Some x) (h k (inl refl))
term-alike F G (Twice b v q l r) h = ap₂ (λ x y. obtained_half b v ⊛ Some q ⊛ Some x ⊛ Some y) (h l (inl refl)) (h r (inr (inl refl)))

terms-alike : (F G : Key → ℚ) (ts : List Term) → ((k : Key) → StandsIn k (each ts named) → F k ≡ G k) → map (obtained_term F) ts ≡ map (obtained_term G) ts
unfolding each
terms-alike F G [] h = refl
terms-alike F G (t ∷ ts) h =
    ap₂ ◌∷◌ (term-alike F G t (λ k s. h k (stands-left k (named t) (each ts named) s))) (terms-alike F G ts (λ k s. h k (stands-right k (named t) (each ts named) s)))

module _ (plan more : List Key) where
  places-alike : (ks : List Key) → ((k : Key) → StandsIn k ks → place_of k more ≡ place_of k plan) → map (λ k. place_of k more) ks ≡ map (λ k. place_of k plan) ks
  unfolding StandsIn
  places-alike [] h = refl
  places-alike (k ∷ ks) h = ap₂ ◌∷◌ (h k (inl refl)) (places-alike ks (λ q s. h q (inr s)))

  ranks-alike : (ts : List Term) → ((k : Key) → StandsIn k (each ts named) → place_of k more ≡ place_of k plan) → ranks_named more ts ≡ ranks_named plan ts
  unfolding ranks_named each
  ranks-alike [] h = refl
  ranks-alike (t ∷ ts) h =
      ap₂ ◌++◌ (places-alike (named t) (λ k s. h k (stands-left k (named t) (each ts named) s))) (ranks-alike ts (λ k s. h k (stands-right k (named t) (each ts named) s)))

-- ---- the outcomes of the first ranks

after-both : (T : Tensors) (plan : List Key) (done : List Outcome) (ks ls : List Key) → outcomes_after T plan done (ks ++ ls) ≡ outcomes_after T plan (outcomes_after T plan done ks) ls
unfolding outcomes_after
after-both T plan done [] ls = refl
after-both T plan done (k ∷ ks) ls = after-both T plan (done ++ (outcome_of T plan done k ∷ [])) ks ls

after-keeps : (T : Tensors) (plan : List Key) (done : List Outcome) (ks : List Key) (r : ℕ) → r < length done → get_or (outcomes_after T plan done ks) r Over ≡ get_or done r Over
unfolding outcomes_after
after-keeps T plan done [] r l = refl
after-keeps T plan done (k ∷ ks) r l =
    let o = outcome_of T plan done k in
    after-keeps T plan (done ++ (o ∷ [])) ks r (omega (arith, l, length-append done (o ∷ []))) ∙ get_or-append done (o ∷ []) Over r l

module _ (T : Tensors) (X Y : ℕ) (h : X ≤ Y) where
  outcome-alike : (done : List Outcome) (key : Key) → IsPlanned T X key → outcome_of T (planned T Y) done key ≡ outcome_of T (planned T X) done key
  unfolding outcome_of obtained_pivot_sum value_in
  outcome-alike done key p =
      let i = head_or 0 key.idx in
      let ts = terms T i key.g (remove i key.idx) in
      let same : (k : Key) → StandsIn k (each ts named) → place_of k (planned T Y) ≡ place_of k (planned T X) =
      (λ k s. (ranks_in_order T X).kept Y h k ((needs_first T X key p).terms i (least_stands T X key p) k s).planned) in
      ap₂ outcome_from (ap (least_blocked done) (ranks-alike (planned T X) (planned T Y) ts same))
      (ap (obtained_from (Some 0ℚ)) (terms-alike (λ k. value_or_zero (get_or done (place_of k (planned T Y)) Over)) (λ k. value_or_zero (get_or done (place_of k (planned T X)) Over)) ts
      (λ k s. ap (λ r. value_or_zero (get_or done r Over)) (same k s))))

  after-alike : (done : List Outcome) (ks : List Key) → ((r : ℕ) → r < length ks → IsPlanned T X (get_or ks r no_key)) → outcomes_after T (planned T Y) done ks ≡ outcomes_after T (planned T X) done ks
  unfolding outcomes_after
  after-alike done [] all = refl
  after-alike done (k ∷ ks) all =
      ap (λ o. outcomes_after T (planned T Y) (done ++ (o ∷ [])) ks) (outcome-alike done k (all 0 (omega arith)))
      ∙ after-alike (done ++ (outcome_of T (planned T X) done k ∷ [])) ks (λ r l. all (suc r) (omega arith))

  outcomes-kept : (r : ℕ) → r < length (planned T X) → get_or (outcomes T Y) r Over ≡ get_or (outcomes T X) r Over
  unfolding outcomes ranks.key_at
  outcomes-kept r l =
      let plan = planned T Y in
      let first = outcomes_after T plan [] (planned T X) in
      let same : first ≡ outcomes T X = after-alike [] (planned T X) (λ q m. (plan_law T X).only q m) in
      ap (λ ks. get_or (outcomes_after T plan [] ks) r Over) (planned-split T X Y h)
      ∙ ap (λ os. get_or os r Over) (after-both T plan [] (planned T X) _)
      ∙ after-keeps T plan first _ r (omega (arith, l, ap length same, length-outcomes T X))
      ∙ ap (λ os. get_or os r Over) same

-- ---- tables

some_low : (t : List (Option Outcome)) (r : ℕ) (o : Outcome) → get_or t r None ≡ Some o → r < length t
some_low [] r o e = absurd cc
some_low (x ∷ t) zero o e = omega arith
some_low (x ∷ t) (suc r) o e = let l = some_low t r o e in omega arith

carried_low : (t : List (Option Outcome)) (r : ℕ) → carries t r ≡ true → r < length t
carried_low [] r e = absurd cc
carried_low (x ∷ t) zero e = omega arith
carried_low (x ∷ t) (suc r) e = let l = carried_low t r e in omega arith

pub grown_tables : GrownTablesLaw
unfolding keys_of tensors_of outcome_at
grown_tables p Y t h can =
    let k = keeps_ranks plan_law levels needs_first ranks_in_order p Y h in record {
      long = omega (arith, can.long, k.fewer);
      right = λ r o e. can.right r o e ∙ sym (outcomes-kept (tensors_of p) p.bound Y h r (omega (arith, some_low t r o e, can.long)));
      needs = λ r q c need. can.needs r q c (subst (λ l. has q l ≡ true) (k.needs r (omega (arith, carried_low t r c, can.long))) need);
    }
