-- What a seat with all portions finds.
use Rattle.std.proofs.Common.{arith, ◌≡◌, ◌⊎◌, ℕ, suc, ◌<◌, List, [], ◌∷◌, length, take, refl, sym, ap, ap₂, ◌∙◌, inl, inr, Bool, true, not, ◌&&◌, ◌||◌, cond, nat_eq, eq-eqb, Option, Some, None, take_all}
use Rattle.cell_words.proofs.Names.{or-true, Planning, has, needs_at, dependents_at, cells, IsPlanned, Act, CLAIMED, FILLED, acts_of, act_among, act_in, signs, signed_in, count_of, unsigned, state_of, IsFilled, Known, IsDone, View}
use Rattle.cell_words.proofs.StepLemmas.{some_act}
use Rattle.cell_words.proofs.ActLemmas.{all_done, among_done, among_rank}

none_count : (f : ℕ → Bool) (xs : List ℕ) → ((q : ℕ) → has q xs ≡ true → f q ≡ true) → count_of (λ q. not (f q)) xs ≡ 0
unfolding has
none_count f [] e = refl
none_count f (x ∷ xs) e = ap₂ (λ c n. cond (not c) (suc n) n) (e x (ap (λ c. c || has x xs) (eq-eqb x x refl))) (none_count f xs (λ q h. e q (ap (λ c. nat_eq q x || c) h ∙ or-true (nat_eq q x))))

module _ (p : Planning) (number : ℕ) (done : List ℕ) (v : View) (planned : IsPlanned p) (h : IsDone p number done v.portions) (filled : (q : ℕ) → Known v q → IsFilled (act_in v q)) where
  -- a need that is known has signed
  has_signed : (r q : ℕ) → r < cells p → has q (needs_at p r) ≡ true → Known v q → signs p (act_in v) q r ≡ true
  has_signed r q low need known =
      let a = some_act (act_in v q) (filled q known) in
      let acts : act_among q (acts_of v.portions) ≡ Some a.0 = a.1 in
      let full = among_done p number done q (acts_of v.portions) a.0 (all_done p number done v.portions h) acts in
      let rank = among_rank q (acts_of v.portions) a.0 acts in
      let all : take a.0.signed (dependents_at p q) ≡ dependents_at p q = ap (λ n. take n (dependents_at p q)) (full.1 ∙ ap (λ k. length (dependents_at p k)) rank) ∙ take_all (length (dependents_at p q)) (dependents_at p q) (omega arith) in
      ap (λ o. signed_in p o q r) a.1 ∙ ap₂ (λ f l. f && has r l) full.0 all ∙ sym (planned.converse q r (planned.needs_low q r need) low) ∙ need

  -- the word of a rank whose needs are known
  pub whole_word : (r n : ℕ) → r < cells p → ((q : ℕ) → has q (needs_at p r) ≡ true → Known v q) → n ≡ state_of (unsigned p (act_in v) r) (act_in v r)
      → ((act_in v r ≡ None) × (n ≡ 0)) ⊎ ((a : Act) × (act_in v r ≡ Some a) × (n ≡ FILLED))
  whole_word r n low known word = by (act_in v r) refl word
    where
      by : (o : Option Act) → act_in v r ≡ o → n ≡ state_of (unsigned p (act_in v) r) o → ((act_in v r ≡ None) × (n ≡ 0)) ⊎ ((a : Act) × (act_in v r ≡ Some a) × (n ≡ FILLED))
      by None is w = inl (is, w ∙ none_count (λ q. signs p (act_in v) q r) (needs_at p r) (λ q e. has_signed r q low e (known q e)))
      by (Some a) is w = inr (a, is, w ∙ ap (λ f. cond f FILLED CLAIMED) (among_done p number done r (acts_of v.portions) a (all_done p number done v.portions h) is).0)
