-- The acts of a seat, step by step.
use Rattle.std.proofs.Common.{◌≡◌, ◌≢◌, ℕ, ◌<◌, List, [], ◌∷◌, ◌++◌, length, map, refl, sym, ap, ap₂, ◌∙◌, subst, arith, true, false, true≢false, cond, nat_eq, eq-eqb, ne_eqb, eqb-true, Some, None, length-append, append_assoc}
use Rattle.cell_words.proofs.Names.{map-append, dite, ℕ_discrete, Planning, dependents_at, cells, Act, Portion, acts_of, act_among, act_in, change, with_act, fresh_act, with_fresh, claimed, active, tail_of, Holds, AreDone, IsDone, IsAt, View, unless, none-some}
use Rattle.cell_words.specs.Countdown.{active_in, last_rank}
use Rattle.std.proofs.lemmas.Option.{same_Some}
use Rattle.cell_words.proofs.BookLemmas.{first_some, among_append, none_parts}

not_head : (r : ℕ) (a : Act) (xs : List Act) → act_among r (a ∷ xs) ≡ None → (nat_eq r a.rank ≡ false) × (act_among r xs ≡ None)
not_head r a xs e =
    (elim (nat_eq r a.rank) as (λ b. cond b (Some a) (act_among r xs) ≡ None → (b ≡ false) × (act_among r xs ≡ None)) [ true ↦ λ e. absurd (none-some a (sym e)) | false ↦ λ e. (refl, e) ]) e

-- a change of the act of r where there is none
change_none : (r : ℕ) (f : Act → Act) (xs : List Act) → act_among r xs ≡ None → change r f xs ≡ xs
change_none r f [] e = refl
change_none r f (a ∷ xs) e = let n = not_head r a xs e in ap₂ (λ b l. cond b (f a) a ∷ l) n.0 (change_none r f xs n.1)

change_others : (r : ℕ) (f : Act → Act) (ps : List Portion) → act_among r (acts_of ps) ≡ None → map (λ p. record { number = p.number; acts = change r f p.acts }) ps ≡ ps
change_others r f [] e = refl
change_others r f (p ∷ ps) e =
    let n = none_parts r p.acts (acts_of ps) e in
    λ i. record { number = p.number; acts = change_none r f p.acts n.0 i } ∷ change_others r f ps n.1 i

change_last : (r : ℕ) (f : Act → Act) (xs : List Act) (a : Act) → a.rank ≡ r → act_among r xs ≡ None → change r f (xs ++ a ∷ []) ≡ xs ++ f a ∷ []
change_last r f xs a is e =
    map-append (λ (b : Act). cond (nat_eq r b.rank) (f b) b) xs (a ∷ [])
    ∙ ap₂ (λ l b. l ++ cond b (f a) a ∷ []) (change_none r f xs e) (eq-eqb r a.rank (sym is))

last_push : (xs : List Act) (a : Act) → last_rank (xs ++ a ∷ []) ≡ a.rank
last_push [] a = refl
last_push (x ∷ []) a = refl
last_push (x ∷ y ∷ xs) a = last_push (y ∷ xs) a

-- the act of r is of the rank r
pub among_rank : (r : ℕ) (xs : List Act) (a : Act) → act_among r xs ≡ Some a → a.rank ≡ r
among_rank r [] a e = absurd (cc)
among_rank r (x ∷ xs) a e =
    (elim (nat_eq r x.rank) as (λ b. nat_eq r x.rank ≡ b → cond b (Some x) (act_among r xs) ≡ Some a → a.rank ≡ r)
    [ true ↦ λ is e. ap (λ (y : Act). y.rank) (sym (same_Some x a e)) ∙ sym (eqb-true r x.rank is) | false ↦ λ is e. among_rank r xs a e ]) refl e

module _ (p : Planning) (number : ℕ) (done : List ℕ) where
  -- the seat is at the act, which stands in its view
  pub at_active : (a : Act) (ps : List Portion) → IsAt p number done a ps → (active_in ps ≡ a.rank) × (act_among a.rank (acts_of ps) ≡ Some a)
  at_active a ps h =
      let front = none_parts a.rank h.front (acts_of (tail_of ps)) h.alone in (
        ap active_in h.portions ∙ last_push h.front a,
        ap (λ l. act_among a.rank (acts_of l)) h.portions
            ∙ among_append a.rank (h.front ++ a ∷ []) (acts_of (tail_of ps))
            ∙ ap (λ o. first_some o (act_among a.rank (acts_of (tail_of ps)))) (among_append a.rank h.front (a ∷ []) ∙ ap (λ o. first_some o (act_among a.rank (a ∷ []))) front.0)
            ∙ ap (λ b. first_some (cond b (Some a) None) (act_among a.rank (acts_of (tail_of ps)))) (eq-eqb a.rank a.rank refl),
      )

  -- its act becomes f of it, and all else stays
  pub at_changed : (a : Act) (v w : View) (f : Act → Act) → IsAt p number done a v.portions → w ≡ with_act (active v) f v → (f a).rank ≡ a.rank → IsAt p number done (f a) w.portions × (tail_of w.portions ≡ tail_of v.portions)
  at_changed a v w f h is keep =
      let now = (at_active a v.portions h).0 in
      let alone = none_parts a.rank h.front (acts_of (tail_of v.portions)) h.alone in
      let portions : w.portions ≡ record { number = number; acts = h.front ++ f a ∷ [] } ∷ tail_of v.portions =
      ap (λ (u : View). u.portions) is ∙ ap (λ r. map (λ (q : Portion). record { number = q.number; acts = change r f q.acts }) v.portions) now
      ∙ ap (map (λ (q : Portion). record { number = q.number; acts = change a.rank f q.acts })) h.portions
      ∙ ap₂ (λ l qs. record { number = number; acts = l } ∷ qs) (change_last a.rank f h.front a refl alone.0) (change_others a.rank f (tail_of v.portions) alone.1) in
      let tail : tail_of w.portions ≡ tail_of v.portions = ap tail_of portions in (
        record {
          front = h.front;
          portions = portions ∙ ap (λ l. record { number = number; acts = h.front ++ f a ∷ [] } ∷ l) (sym tail);
          finished = h.finished;
          others = subst (λ l. AreDone p (acts_of l)) (sym tail) h.others;
          ranks = h.ranks;
          alone = ap₂ (λ r l. act_among r (h.front ++ acts_of l)) keep tail ∙ h.alone;
          few = h.few;
        },
        tail,
      )

  pub done_append : (xs ys : List Act) → AreDone p xs → AreDone p ys → AreDone p (xs ++ ys)
  unfolding AreDone
  done_append [] ys h k = k
  done_append (a ∷ xs) ys h k = (h.0, h.1, done_append xs ys h.2 k)

  -- what is done is filled and has signed
  pub among_done : (r : ℕ) (xs : List Act) (a : Act) → AreDone p xs → act_among r xs ≡ Some a → (a.filled ≡ true) × (a.signed ≡ length (dependents_at p a.rank))
  unfolding AreDone
  among_done r [] a h e = absurd (cc)
  among_done r (x ∷ xs) a h e =
      (elim (nat_eq r x.rank) as (λ b. cond b (Some x) (act_among r xs) ≡ Some a → (a.filled ≡ true) × (a.signed ≡ length (dependents_at p a.rank)))
      [ true ↦ λ e. subst (λ (y : Act). (y.filled ≡ true) × (y.signed ≡ length (dependents_at p y.rank))) (same_Some x a e) (h.0, h.1) | false ↦ among_done r xs a h.2 ]) e

  pub all_done : (ps : List Portion) → IsDone p number done ps → AreDone p (acts_of ps)
  all_done ps h = subst (λ qs. AreDone p (acts_of qs)) (sym h.portions) (done_append h.acts (acts_of (tail_of ps)) h.finished h.others)

  -- a seat whose acts are done holds nothing
  pub done_holds : (v : View) → IsDone p number done v.portions → (r : ℕ) → Holds v r → ⊥
  done_holds v h r holds =
      true≢false (sym (among_done r (acts_of v.portions) holds.0 (all_done v.portions h) holds.1).0 ∙ holds.2)

  pub done_some : (ps : List Portion) → IsDone p number done ps → 0 < length ps
  done_some ps h = subst (λ n. 0 < n) (sym (ap length h.portions)) (omega arith)

  -- and one that is at an act holds no other rank
  pub holds_only : (a : Act) (v : View) → IsAt p number done a v.portions → (q : ℕ) → Holds v q → q ≡ a.rank
  holds_only a v h q holds = dite (ℕ_discrete q a.rank) (λ e. e) (λ (n : q ≢ a.rank).
      let back : List Act = acts_of (tail_of v.portions) in
      let same : act_among q (acts_of v.portions) ≡ act_among q (h.front ++ back) =
      ap (λ ps. act_among q (acts_of ps)) h.portions ∙ ap (act_among q) (append_assoc h.front (a ∷ []) back) ∙ among_append q h.front (a ∷ back)
      ∙ ap (first_some (act_among q h.front)) (unless (nat_eq q a.rank) (Some a) (act_among q back) (ne_eqb q a.rank n)) ∙ sym (among_append q h.front back) in
      let full = among_done q (h.front ++ back) holds.0 (done_append h.front back h.finished h.others) (sym same ∙ holds.1) in
      absurd (true≢false (sym full.0 ∙ holds.2)))

  -- a fresh act
  pub at_fresh : (r : ℕ) (v : View) → IsDone p number done v.portions → act_in v r ≡ None → length (acts_of v.portions) < cells p → IsAt p number done (fresh_act r) (claimed r v).portions × (tail_of (claimed r v).portions ≡ tail_of v.portions)
  at_fresh r v h free few =
      let acts : acts_of v.portions ≡ h.acts ++ acts_of (tail_of v.portions) = ap acts_of h.portions in
      let portions : (claimed r v).portions ≡ record { number = number; acts = h.acts ++ fresh_act r ∷ [] } ∷ tail_of v.portions = ap (with_fresh r) h.portions in
      let tail : tail_of (claimed r v).portions ≡ tail_of v.portions = ap tail_of portions in (
        record {
          front = h.acts;
          portions = portions ∙ ap (λ l. record { number = number; acts = h.acts ++ fresh_act r ∷ [] } ∷ l) (sym tail);
          finished = h.finished;
          others = subst (λ l. AreDone p (acts_of l)) (sym tail) h.others;
          ranks = h.ranks;
          alone = ap (λ l. act_among r (h.acts ++ acts_of l)) tail ∙ sym (ap (act_among r) acts) ∙ free;
          few = let l = ap length acts ∙ length-append h.acts (acts_of (tail_of v.portions)) in omega arith;
        },
        tail,
      )

  -- the act is done, too
  pub at_done : (a : Act) (ps : List Portion) → IsAt p number done a ps → a.filled ≡ true → a.signed ≡ length (dependents_at p a.rank) → IsDone p number (done ++ a.rank ∷ []) ps
  unfolding AreDone
  at_done a ps h full signed = record {
    acts = h.front ++ a ∷ [];
    portions = h.portions;
    finished = done_append h.front (a ∷ []) h.finished (full, signed, tt);
    others = h.others;
    ranks = ap (λ l. l ++ a.rank ∷ []) h.ranks ∙ sym (map-append (λ (b : Act). b.rank) h.front (a ∷ []));
  }
