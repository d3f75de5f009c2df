-- What a visitor has after several lists of terms, and which ranks it allows.
use Rattle.std.proofs.Common.{◌≡◌, ℕ, ◌+◌, ◌<◌, List, [], ◌∷◌, ◌++◌, length, drop, get_or, Option, Some, None, refl, sym, ap, ap₂, subst, ◌∙◌, append_assoc, append-nil, ◌↔◌}
use Rattle.amp_plan.proofs.Words.{each, RankedTerm, ranks_of, after_terms, AreAllowed, NameAllowed, Takes, for_rank, for_ranks}
use Rattle.std.proofs.lemmas.List.{drop_more}
use Rattle.airy_math.proofs.EachLemmas.{each-append}
use Rattle.index_lists.proofs.SplitLemmas.{each-one}

-- a list from an item on
pub drop-read : {A : Type 0} (xs : List A) (i : ℕ) (x : A) → i < length xs → x ≡ get_or xs i x → drop i xs ≡ x ∷ drop (i + 1) xs
drop-read xs i x l e = drop_more xs i x l ∙ ap (λ y. y ∷ drop (i + 1) xs) (sym e)

-- ---- ranks that are allowed

module _ (P : ℕ → Type 0) where
  pub allowed-left : (ts us : List RankedTerm) → NameAllowed P (ts ++ us) → NameAllowed P ts
  unfolding NameAllowed
  allowed-left [] us h = tt
  allowed-left (t ∷ ts) us h = (h.0, allowed-left ts us h.1)

  pub allowed-right : (ts us : List RankedTerm) → NameAllowed P (ts ++ us) → NameAllowed P us
  unfolding NameAllowed
  allowed-right [] us h = h
  allowed-right (t ∷ ts) us h = allowed-right ts us h.1

  pub allowed-same : {ts us : List RankedTerm} → ts ≡ us → NameAllowed P us → NameAllowed P ts
  allowed-same e h = subst (NameAllowed P) (sym e) h

are_allowed-weaken : (P Q : ℕ → Type 0) (rs : List ℕ) → ((r : ℕ) → P r → Q r) → AreAllowed P rs → AreAllowed Q rs
unfolding AreAllowed
are_allowed-weaken P Q [] w h = tt
are_allowed-weaken P Q (r ∷ rs) w h = (w r h.0, are_allowed-weaken P Q rs w h.1)

allowed-weaken : (P Q : ℕ → Type 0) (ts : List RankedTerm) → ((r : ℕ) → P r → Q r) → NameAllowed P ts → NameAllowed Q ts
unfolding NameAllowed
allowed-weaken P Q [] w h = tt
allowed-weaken P Q (t ∷ ts) w h = (are_allowed-weaken P Q (ranks_of t) w h.0, allowed-weaken P Q ts w h.1)

-- ---- a term that is there where there is a rank, or two

pub with_rank : (o : Option ℕ) (f : ℕ → RankedTerm) (r : ℕ) → o ≡ Some r → f r ∷ [] ≡ for_rank o f
unfolding for_rank
with_rank o f r e = ap (λ o. for_rank o f) (sym e)

pub without_rank : (o : Option ℕ) (f : ℕ → RankedTerm) → ((r : ℕ) → o ≡ Some r → ⊥) → [] ≡ for_rank o f
unfolding for_rank
without_rank None f n = refl
without_rank (Some r) f n = absurd (n r refl)

pub with_ranks : (o p : Option ℕ) (f : ℕ → ℕ → RankedTerm) (r s : ℕ) → o ≡ Some r → p ≡ Some s → f r s ∷ [] ≡ for_ranks o p f
unfolding for_ranks
with_ranks o p f r s d e = ap₂ (λ o p. for_ranks o p f) (sym d) (sym e)

pub without_left : (o p : Option ℕ) (f : ℕ → ℕ → RankedTerm) → ((r : ℕ) → o ≡ Some r → ⊥) → [] ≡ for_ranks o p f
unfolding for_ranks
without_left None p f n = refl
without_left (Some r) p f n = absurd (n r refl)

pub without_right : (o p : Option ℕ) (f : ℕ → ℕ → RankedTerm) → ((r : ℕ) → p ≡ Some r → ⊥) → [] ≡ for_ranks o p f
unfolding for_ranks
without_right None p f n = refl
without_right (Some r) None f n = refl
without_right (Some r) (Some s) f n = absurd (n s refl)

-- ---- states

after-append : {S : Type 0} (step : S → RankedTerm → S) (s : S) (ts us : List RankedTerm) → after_terms step s (ts ++ us) ≡ after_terms step (after_terms step s ts) us
unfolding after_terms
after-append step s [] us = refl
after-append step s (t ∷ ts) us = after-append step (step s t) ts us

-- A visitor that took what the elements before those that are left make.
pub record HasTaken {W S A : Type 0} (allows : W → ℕ → Type 0) (state : W → S) (step : S → RankedTerm → S) (f : A → List RankedTerm) (all left : List A) (old new : W) : Type 0 where
  pub before : List A
  pub parts : before ++ left ≡ all
  pub takes : Takes allows state step (each before f) old new

module _ {W S : Type 0} {allows : W → ℕ → Type 0} {state : W → S} {step : S → RankedTerm → S} where
  pub takes-none : {a : W} → Takes allows state step [] a a
  unfolding after_terms
  takes-none {a} = record { after = refl; stays = λ r. (λ h. h, λ h. h) }

  pub takes-one : {t : RankedTerm} {a b : W} → state b ≡ step (state a) t → ((r : ℕ) → allows b r ↔ allows a r) → Takes allows state step (t ∷ []) a b
  unfolding after_terms
  takes-one {t} {a} {b} e h = record { after = e; stays = h }

  pub takes-same : {ts us : List RankedTerm} {a b : W} → ts ≡ us → Takes allows state step ts a b → Takes allows state step us a b
  takes-same {ts} {us} {a} {b} e h = subst (λ l. Takes allows state step l a b) e h

  pub takes-append : {ts us : List RankedTerm} {a b c : W} → Takes allows state step ts a b → Takes allows state step us b c → Takes allows state step (ts ++ us) a c
  takes-append {ts} {us} {a} {b} {c} p q = record {
    after = q.after ∙ ap (λ s. after_terms step s us) p.after ∙ sym (after-append step (state a) ts us);
    stays = λ r. (λ h. (p.stays r).0 ((q.stays r).0 h), λ h. (q.stays r).1 ((p.stays r).1 h));
  }

  -- what was allowed before is allowed after
  pub allowed-still : {ts : List RankedTerm} (us : List RankedTerm) {a b : W} → Takes allows state step ts a b → NameAllowed (allows a) us → NameAllowed (allows b) us
  allowed-still {ts} us {a} {b} p h = allowed-weaken (allows a) (allows b) us (λ r. (p.stays r).1) h

  module _ {A : Type 0} {f : A → List RankedTerm} where
    pub taken-none : {all xs : List A} {a : W} → xs ≡ all → HasTaken allows state step f all xs a a
    unfolding each
    taken-none {all} {xs} {a} e = record { before = []; parts = e; takes = takes-none }

    pub taken-more : {all left rest : List A} {x : A} {a b c : W} → left ≡ x ∷ rest → HasTaken allows state step f all left a b → Takes allows state step (f x) b c → HasTaken allows state step f all rest a c
    taken-more {all} {left} {rest} {x} {a} {b} {c} e h q = record {
      before = h.before ++ x ∷ [];
      parts = append_assoc h.before (x ∷ []) rest ∙ ap (λ l. h.before ++ l) (sym e) ∙ h.parts;
      takes = takes-same (ap (λ l. each h.before f ++ l) (sym (each-one f x)) ∙ sym (each-append h.before (x ∷ []) f)) (takes-append h.takes q);
    }

    pub taken-all : {all left : List A} {a b : W} → left ≡ [] → HasTaken allows state step f all left a b → Takes allows state step (each all f) a b
    taken-all {all} {left} {a} {b} e h = takes-same (ap (λ l. each l f) (sym (append-nil h.before) ∙ ap (λ l. h.before ++ l) (sym e) ∙ h.parts)) h.takes

    pub allowed-next : {all left rest : List A} {x : A} {a b : W} → left ≡ x ∷ rest → NameAllowed (allows a) (each all f) → HasTaken allows state step f all left a b → NameAllowed (allows b) (f x)
    unfolding each
    allowed-next {all} {left} {rest} {x} {a} {b} e n h =
        let parts : each h.before f ++ each (x ∷ rest) f ≡ each all f = sym (each-append h.before (x ∷ rest) f) ∙ ap (λ l. each l f) (ap (λ l. h.before ++ l) (sym e) ∙ h.parts) in
        allowed-still (f x) h.takes (allowed-left (allows a) (f x) (each rest f) (allowed-right (allows a) (each h.before f) (each (x ∷ rest) f) (allowed-same (allows a) parts n)))
