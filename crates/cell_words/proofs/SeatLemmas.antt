-- A seat before and after a step.
use Rattle.std.proofs.Common.{◌≡◌, ℕ, ◌<◌, List, [], ◌∷◌, sym, ap, ap₂, ◌∙◌, subst, arith, ◌++◌, Option, Some, None, ◌≤◌, false, true, length, vec_capacity}
use Rattle.cell_words.proofs.Names.{Planning, has, needs_at, dependents_at, cells, Seat, Act, Portion, Countdown, CountSeat, acts_of, act_in, active, with_act, tail_of, claimed, Known, by_sight, by_holding, by_need, Holds, act_of, IsDone, IsAt, freed_by, view_in, view_of, IsToken, HasToken, IsAtAct, IsResting, IsHolding, IsSeatOf, View}
use Rattle.cell_words.proofs.StepLemmas.{has_append, has_push}
use Rattle.cell_words.specs.Acts.{freed_of}
use Rattle.cell_words.proofs.ActLemmas.{at_active, at_changed, at_fresh, at_done, done_holds}

pub token_in : (b : Countdown) (s : CountSeat) (x : Seat (Unit {0}) View) → s.place ≡ Some x → HasToken b s.place → IsToken b x
token_in b s x is h = subst (HasToken b) is h

pub live : (b : Countdown) (x : Seat (Unit {0}) View) → IsToken b x → 0 < x.me.0.seats
live b x q = subst (λ k. 0 < k) (sym q.seats) b.some_seat

pub token_after : (b : Countdown) (x y : Seat (Unit {0}) View) (w : View) → IsToken b x → y.table_id ≡ x.table_id → y.me ≡ (w, x.me.1) → w.plan ≡ x.me.0.plan → w.seats ≡ x.me.0.seats → IsToken b y
token_after b x y w q table me plan seats = record {
  table = table ∙ q.table;
  plan = ap (λ m. m.0.plan) me ∙ plan ∙ q.plan;
  seats = ap (λ m. m.0.seats) me ∙ seats ∙ q.seats;
  slots = ap (λ m. m.1) me ∙ q.slots;
}

-- The token of a seat that is at an act, with that act in its view.
pub record IsHere (b : Countdown) (s : CountSeat) (a : Act) (x : Seat (Unit {0}) View) : Type 0 where
  pub token : IsToken b x
  pub live : 0 < x.me.0.seats
  pub at : IsAt b.base.plan s.number s.done.items a x.me.0.portions
  pub now : active x.me.0 ≡ a.rank
  pub mine : act_in x.me.0 a.rank ≡ Some a

pub here : (b : Countdown) (s : CountSeat) (a : Act) (x : Seat (Unit {0}) View) → s.place ≡ Some x → IsAtAct b s a → IsHere b s a x
here b s a x is h =
    let q = token_in b s x is h.token in
    let at = subst (λ o. IsAt b.base.plan s.number s.done.items a (view_in o).portions) is h.at in
    let e = at_active b.base.plan s.number s.done.items a x.me.0.portions at in
    record { token = q; live = live b x q; at = at; now = e.0; mine = e.1 }

-- The same seat with another token.
abbrev pub with_token : CountSeat → Seat (Unit {0}) View → CountSeat
with_token s y = record { place = Some y; number = s.number; held = s.held; done = s.done }

-- its act becomes f of it
pub act_after : (b : Countdown) (s : CountSeat) (a : Act) (x y : Seat (Unit {0}) View) (f : Act → Act) (u : View) → s.place ≡ Some x → IsAtAct b s a
    → y.table_id ≡ x.table_id → y.me ≡ (with_act (active u) f u, x.me.1) → u.plan ≡ x.me.0.plan → u.seats ≡ x.me.0.seats → u.portions ≡ x.me.0.portions → (f a).rank ≡ a.rank
    → IsAtAct b (with_token s y) (f a) × (tail_of y.me.0.portions ≡ tail_of (view_of s).portions)
act_after b s a x y f u is h table me plan seats portions keep =
    let k = here b s a x is h in
    let at = subst (λ ps. IsAt b.base.plan s.number s.done.items a ps) (sym portions) k.at in
    let e = at_changed b.base.plan s.number s.done.items a u y.me.0 f at (ap (λ m. m.0) me) keep in (
      record { token = token_after b x y (with_act (active u) f u) k.token table me plan seats; low = subst (λ n. n < cells b.base.plan) (sym keep) h.low; at = e.0; room = h.room },
      e.1 ∙ ap tail_of portions ∙ ap (λ o. tail_of (view_in o).portions) (sym is),
    )

pub has_token : (b : Countdown) (s : CountSeat) (o : Option ℕ) → IsHolding b s o → HasToken b s.place
has_token b s None h = h.token
has_token b s (Some r) h = h.token

-- ---- claims

-- a seat that rests knows what it knew after its claim
pub known_claimed : (p : Planning) (number : ℕ) (done : List ℕ) (v : View) (r k : ℕ) → IsDone p number done v.portions → Known v k → Known (claimed r v) k
known_claimed p number done v r _ h (by_sight k e) = by_sight k e
known_claimed p number done v r _ h (by_holding q k holds e) = absurd (done_holds p number done v h q holds)
known_claimed p number done v r _ h (by_need q k knows e) = by_need q k (known_claimed p number done v r q h knows) e

-- The seat after a claim that went well.
pub claimed_seat : (b : Countdown) (s t : CountSeat) (r : ℕ) → r < cells b.base.plan → IsResting b s → HasToken b t.place → view_of t ≡ claimed r (view_of s) → act_in (view_of s) r ≡ None → length (acts_of (view_of s).portions) < cells b.base.plan
    → t.number ≡ s.number → t.done ≡ s.done → IsAtAct b t (act_of r 0 false 0 []) × (tail_of (view_of t).portions ≡ tail_of (view_of s).portions)
claimed_seat b s t r low h token view free few number done =
    let e = at_fresh b.base.plan s.number s.done.items r (view_of s) h.done free few in (
      record {
        token = token;
        low = low;
        at = subst (λ (k : ℕ × List ℕ × List Portion). IsAt b.base.plan k.0 k.1 (act_of r 0 false 0 []) k.2) (λ i. (sym number i, (sym done i).items, (sym view i).portions)) e.0;
        room = subst (λ v. cells b.base.plan ≤ vec_capacity v) (sym done) h.room;
      },
      ap (λ (v : View). tail_of v.portions) view ∙ e.1,
    )

pub plan_of : (b : Countdown) (o : Option (Seat (Unit {0}) View)) → HasToken b o → (view_in o).plan ≡ b.base.plan
plan_of b None h = absurd h
plan_of b (Some x) h = h.plan

-- a seat that is at an act which isn't filled knows the needs of its rank
pub needs_known : (b : Countdown) (s : CountSeat) (a : Act) → IsAtAct b s a → a.filled ≡ false → (q : ℕ) → has q (needs_at b.base.plan a.rank) ≡ true → Known (view_of s) q
needs_known b s a h unfilled q e =
    by_holding a.rank q (a, (at_active b.base.plan s.number s.done.items a (view_of s).portions h.at).1, unfilled) (subst (λ (p : Planning). has q (needs_at p a.rank) ≡ true) (sym (plan_of b s.place h.token)) e)

pub freed_is : (b : Countdown) (s : CountSeat) (a : Act) → IsAtAct b s a → freed_by (view_of s) a.rank ≡ a.freed
freed_is b s a h = ap freed_of (at_active b.base.plan s.number s.done.items a (view_of s).portions h.at).1

-- ---- fills

-- a rank that was seen is known for good, and so is what was known, where the seat held that rank alone
pub known_seen : (v w : View) (r : ℕ) → w.plan ≡ v.plan → w.seen ≡ v.seen ++ r ∷ [] → ((q : ℕ) → Holds v q → q ≡ r) → (k : ℕ) → Known v k → Known w k
known_seen v w r plan seen only _ (by_sight k e) = by_sight k (ap (has k) seen ∙ has_append k v.seen (r ∷ []) e)
known_seen v w r plan seen only _ (by_holding q k holds e) =
    by_need r k (by_sight r (ap (has r) seen ∙ has_push r v.seen)) (ap₂ (λ (p : Planning) j. has k (needs_at p j)) plan (sym (only q holds)) ∙ e)
known_seen v w r plan seen only _ (by_need q k knows e) = by_need q k (known_seen v w r plan seen only q knows) (ap (λ (p : Planning). has k (needs_at p q)) plan ∙ e)

-- The seat after its act was done and its rank became the last of its receipts.
pub done_seat : (b : Countdown) (s t : CountSeat) (a : Act) → IsAtAct b s a → a.filled ≡ true → a.signed ≡ length (dependents_at b.base.plan a.rank) → t.place ≡ s.place → t.number ≡ s.number → t.done.items ≡ s.done.items ++ a.rank ∷ []
    → vec_capacity s.done ≤ vec_capacity t.done → IsResting b t
done_seat b s t a h full signed place number done more =
    let e = at_done b.base.plan s.number s.done.items a (view_of s).portions h.at full signed in record {
      token = subst (HasToken b) (sym place) h.token;
      done = subst (λ (k : ℕ × List ℕ × List Portion). IsDone b.base.plan k.0 k.1 k.2) (λ i. (sym number i, sym done i, (view_in (sym place i)).portions)) e;
      room = omega (arith, h.room, more);
    }
