-- A cell that is filled with all seats in hand.
use Rattle.std.proofs.Common.{◌≡◌, ℕ, zero, suc, ◌<◌, ◌≤◌, List, [], ◌∷◌, ◌++◌, length, set, get_or, refl, sym, ap, ap₂, ◌∙◌, subst, arith, true, false, ◌||◌, cond, nat_eq, Option, Some, None, length-set, get_or-set_other, get_or-set_same, vec_capacity, is_some}
use Rattle.cell_words.proofs.Names.{map-append, Seat, Planning, has, needs_at, cells, acts_of, act_among, act_in, numbers_of, tail_of, IsWhole, Known, Holds, by_sight, by_holding, by_need, AreDone, ranks_of, IsDone, IsToken, IsResting, IsHolding, IsSeatOf, view_of, IsReady, IsDealt, AreTaken, IsGathered, AreSeats, AreAll, IsAfter, receipts_of, numbers_in, Act, Portion, Countdown, CountSeat, View, get_or_default}
use Rattle.cell_words.proofs.ActLemmas.{done_append, done_holds}
use Rattle.cell_words.proofs.SeatLemmas.{plan_of}
use Rattle.cell_words.proofs.GatherLemmas.{placed, same_standing}

-- Portions and the seats that can have them, one by one.
abbrev pub Match : Planning → List Portion → List CountSeat → Type 0
Match p ps ss = (length ps ≡ length ss) × ((j : ℕ) (q : Portion) (d : CountSeat) → j < length ss → IsReady p (get_or ps j q) (get_or ss j d))

rest_match : (p : Planning) (q : Portion) (ps : List Portion) (s : CountSeat) (ss : List CountSeat) → Match p (q ∷ ps) (s ∷ ss) → Match p ps ss
rest_match p q ps s ss h = (let e = h.0 in omega arith, λ j r d l. h.1 (suc j) r d (omega arith))

pub match_done : (p : Planning) (ps : List Portion) (ss : List CountSeat) → Match p ps ss → AreDone p (acts_of ps)
unfolding AreDone
match_done p [] ss h = tt
match_done p (q ∷ ps) [] h = absurd (let e = h.0 in omega arith)
match_done p (q ∷ ps) (s ∷ ss) h = done_append p 0 [] q.acts (acts_of ps) (h.1 0 q s (omega arith)).finished (match_done p ps ss (rest_match p q ps s ss h))

pub match_numbers : (p : Planning) (ps : List Portion) (ss : List CountSeat) → Match p ps ss → numbers_of ps ≡ numbers_in ss
match_numbers p [] [] h = refl
match_numbers p [] (s ∷ ss) h = absurd (let e = h.0 in omega arith)
match_numbers p (q ∷ ps) [] h = absurd (let e = h.0 in omega arith)
match_numbers p (q ∷ ps) (s ∷ ss) h = ap₂ (λ n l. n ∷ l) (h.1 0 q s (omega arith)).number (match_numbers p ps ss (rest_match p q ps s ss h))

pub match_receipts : (p : Planning) (ps : List Portion) (ss : List CountSeat) → Match p ps ss → ranks_of (acts_of ps) ≡ receipts_of ss
match_receipts p [] [] h = refl
match_receipts p [] (s ∷ ss) h = absurd (let e = h.0 in omega arith)
match_receipts p (q ∷ ps) [] h = absurd (let e = h.0 in omega arith)
match_receipts p (q ∷ ps) (s ∷ ss) h = map-append (λ (a : Act). a.rank) q.acts (acts_of ps) ∙ ap₂ (λ x y. x ++ y) (sym (h.1 0 q s (omega arith)).done) (match_receipts p ps ss (rest_match p q ps s ss h))

pub match_first : (p : Planning) (ps : List Portion) (ss : List CountSeat) (d : CountSeat) → 0 < length ss → Match p ps ss → IsDone p (get_or ss 0 d).number (get_or ss 0 d).done.items ps
match_first p [] ss d l h = absurd (let e = h.0 in omega arith)
match_first p (q ∷ ps) [] d l h = absurd (omega arith)
match_first p (q ∷ ps) (s ∷ ss) d l h =
    let r = h.1 0 q d (omega arith) in record {
      acts = q.acts;
      portions = λ i. record { number = r.number i; acts = q.acts } ∷ ps;
      finished = r.finished;
      others = match_done p ps ss (rest_match p q ps s ss h);
      ranks = r.done;
    }

-- a rank has an act where it stands among the ranks of the acts
pub among_has : (r : ℕ) (xs : List Act) → has r (ranks_of xs) ≡ is_some (act_among r xs)
unfolding has
among_has r [] = refl
among_has r (a ∷ xs) = elim (nat_eq r a.rank) as (λ b. b || has r (ranks_of xs) ≡ is_some (cond b (Some a) (act_among r xs))) [ true ↦ refl | false ↦ among_has r xs ]

-- what a seat that holds nothing knows, a seat knows that has seen as much
pub known_by_seen : (v w : View) → w.plan ≡ v.plan → ((r : ℕ) → has r v.seen ≡ true → has r w.seen ≡ true) → ((r : ℕ) → Holds v r → ⊥) → (k : ℕ) → Known v k → Known w k
known_by_seen v w plan seen none _ (by_sight k e) = by_sight k (seen k e)
known_by_seen v w plan seen none _ (by_holding q k holds e) = absurd (none q holds)
known_by_seen v w plan seen none _ (by_need q k knows e) = by_need q k (known_by_seen v w plan seen none q knows) (ap (λ (p : Planning). has k (needs_at p q)) plan ∙ e)

pub holds_nothing : (b : Countdown) (s : CountSeat) → IsSeatOf b s → s.held ≡ None → (r : ℕ) → Holds (view_of s) r → ⊥
holds_nothing b s h free = done_holds b.base.plan s.number s.done.items (view_of s) (subst (IsHolding b s) free h.0).done

pub seat_plan : (b : Countdown) (s : CountSeat) → IsSeatOf b s → s.held ≡ None → (view_of s).plan ≡ b.base.plan
seat_plan b s h free = plan_of b s.place (subst (IsHolding b s) free h.0).token

-- ---- the first seat is changed

-- the seats, with the first one as it is after the fill
abbrev pub refilled : List CountSeat → CountSeat → CountSeat → Option (Seat (Unit {0}) View) → CountSeat → Option (Seat (Unit {0}) View) → List CountSeat
refilled ss x t y z w = placed (set (placed ss 0 x y) 0 t) 0 z w

pub refilled_first : {A : Type 0} (f : CountSeat → A) (ss : List CountSeat) (x t : CountSeat) (y : Option (Seat (Unit {0}) View)) (z : CountSeat) (w : Option (Seat (Unit {0}) View)) (d : CountSeat) → 0 < length ss
    → ((s : CountSeat) → f (record { place = w; number = s.number; held = s.held; done = s.done }) ≡ f s) → f (get_or (refilled ss x t y z w) 0 d) ≡ f t
refilled_first f ss x t y z w d l same =
    same_standing f (set (placed ss 0 x y) 0 t) 0 0 z d w (omega (arith, l, length-set (placed ss 0 x y) 0 t, length-set ss 0 (record { place = y; number = (get_or ss 0 x).number; held = (get_or ss 0 x).held; done = (get_or ss 0 x).done }))) same
    ∙ ap f (get_or-set_same (placed ss 0 x y) 0 t d (omega (arith, l, length-set ss 0 (record { place = y; number = (get_or ss 0 x).number; held = (get_or ss 0 x).held; done = (get_or ss 0 x).done }))))

pub refilled_other : (ss : List CountSeat) (x t : CountSeat) (y : Option (Seat (Unit {0}) View)) (z : CountSeat) (w : Option (Seat (Unit {0}) View)) (j : ℕ) (d : CountSeat) → 0 < j → get_or (refilled ss x t y z w) j d ≡ get_or ss j d
refilled_other ss x t y z w j d l =
    get_or-set_other (set (placed ss 0 x y) 0 t) 0 j _ d (λ e. omega arith) ∙ get_or-set_other (placed ss 0 x y) 0 j t d (λ e. omega arith) ∙ get_or-set_other ss 0 j _ d (λ e. omega arith)

-- a portion can be another seat's with the same number and receipts
pub ready_same : (p : Planning) (q : Portion) (s t : CountSeat) → IsReady p q s → t.number ≡ s.number → t.held ≡ s.held → t.done ≡ s.done → IsReady p q t
ready_same p q s t h number held done = record {
  number = h.number ∙ sym number;
  finished = h.finished;
  done = ap (λ v. v.items) done ∙ h.done;
  room = subst (λ v. cells p ≤ vec_capacity v) (sym done) h.room;
  held = held ∙ h.held;
}

at_tail : (ps : List Portion) (j : ℕ) (q : Portion) → get_or ps (suc j) q ≡ get_or (tail_of ps) j q
at_tail [] zero q = refl
at_tail [] (suc j) q = refl
at_tail (r ∷ ps) j q = refl

-- after the fill each seat can have its portion again
pub match_again : (p : Planning) (ps qs : List Portion) (old new : List CountSeat) (t : CountSeat) → 0 < length old → Match p ps old → IsDone p t.number t.done.items qs → cells p ≤ vec_capacity t.done → t.held ≡ None → tail_of qs ≡ tail_of ps
    → length new ≡ length old
    → ((d : CountSeat) → (get_or new 0 d).number ≡ t.number) → ((d : CountSeat) → (get_or new 0 d).held ≡ t.held) → ((d : CountSeat) → (get_or new 0 d).done ≡ t.done)
    → ((j : ℕ) (d : CountSeat) → 0 < j → j < length old → ((get_or new j d).number ≡ (get_or old j d).number) × ((get_or new j d).held ≡ (get_or old j d).held) × ((get_or new j d).done ≡ (get_or old j d).done))
    → Match p qs new
match_again p ps qs old new t some h done room free tail len number held items others = (
  ap length done.portions ∙ (let a = ap length tail in let b = tail_length ps (omega (arith, h.0, some)) in omega (arith, a, b, h.0, len)),
  by,
)
  where
    tail_length : (rs : List Portion) → 0 < length rs → suc (length (tail_of rs)) ≡ length rs
    tail_length [] l = absurd (omega arith)
    tail_length (r ∷ rs) l = refl

    by : (j : ℕ) (q : Portion) (d : CountSeat) → j < length new → IsReady p (get_or qs j q) (get_or new j d)
    by zero q d l =
        let mine : IsReady p (record { number = t.number; acts = done.acts }) t = record { number = refl; finished = done.finished; done = done.ranks; room = room; held = free } in
        subst (λ (r : Portion). IsReady p r (get_or new 0 d)) (sym (ap (λ rs. get_or rs 0 q) done.portions)) (ready_same p _ t (get_or new 0 d) mine (number d) (held d) (items d))
    by (suc j) q d l =
        let o = others (suc j) d (omega arith) (omega (arith, l, len)) in
        subst (λ (r : Portion). IsReady p r (get_or new (suc j) d)) (at_tail ps j q ∙ ap (λ rs. get_or rs j q) (sym tail) ∙ sym (at_tail qs j q)) (ready_same p _ (get_or old (suc j) d) (get_or new (suc j) d) (h.1 (suc j) q d (omega (arith, l, len))) o.0 o.1 o.2)

-- the numbers stay
pub same_numbers : (old new : List CountSeat) → length new ≡ length old → ((j : ℕ) (x : CountSeat) → j < length old → (get_or new j x).number ≡ (get_or old j x).number) → numbers_in new ≡ numbers_in old
same_numbers [] [] len e = refl
same_numbers [] (t ∷ new) len e = absurd (omega arith)
same_numbers (s ∷ old) [] len e = absurd (omega arith)
same_numbers (s ∷ old) (t ∷ new) len e = ap₂ (λ n l. n ∷ l) (e 0 s (omega arith)) (same_numbers old new (omega arith) (λ j x l. e (suc j) x (omega arith)))

-- ---- before the fill

first_is : (now : List CountSeat) (x y : CountSeat) (place : Seat (Unit {0}) View) → 0 < length now → get_or (placed now 0 x (Some place)) 0 y ≡ record { place = Some place; number = (get_or now 0 x).number; held = (get_or now 0 x).held; done = (get_or now 0 x).done }
first_is now x y place l = get_or-set_same now 0 _ y l

pub first_view_is : (now : List CountSeat) (x y : CountSeat) (place : Seat (Unit {0}) View) → 0 < length now → view_of (get_or (placed now 0 x (Some place)) 0 y) ≡ place.me.0
first_view_is now x y place l = ap view_of (first_is now x y place l)

-- what stands in the first seat beside its token
pub first_stays : {A : Type 0} (f : CountSeat → A) (old now : List CountSeat) (x y d : CountSeat) (place : Option (Seat (Unit {0}) View)) → 0 < length old → length now ≡ length old
    → ((s : CountSeat) → f (record { place = place; number = s.number; held = s.held; done = s.done }) ≡ f s) → f (get_or now 0 y) ≡ f (get_or old 0 y) → f (get_or (placed now 0 x place) 0 y) ≡ f (get_or old 0 d)
first_stays f old now x y d place some len same is = same_standing f now 0 0 x y place (omega (arith, len, some)) same ∙ is ∙ ap f (get_or_default old 0 y d some)

module _ (b : Countdown) (old : List CountSeat) (place : Seat (Unit {0}) View) (token : IsToken b place) (g : IsGathered b.base.plan old place.me.0) where
  pub first_rests : (now : List CountSeat) (x y : CountSeat) → AreTaken old now → 0 < length old → IsResting b (get_or (placed now 0 x (Some place)) 0 y)
  first_rests now x y taken some =
      let e = match_first b.base.plan place.me.0.portions old x some (g.many, g.ready) in
      let q : Portion = record { number = 0; acts = [] } in
      let done = taken.done 0 x some in
      subst (IsResting b) (sym (first_is now x y place (omega (arith, taken.len, some)))) record {
        token = token;
        done = subst (λ (k : ℕ × List ℕ). IsDone b.base.plan k.0 k.1 place.me.0.portions) (λ i. (sym (taken.number 0 x some) i, (sym done i).items)) e;
        room = subst (λ v. cells b.base.plan ≤ vec_capacity v) (sym done) (g.ready 0 q x some).room;
      }

  pub gathered_whole : AreAll b old → IsWhole place.me.0
  gathered_whole all k l = ap (has k) (match_numbers b.base.plan place.me.0.portions old (g.many, g.ready)) ∙ all.all k (subst (λ n. k < n) token.seats l)

  -- what a seat knew, the gathered one knows
  pub gathered_known : AreSeats b old → (j : ℕ) (d : CountSeat) → j < length old → (k : ℕ) → Known (view_of (get_or old j d)) k → Known place.me.0 k
  gathered_known seats j d l k known =
      let s = get_or old j d in
      known_by_seen (view_of s) place.me.0 (token.plan ∙ sym (seat_plan b s (seats.each j d l) (seats.free j d l))) (g.seen j d l) (holds_nothing b s (seats.each j d l) (seats.free j d l)) k known

  -- whether a rank has an act is told by the receipts
  pub gathered_act : (r : ℕ) → has r (receipts_of old) ≡ is_some (act_in place.me.0 r)
  gathered_act r = ap (has r) (sym (match_receipts b.base.plan place.me.0.portions old (g.many, g.ready))) ∙ among_has r (acts_of place.me.0.portions)

-- ---- after the fill

-- The seats after the fill, without tokens: the first is t, and the others are as before.
pub record AreRefilled (old new : List CountSeat) (t : CountSeat) : Type 0 where
  pub len : length new ≡ length old
  pub number : (d : CountSeat) → (get_or new 0 d).number ≡ t.number
  pub held : (d : CountSeat) → (get_or new 0 d).held ≡ t.held
  pub done : (d : CountSeat) → (get_or new 0 d).done ≡ t.done
  pub others : (j : ℕ) (d : CountSeat) → 0 < j → j < length old → ((get_or new j d).number ≡ (get_or old j d).number) × ((get_or new j d).held ≡ (get_or old j d).held) × ((get_or new j d).done ≡ (get_or old j d).done)

pub refilled_is : (old now : List CountSeat) (x t : CountSeat) (y : Option (Seat (Unit {0}) View)) (z : CountSeat) (w : Option (Seat (Unit {0}) View)) → AreTaken old now → 0 < length old → AreRefilled old (refilled now x t y z w) t
refilled_is old now x t y z w taken some =
    let l : 0 < length now = omega (arith, taken.len, some) in record {
      len = length-set (set (placed now 0 x y) 0 t) 0 _ ∙ length-set (placed now 0 x y) 0 t ∙ length-set now 0 _ ∙ taken.len;
      number = λ d. refilled_first (λ s. s.number) now x t y z w d l (λ s. refl);
      held = λ d. refilled_first (λ s. s.held) now x t y z w d l (λ s. refl);
      done = λ d. refilled_first (λ s. s.done) now x t y z w d l (λ s. refl);
      others = λ j d m h. let e = refilled_other now x t y z w j d m in (ap (λ (s : CountSeat). s.number) e ∙ taken.number j d h, ap (λ (s : CountSeat). s.held) e ∙ taken.held j d h, ap (λ (s : CountSeat). s.done) e ∙ taken.done j d h);
    }

module _ (b : Countdown) (old mid new : List CountSeat) (t : CountSeat) (seats : AreSeats b old) (m : AreRefilled old mid t) (v : View) (dealt : (j : ℕ) (d : CountSeat) → j < length mid → IsDealt b v (get_or mid j d) (get_or new j d)) (len : length new ≡ length mid) where
  number_is : ((d : CountSeat) → t.number ≡ (get_or old 0 d).number) → (j : ℕ) (d : CountSeat) → j < length old → (get_or new j d).number ≡ (get_or old j d).number
  number_is same zero d l = (dealt 0 d (omega (arith, m.len, l))).number ∙ m.number d ∙ same d
  number_is same (suc j) d l = (dealt (suc j) d (omega (arith, m.len, l))).number ∙ (m.others (suc j) d (omega arith) l).0

  pub all_again : ((d : CountSeat) → t.number ≡ (get_or old 0 d).number) → ((k : ℕ) → k < b.base.seats → has k (numbers_in old) ≡ true) → AreAll b new
  all_again same all = record {
    seats = record {
      some = omega (arith, len, m.len, seats.some);
      each = λ j d l. (dealt j d (omega (arith, len, l))).seat;
      free = λ j d l. (dealt j d (omega (arith, len, l))).held;
    };
    all = λ k l. ap (has k) (same_numbers old new (omega (arith, len, m.len)) (number_is same)) ∙ all k l;
  }

  -- what the gathered seat knows, each knows
  pub each_after : (r : ℕ) → ((d : CountSeat) → t.number ≡ (get_or old 0 d).number) → v.plan ≡ b.base.plan → has r v.seen ≡ true → (j : ℕ) (d : CountSeat) → j < length old
      → ((i : ℕ) → has i (view_of (get_or old j d)).seen ≡ true → has i v.seen ≡ true) → IsAfter r (get_or old j d) (get_or new j d)
  each_after r same plan seen j d l more =
      let e = dealt j d (omega (arith, m.len, l)) in
      let s = get_or old j d in record {
        number = number_is same j d l;
        held = e.held;
        knows = by_sight r (ap (has r) e.seen ∙ seen);
        keeps = known_by_seen (view_of s) (view_of (get_or new j d)) (seat_plan b (get_or new j d) e.seat e.held ∙ sym (seat_plan b s (seats.each j d l) (seats.free j d l))) (λ i h. ap (has i) e.seen ∙ more i h) (holds_nothing b s (seats.each j d l) (seats.free j d l));
      }

  pub first_done : (d : CountSeat) → (get_or new 0 d).done ≡ t.done
  first_done d = (dealt 0 d (omega (arith, m.len, seats.some))).done ∙ m.done d
