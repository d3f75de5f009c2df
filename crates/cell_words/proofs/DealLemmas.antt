-- The portions of one view, dealt to seats.
use Rattle.std.proofs.Common.{take, ◌++◌, append-nil, take_all, drop_of_length-le, ◌≡◌, ◌≢◌, ℕ, zero, suc, ◌<◌, ◌≤◌, List, [], ◌∷◌, length, drop, set, get_or, refl, sym, ap, ◌∙◌, subst, arith, None, get_or-set_other, get_or-set_same}
use Rattle.cell_words.proofs.Names.{Planning, get_or_default, dite, ℕ_discrete, Seat, acts_of, head_of, tail_of, AreDone, IsToken, IsResting, IsHolding, IsReady, IsDealt, Portion, Countdown, CountSeat, View}
use Rattle.cell_words.proofs.SeatLemmas.{with_token}

-- the first of what is left, and the rest
pub head_drop : (ps : List Portion) (k : ℕ) (q : Portion) → k < length ps → head_of (drop k ps) ≡ get_or ps k q ∷ []
head_drop [] k q l = absurd (omega arith)
head_drop (p ∷ ps) zero q l = refl
head_drop (p ∷ ps) (suc k) q l = head_drop ps k q (omega arith)

pub tail_drop : (ps : List Portion) (k : ℕ) → tail_of (drop k ps) ≡ drop (suc k) ps
tail_drop [] zero = refl
tail_drop [] (suc k) = refl
tail_drop (p ∷ ps) zero = refl
tail_drop (p ∷ ps) (suc k) = tail_drop ps k

pub one_left : (ps : List Portion) (k : ℕ) (q : Portion) → length ps ≡ suc k → drop k ps ≡ get_or ps k q ∷ []
one_left [] k q l = absurd (omega arith)
one_left (p ∷ []) zero q l = refl
one_left (p ∷ r ∷ ps) zero q l = absurd (omega arith)
one_left (p ∷ ps) (suc k) q l = one_left ps k q (omega arith)

-- a slice of a whole Vec is written back
pub whole : {X : Type 0} (n : ℕ) (xs ys : List X) → length xs ≡ n → length ys ≡ n → take n (xs ++ drop (length xs) ys) ≡ xs
whole n xs ys a b = ap (λ l. take n (xs ++ l)) (drop_of_length-le ys {i = length xs} (omega arith)) ∙ ap (take n) (append-nil xs) ∙ take_all n xs (omega arith)

pub nothing_done : (p : Planning) → AreDone p []
unfolding AreDone
nothing_done p = tt

-- a seat with its portion
dealt : (b : Countdown) (v : View) (q : Portion) (s : CountSeat) (y : Seat (Unit {0}) View) → IsReady b.base.plan q s → IsToken b y → y.me.0.portions ≡ q ∷ [] → y.me.0.seen ≡ v.seen
    → (v.looks ≡ 0 → y.me.0.looks ≡ 0) → (v.latest ≡ None → y.me.0.latest ≡ None) → IsDealt b v s (with_token s y)
dealt b v q s y ready token portions seen looks latest = record {
  seat = (subst (IsHolding b (with_token s y)) (sym ready.held) rests, ap tail_of portions);
  number = refl;
  held = ready.held;
  done = refl;
  seen = seen;
  looks = looks;
  latest = latest;
}
  where
    rests : IsResting b (with_token s y)
    rests = record {
      token = token;
      done = record {
        acts = q.acts;
        portions = portions ∙ (λ i. record { number = ready.number i; acts = q.acts } ∷ tail_of (sym portions i));
        finished = ready.finished;
        others = subst (λ ps. AreDone b.base.plan (acts_of (tail_of ps))) (sym portions) (nothing_done b.base.plan);
        ranks = ready.done;
      };
      room = ready.room;
    }

-- one seat more has its portion
pub deal_more : (b : Countdown) (v : View) (old now : List CountSeat) (k : ℕ) (x : CountSeat) (y : Seat (Unit {0}) View) (q : Portion)
    → length now ≡ length old → k < length old
    → ((j : ℕ) (d : CountSeat) → j < k → IsDealt b v (get_or old j d) (get_or now j d))
    → ((j : ℕ) (d : CountSeat) → k ≤ j → get_or now j d ≡ get_or old j d)
    → ((d : CountSeat) → IsReady b.base.plan q (get_or old k d)) → IsToken b y → y.me.0.portions ≡ q ∷ [] → y.me.0.seen ≡ v.seen
    → (v.looks ≡ 0 → y.me.0.looks ≡ 0) → (v.latest ≡ None → y.me.0.latest ≡ None)
    → (j : ℕ) (d : CountSeat) → j < suc k → IsDealt b v (get_or old j d) (get_or (set now k (with_token (get_or now k x) y)) j d)
deal_more b v old now k x y q len low so_far left ready token portions seen looks latest j d below = dite (ℕ_discrete j k)
    (λ (e : j ≡ k).
    let same : get_or now k x ≡ get_or old k d = left k x (omega arith) ∙ get_or_default old k x d low in
    let here : get_or (set now k (with_token (get_or now k x) y)) j d ≡ with_token (get_or old k d) y =
    ap (λ i. get_or (set now k (with_token (get_or now k x) y)) i d) e ∙ get_or-set_same now k (with_token (get_or now k x) y) d (omega (arith, len, low)) ∙ ap (λ s. with_token s y) same in
    subst (λ (z : CountSeat × CountSeat). IsDealt b v z.0 z.1) (λ i. (get_or old (sym e i) d, sym here i)) (dealt b v q (get_or old k d) y (ready d) token portions seen looks latest))
    (λ (n : j ≢ k). subst (IsDealt b v (get_or old j d)) (sym (get_or-set_other now k j (with_token (get_or now k x) y) d n)) (so_far j d (grind arith)))
