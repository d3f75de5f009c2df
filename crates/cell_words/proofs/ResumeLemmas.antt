-- Boards that begin with the outcomes of a table.
use Rattle.std.proofs.Common.{◌≡◌, ℕ, zero, suc, ◌+◌, ◌*◌, ◌<◌, ◌≤◌, List, [], ◌∷◌, length, map, take, get_or, refl, sym, ap, ◌∙◌, subst, arith, Bool, true, false, true≢false, not, ◌&&◌, cond, nat_eq, ne_eqb, Option, None, lt_of_not-le, is_some}
use Rattle.std.proofs.Math.ListN.{get_or-map}
use Rattle.std.proofs.lemmas.List.{get_or_past}
use Rattle.amp_plan.proofs.GraphLemmas.{keep-row, has-below}
use Rattle.cell_words.proofs.Names.{none-some, false_from_ne_true, length-map, dite, dec_le, keep, below, Planning, has, needs_at, Outcome, cells, code_of, count_of, AreCarried, IsOpening, carried_act, first_portions, AreDone, ranks_of, IsBlank, IsReady, IsDealt, AreAll, numbers_in, carries, carried_in, CanResume, AreResumed, Portion, Countdown, CountSeat, View, get_or_default, unless}
use Rattle.cell_words.specs.Countdown.{first_view}
use Rattle.cell_words.specs.Starts.{all_in}
use Rattle.cell_words.specs.Resuming.{IsResumed, IsNew}
use Rattle.cell_words.proofs.DealLemmas.{nothing_done}
use Rattle.cell_words.proofs.ReceiptLemmas.{first_of}
use Rattle.cell_words.proofs.OpeningLemmas.{count_in, length-empty, empty_at}
use Rattle.amp_plan.proofs.RowLemmas.{has-at}

pub count_more : (f : ℕ → Bool) (xs : List ℕ) (i : ℕ) → i < length xs → count_of f (take (suc i) xs) ≡ cond (f (get_or xs i 0)) (suc (count_of f (take i xs))) (count_of f (take i xs))
count_more f [] i l = absurd (omega arith)
count_more f (x ∷ xs) zero l = refl
count_more f (x ∷ xs) (suc i) l =
    let e = count_more f xs i (omega arith) in let m : ℕ = count_of f (take (suc i) xs) in let n : ℕ = count_of f (take i xs) in let b = f (get_or xs i 0) in
    elim (f x) as (λ a. cond a (suc m) m ≡ cond b (suc (cond a (suc n) n)) (cond a (suc n) n))
    [ true ↦ ap suc e ∙ (elim b as (λ b. suc (cond b (suc n) n) ≡ cond b (suc (suc n)) (suc n)) [ true ↦ refl | false ↦ refl ]) | false ↦ e ]

-- the carried ranks are those at which the table has an outcome
pub has_carried : (t : List (Option Outcome)) (r : ℕ) → has r (carried_in t) ≡ carries t r
unfolding carried_in
has_carried t r = dite (dec_le (length t) r)
    (λ (l : length t ≤ r). false_from_ne_true (has r (keep (carries t) (below (length t)))) (λ e. let h = (keep-row (carries t) (length t)).small r e in omega arith) ∙ sym (ap is_some (get_or_past t r None l)))
    (λ n. has-below (carries t) (length t) r (lt_of_not-le n))

pub are_carried : (p : Planning) (t : List (Option Outcome)) (words : List ℕ) → CanResume p t → AreResumed p t (cells p) words → AreCarried p (carried_in t)
unfolding carried_in
are_carried p t words can h = record {
  distinct = (keep-row (carries t) (length t)).distinct;
  low = λ r e. low r e;
  needs = λ r q e need. has_carried t q ∙ can.needs r q (sym (has_carried t r) ∙ e) need;
  sized = λ r e. h.sized r (low r e) (sym (has_carried t r) ∙ e);
}
  where
    low : (r : ℕ) → has r (keep (carries t) (below (length t))) ≡ true → r < cells p
    low r e = let s = (keep-row (carries t) (length t)).small r e in let l = can.long in omega arith

pub resumed_opening : (p : Planning) (t : List (Option Outcome)) (words : List ℕ) → 5 * cells p ≤ length words → AreResumed p t (cells p) words → IsOpening p (carried_in t) words
resumed_opening p t words long h = record {
  long = long;
  filled = λ r l e. h.filled r l (sym (has_carried t r) ∙ e);
  states = λ r l e. h.states r l (sym (has_carried t r) ∙ e) ∙ count_in _ _ (needs_at p r) (λ q n. ap not (sym (has_carried t q)));
  values = λ r k l m. h.values r k l m ∙ ap (λ c. cond c (code_of p r k) 0) (sym (has_carried t r));
}

-- no need is left where all are carried
pub all_counted : (t : List (Option Outcome)) (qs : List ℕ) → nat_eq (count_of (λ q. not (carries t q)) qs) 0 ≡ all_in (carried_in t) qs
all_counted t [] = refl
all_counted t (q ∷ qs) =
    let n : ℕ = count_of (λ i. not (carries t i)) qs in let all = all_in (carried_in t) qs in
    (elim (carries t q) as (λ c. has q (carried_in t) ≡ c → nat_eq (cond (not c) (suc n) n) 0 ≡ has q (carried_in t) && all)
    [ true ↦ λ e. all_counted t qs ∙ ap (λ b. b && all) (sym e) | false ↦ λ e. ne_eqb (suc n) 0 (λ z. omega (arith, z)) ∙ ap (λ b. b && all) (sym e) ]) (has_carried t q)

-- the acts of carried ranks are done
pub carried_done : (p : Planning) (rs : List ℕ) → AreDone p (map (carried_act p) rs)
unfolding AreDone
carried_done p [] = tt
carried_done p (r ∷ rs) = (refl, refl, carried_done p rs)

pub carried_ranks_are : (p : Planning) (rs : List ℕ) → ranks_of (map (carried_act p) rs) ≡ rs
carried_ranks_are p [] = refl
carried_ranks_are p (r ∷ rs) = ap (λ l. r ∷ l) (carried_ranks_are p rs)

-- ---- seats

pub first_length : (p : Planning) (n : ℕ) (carried : List ℕ) → length (first_portions p n carried) ≡ n
first_length p zero carried = refl
first_length p (suc n) carried = ap suc (length-empty 1 n)

-- a blank seat can have its portion of the first view
pub first_ready : (p : Planning) (n : ℕ) (carried : List ℕ) (j : ℕ) (q : Portion) (s : CountSeat) → j < n → IsBlank (cells p) carried j s → IsReady p (get_or (first_portions p n carried) j q) s
first_ready p zero carried j q s l h = absurd (omega arith)
first_ready p (suc n) carried zero q s l h = record { number = sym h.number; finished = carried_done p carried; done = h.done ∙ sym (carried_ranks_are p carried); room = h.room; held = h.held }
first_ready p (suc n) carried (suc j) q s l h =
    let at = empty_at 1 n j q (omega arith) in
    let number : 1 + j ≡ s.number = omega (arith, h.number) in
    subst (λ (z : Portion). IsReady p z s) (sym at) record { number = number; finished = nothing_done p; done = h.done ∙ unless (nat_eq (suc j) 0) carried [] (ne_eqb (suc j) 0 (λ e. omega arith)); room = h.room; held = h.held }

-- and then it is a seat of the board
pub dealt_resumed : {b : Countdown} {v : View} (p : Planning) (n : ℕ) (carried : List ℕ) (k : ℕ) (d s : CountSeat) (new back : List CountSeat) → v ≡ first_view p n carried → back ≡ new → IsBlank (cells p) carried k s → IsDealt b v s (get_or new k d) → IsResumed b carried k (get_or back k d)
dealt_resumed {b} {v} p n carried k d s new back view same h from = subst (λ xs. IsResumed b carried k (get_or xs k d)) (sym same) record {
  seat = from.seat;
  number = from.number ∙ h.number;
  held = from.held;
  done = ap (λ l. l.items) from.done ∙ h.done;
  seen = from.seen ∙ ap (λ (u : View). u.seen) view;
  looks = from.looks (ap (λ (u : View). u.looks) view);
  latest = from.latest (ap (λ (u : View). u.latest) view);
}

-- ---- nothing carried

pub nothing_carried : carried_in [] ≡ []
unfolding carried_in keep below Rattle.airy_math.specs.Sums.count_from
nothing_carried = refl

pub nothing_to_resume : (p : Planning) → CanResume p []
nothing_to_resume p = record { long = omega arith; right = λ r o e. absurd (none-some o e); needs = λ r q e n. absurd (true≢false (sym e)) }

pub resumed_new : (b : Countdown) (carried : List ℕ) (k : ℕ) (t : CountSeat) → carried ≡ [] → IsResumed b carried k t → IsNew b k t
resumed_new b carried k t none h = record {
  seat = h.seat;
  number = h.number;
  held = h.held;
  done = h.done ∙ ap (λ l. cond (nat_eq k 0) l []) none ∙ (elim (nat_eq k 0) as (λ c. cond {A = List ℕ} c [] [] ≡ []) [ true ↦ refl | false ↦ refl ]);
  seen = h.seen ∙ none;
  looks = h.looks;
  latest = h.latest;
}

-- ---- all seats

number_there : (ss : List CountSeat) (j : ℕ) (d : CountSeat) → j < length ss → (get_or ss j d).number ≡ j → has j (numbers_in ss) ≡ true
number_there ss j d l e =
    let low : j < length (numbers_in ss) = omega (arith, l, length-map ss (λ s. s.number)) in
    subst (λ i. has i (numbers_in ss) ≡ true) (get_or_default (numbers_in ss) j 0 d.number low ∙ get_or-map (λ s. s.number) ss j d ∙ e) (has-at (numbers_in ss) j low)

-- the seats that a board begins with are all its seats
pub all_resumed : (b : Countdown) (carried : List ℕ) (ss : List CountSeat) → b.base.seats ≡ length ss → ((k : ℕ) (d : CountSeat) → k < length ss → IsResumed b carried k (get_or ss k d)) → AreAll b ss
all_resumed b carried ss many each = record {
  seats = record {
    some = some;
    each = λ j d l. (each j d l).seat;
    free = λ j d l. (each j d l).held;
  };
  all = λ k l. let low : k < length ss = omega (arith, l, many) in let own = first_of ss some in number_there ss k own low (each k own low).number;
}
  where
    some : 0 < length ss
    some = omega (arith, many, b.some_seat)
