-- The receipts of a board: each filled rank stands in one of them, once.
use Rattle.amp_plan.proofs.RowLemmas.{has-append}
use Rattle.std.proofs.Common.{◌≡◌, ℕ, zero, suc, ◌<◌, List, [], ◌∷◌, ◌++◌, length, get_or, Bool, true, false, nat_eq, eqb-true, true≢false, ⊎_elim, Option, Some, None, refl, sym, ap, ◌∙◌, subst, arith, cond, is_some}
use Rattle.cell_words.proofs.Names.{or_cases, or_parts, or_left, or_right, has, needs_at, Planning, AreDistinct, Outcome, cells, outcome_at, CanResume, receipts_of, numbers_in, CountSeat}
use Rattle.cell_words.specs.Closings.{HasJust, AreReceipts}

-- the two parts of a list in which nothing stands twice
parts : (xs ys : List ℕ) → AreDistinct (xs ++ ys) → AreDistinct xs × AreDistinct ys × ((r : ℕ) → has r xs ≡ true → has r ys ≡ true → ⊥)
unfolding AreDistinct has
parts [] ys d = (tt, d, λ r h k. true≢false (sym h))
parts (x ∷ xs) ys d =
    let t = parts xs ys d.1 in
    let no = or_parts (has x xs) (has x ys) (sym (has-append x xs ys) ∙ d.0) in (
      (no.0, t.0),
      t.1,
      λ r h k. ⊎_elim (λ (e : nat_eq r x ≡ true). true≢false (sym k ∙ ap (λ i. has i ys) (eqb-true r x e) ∙ no.1)) (λ e. t.2 r e k) (or_cases (nat_eq r x) (has r xs) h),
    )

part_has : (ss : List CountSeat) (j : ℕ) (d : CountSeat) (r : ℕ) → j < length ss → has r (get_or ss j d).done.items ≡ true → has r (receipts_of ss) ≡ true
part_has [] j d r l h = absurd (omega arith)
part_has (s ∷ ss) zero d r l h = has-append r s.done.items (receipts_of ss) ∙ or_left (has r s.done.items) (has r (receipts_of ss)) h
part_has (s ∷ ss) (suc j) d r l h = has-append r s.done.items (receipts_of ss) ∙ or_right (has r s.done.items) (has r (receipts_of ss)) (part_has ss j d r (omega arith) h)

part_once : (ss : List CountSeat) (j : ℕ) (d : CountSeat) → j < length ss → AreDistinct (receipts_of ss) → AreDistinct (get_or ss j d).done.items
part_once [] j d l h = absurd (omega arith)
part_once (s ∷ ss) zero d l h = (parts s.done.items (receipts_of ss) h).0
part_once (s ∷ ss) (suc j) d l h = part_once ss j d (omega arith) (parts s.done.items (receipts_of ss) h).1

parts_apart : (ss : List CountSeat) (i j : ℕ) (d : CountSeat) (r : ℕ) → i < length ss → j < length ss → AreDistinct (receipts_of ss) → has r (get_or ss i d).done.items ≡ true → has r (get_or ss j d).done.items ≡ true → i ≡ j
parts_apart [] i j d r l m h x y = absurd (omega arith)
parts_apart (s ∷ ss) zero zero d r l m h x y = refl
parts_apart (s ∷ ss) zero (suc j) d r l m h x y = absurd ((parts s.done.items (receipts_of ss) h).2 r x (part_has ss j d r (omega arith) y))
parts_apart (s ∷ ss) (suc i) zero d r l m h x y = absurd ((parts s.done.items (receipts_of ss) h).2 r y (part_has ss i d r (omega arith) x))
parts_apart (s ∷ ss) (suc i) (suc j) d r l m h x y = ap suc (parts_apart ss i j d r (omega arith) (omega arith) (parts s.done.items (receipts_of ss) h).1 x y)

part_there : (ss : List CountSeat) (r : ℕ) → has r (receipts_of ss) ≡ true → (j : ℕ) × (j < length ss) × ((d : CountSeat) → has r (get_or ss j d).done.items ≡ true)
unfolding has
part_there [] r h = absurd (true≢false (sym h))
part_there (s ∷ ss) r h =
    ⊎_elim (λ (e : has r s.done.items ≡ true). (0, omega arith, λ d. e)) (λ e. let t = part_there ss r e in (suc t.0, let l = t.1 in omega arith, t.2))
    (or_cases (has r s.done.items) (has r (receipts_of ss)) (sym (has-append r s.done.items (receipts_of ss)) ∙ h))

number_there : (ss : List CountSeat) (k : ℕ) → has k (numbers_in ss) ≡ true → (j : ℕ) × (j < length ss) × ((d : CountSeat) → (get_or ss j d).number ≡ k)
unfolding has
number_there [] k h = absurd (true≢false (sym h))
number_there (s ∷ ss) k h =
    ⊎_elim (λ (e : nat_eq k s.number ≡ true). (0, omega arith, λ d. sym (eqb-true k s.number e))) (λ e. let t = number_there ss k e in (suc t.0, let l = t.1 in omega arith, t.2))
    (or_cases (nat_eq k s.number) (has k (numbers_in ss)) h)

pub cell_some : (b : Bool) (o : Outcome) → is_some (cond b (Some o) None) ≡ b
cell_some true o = refl
cell_some false o = refl

some_low : (t : List (Option Outcome)) (r : ℕ) → is_some (get_or t r None) ≡ true → r < length t
some_low [] r e = absurd (true≢false (sym e))
some_low (x ∷ t) zero e = omega arith
some_low (x ∷ t) (suc r) e = let l = some_low t r e in omega arith

-- a table with the outcomes of these ranks alone, which has with a rank its needs
pub can_resume : (p : Planning) (ranks : List ℕ) (t : List (Option Outcome)) → length t ≡ cells p → HasJust p ranks t → ((r : ℕ) → has r ranks ≡ true → r < cells p)
    → ((r q : ℕ) → has r ranks ≡ true → has q (needs_at p r) ≡ true → has q ranks ≡ true) → CanResume p t
can_resume p ranks t len just low needs = record {
  long = omega (arith, len);
  right = λ r o e. right r o (has r ranks) (sym e ∙ just r (inside r (ap is_some e)));
  needs = λ r q e need. let there = needs r q (sym (here r (inside r e)) ∙ e) need in here q (low q there) ∙ there;
}
  where
    inside : (r : ℕ) → is_some (get_or t r None) ≡ true → r < cells p
    inside r e = let l = some_low t r e in omega (arith, l, len)

    here : (r : ℕ) → r < cells p → is_some (get_or t r None) ≡ has r ranks
    here r l = ap is_some (just r l) ∙ cell_some (has r ranks) (outcome_at p r)

    right : (r : ℕ) (o : Outcome) (b : Bool) → Some o ≡ cond b (Some (outcome_at p r)) None → o ≡ outcome_at p r
    right r o true e = cc
    right r o false e = absurd (cc)

pub first_of : (ss : List CountSeat) → 0 < length ss → CountSeat
first_of [] l = absurd (omega arith)
first_of (s ∷ ss) l = s

-- receipts by number, of all seats
module _ (ss : List CountSeat) (rs : List (List ℕ)) (t : List (Option Outcome)) (f : ℕ → Outcome) (d : CountSeat)
    (all : (k : ℕ) → k < length rs → has k (numbers_in ss) ≡ true)
    (low : (j : ℕ) → j < length ss → (get_or ss j d).number < length rs)
    (placed : (j : ℕ) → j < length ss → get_or rs (get_or ss j d).number [] ≡ (get_or ss j d).done.items)
    (distinct : AreDistinct (receipts_of ss))
    (inside : (r : ℕ) → has r (receipts_of ss) ≡ true → r < length t)
    (table : (r : ℕ) → r < length t → get_or t r None ≡ cond (has r (receipts_of ss)) (Some (f r)) None) where
  -- the seat with this number
  record Is (k : ℕ) : Type 0 where
    j : ℕ
    low' : j < length ss
    number : (get_or ss j d).number ≡ k
    receipt : get_or rs k [] ≡ (get_or ss j d).done.items

  is : (k : ℕ) → k < length rs → Is k
  is k l = let n = number_there ss k (all k l) in record { j = n.0; low' = n.1; number = n.2 d; receipt = ap (λ i. get_or rs i []) (sym (n.2 d)) ∙ placed n.0 n.1 }

  here : (r : ℕ) → r < length t → is_some (get_or t r None) ≡ has r (receipts_of ss)
  here r l = ap is_some (table r l) ∙ cell_some (has r (receipts_of ss)) (f r)

  pub are_receipts : AreReceipts t rs
  are_receipts = record {
    once = λ k l. let s = is k l in subst AreDistinct (sym s.receipt) (part_once ss s.j d s.low' distinct);
    apart = λ j k r l m x y. let s = is j l in let u = is k m in
        sym s.number ∙ ap (λ i. (get_or ss i d).number) (parts_apart ss s.j u.j d r s.low' u.low' distinct (ap (has r) (sym s.receipt) ∙ x) (ap (has r) (sym u.receipt) ∙ y)) ∙ u.number;
    filled = λ r l h. let p = part_there ss r (sym (here r l) ∙ h) in ((get_or ss p.0 d).number, low p.0 p.1, ap (has r) (placed p.0 p.1) ∙ p.2 d);
    only = λ k r l h. let s = is k l in
        let there = part_has ss s.j d r s.low' (ap (has r) (sym s.receipt) ∙ h) in
        (inside r there, here r (inside r there) ∙ there);
  }
