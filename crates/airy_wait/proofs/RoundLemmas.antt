-- A worker's seat after a claim or a look.
use Rattle.std.proofs.Common.{◌≡◌, ℕ, suc, ◌+◌, ◌<◌, ◌≤◌, List, ◌∷◌, ◌++◌, ◌⊎◌, inl, inr, refl, [], Option, None, sym, ap, ◌∙◌, arith, append-nil, append_assoc}
use Rattle.run_reports.proofs.Names.{Planning, IsSeatOf, view_of, done_of, standing_of, HasWorked}
use Rattle.cell_words.specs.Claims.{Claims}
use Rattle.cell_words.specs.declared.view.Standing.{Standing}
use Rattle.cell_words.specs.declared.view.View.{View}
use Rattle.cell_words.specs.declared.claim.Claim.{Claim}
use Rattle.cell_words.specs.declared.claim.Claim.TheVariants.{Mine, Needs, Taken, Done}
use Rattle.cell_words.specs.declared.countdown.Countdown.{Countdown}
use Rattle.cell_words.specs.declared.countdown.CountSeat.{CountSeat}
use Rattle.ask_seats.specs.Counts.{Knows}
use Rattle.airy_wait.specs.Waits.{FillsInOrder, RisesIn}
use Rattle.fill_crew.proofs.CrewLemmas.{worked_more, holds_none}

-- a step that leaves the seat's number, what it holds and its receipts
pub worked_looked : (b : Countdown) (s t u : CountSeat) → HasWorked b s t → IsSeatOf b u → standing_of u ≡ standing_of t → ((r : ℕ) → Knows t r → Knows u r) → HasWorked b s u
worked_looked b s t u h seat same keeps =
    worked_more b s t u [] h (seat, ap (λ (x : Standing). x.held) same ∙ h.back.held) (ap (λ (x : Standing). x.number) same) (ap (λ (x : Standing). x.done) same ∙ sym (append-nil t.done.items)) keeps

-- a run behind a run
pub worked_again : (b : Countdown) (s t u : CountSeat) → HasWorked b s t → HasWorked b t u → HasWorked b s u
worked_again b s t u h k = worked_more b s t u k.more h (k.back.seat, k.back.held) k.back.number k.done k.keeps

-- a claim that wasn't granted
pub worked_claimed : (b : Countdown) (r : ℕ) (s t u : CountSeat) (x : Claim) → HasWorked b s t → IsSeatOf b u → u.number ≡ t.number → u.done.items ≡ t.done.items
    → Claims b.base.plan r (view_of t) (view_of u) u.held x → (x ≡ Mine → ⊥) → ((k : ℕ) → Knows t k → Knows u k) → HasWorked b s u
worked_claimed b r s t u x h seat number done claims other keeps =
    worked_more b s t u [] h (seat, holds_none b.base.plan r (view_of t) (view_of u) u.held x claims other) number (done ∙ sym (append-nil t.done.items)) keeps

-- ---- receipts in plan order

rises_snoc : (lo n m : ℕ) (xs : List ℕ) (x : ℕ) → RisesIn lo n xs → n ≤ x → x < m → lo ≤ x → RisesIn lo m (xs ++ x ∷ [])
unfolding RisesIn
rises_snoc lo n m [] x h after low from = (from, low, tt)
rises_snoc lo n m (y ∷ ys) x h after low from = (h.0, omega (arith, h.1, after, low), rises_snoc (suc y) n m ys x h.2 after low (omega (arith, h.1, after)))

rises_wider : (lo n m : ℕ) (xs : List ℕ) → RisesIn lo n xs → n ≤ m → RisesIn lo m xs
unfolding RisesIn
rises_wider lo n m [] h wide = tt
rises_wider lo n m (y ∷ ys) h wide = (h.0, omega (arith, h.1, wide), rises_wider (suc y) n m ys h.2 wide)

pub ordered_none : (s : CountSeat) → FillsInOrder 0 s s
unfolding RisesIn
ordered_none s = record { ranks = []; done = sym (append-nil s.done.items); order = tt }

-- the rank n was filled next, or not
pub ordered_more : (n : ℕ) (s t u : CountSeat) → FillsInOrder n s t → (done_of u ≡ done_of t) ⊎ (done_of u ≡ done_of t ++ n ∷ []) → FillsInOrder (n + 1) s u
ordered_more n s t u h (inl same) = record { ranks = h.ranks; done = same ∙ h.done; order = rises_wider 0 n (n + 1) h.ranks h.order (omega arith) }
ordered_more n s t u h (inr more) = record {
  ranks = h.ranks ++ n ∷ [];
  done = more ∙ ap (λ l. l ++ n ∷ []) h.done ∙ append_assoc s.done.items h.ranks (n ∷ []);
  order = rises_snoc 0 n (n + 1) h.ranks n h.order (omega arith) (omega arith) (omega arith);
}

pub ordered_wider : (n m : ℕ) (s t : CountSeat) → FillsInOrder n s t → n ≤ m → FillsInOrder m s t
ordered_wider n m s t h wide = record { ranks = h.ranks; done = h.done; order = rises_wider 0 n m h.ranks h.order wide }

-- a step that leaves the receipts
pub ordered_same : (n : ℕ) (s t u : CountSeat) → FillsInOrder n s t → done_of u ≡ done_of t → FillsInOrder n s u
ordered_same n s t u h same = record { ranks = h.ranks; done = same ∙ h.done; order = h.order }
