-- The first seat of a session's boards, whose receipts begin with the carried ranks.
use Rattle.cell_words.specs.Closings.{AreOf, receipt_at}
use Rattle.cell_words.specs.Resuming.{AreBegun, AreNew, carried_in}
use Rattle.cell_words.specs.declared.view.Standing.{Standing}
use Rattle.fill_crew.specs.Crews.{BeginsWith, HasWorked, AreSwept}
use Rattle.fill_crew.proofs.CrewLemmas.{begins_more, snoc-both}
use Rattle.cell_words.proofs.ResumeLemmas.{nothing_carried}
use Rattle.ask_seats.proofs.Names.{◌≡◌, ℕ, ◌<◌, ◌≤◌, List, [], ◌∷◌, ◌++◌, length, length-append, get_or, Option, arith, refl, sym, ap, ap₂, ◌∙◌, subst, append-nil, Planning, key_at, Outcome, carried_of, standing_of, Closed, Countdown, CountSeat, euler_of, cells, IsPartial, Leads, LeavesFirst, KeepsCarried, IsPart, Paused, Line, Grow}
use Rattle.ask_seats.specs.Carrying.{CarriesSettled, plan_behind, anew, resumed}
use Rattle.ask_seats.proofs.SessionLemmas.{bound-last, finished-last}

-- the seats of a board that was resumed, and of a new one
pub leads-begun : (b : Countdown) (carried : List ℕ) (n : ℕ) (ss : List CountSeat) → 0 < n → carried_of b ≡ carried → AreBegun b carried n ss → Leads (carried_of b) ss
leads-begun b carried n ss some is h = record { number = λ d. (h 0 d some).number; front = λ d. ([], (h 0 d some).done ∙ sym is ∙ sym (append-nil b.base.carried.items)) }

pub leads-new : (b : Countdown) (n : ℕ) (ss : List CountSeat) → 0 < n → carried_of b ≡ [] → AreNew b n ss → Leads (carried_of b) ss
leads-new b n ss some is h = record { number = λ d. (h 0 d some).number; front = λ d. ([], (h 0 d some).done ∙ sym is ∙ sym (append-nil b.base.carried.items)) }

-- a seat has its number, and has kept the front of its receipts
abbrev pub Grew : CountSeat → CountSeat → Type 0
Grew s t = (t.number ≡ s.number) × BeginsWith s.done.items t.done.items

leads-on : (ranks : List ℕ) (old new : List CountSeat) → ((d : CountSeat) → Grew (get_or old 0 d) (get_or new 0 d)) → Leads ranks old → Leads ranks new
leads-on ranks old new g h = record {
  number = λ d. (g d).0 ∙ h.number d;
  front = λ d. begins_more ranks (get_or old 0 d).done.items (get_or new 0 d).done.items (g d).1.0 (h.front d) (g d).1.1;
}

pub leads-swept : (b : Countdown) (n : ℕ) (ranks : List ℕ) (old new : List CountSeat) → 0 < length old → AreSwept b n old new → Leads ranks old → Leads ranks new
leads-swept b n ranks old new some h = leads-on ranks old new (λ d. (h.number 0 d some, h.first d))

-- seats of which the last is another that did the same
leads-joined : (ranks : List ℕ) (crew back : List CountSeat) (seat mine : CountSeat) → length back ≡ length crew → ((k : ℕ) (d : CountSeat) → k < length crew → Grew (get_or crew k d) (get_or back k d))
    → mine.number ≡ seat.number → mine.done.items ≡ seat.done.items → Leads ranks (crew ++ seat ∷ []) → Leads ranks (back ++ mine ∷ [])
leads-joined ranks crew back seat mine len grew number done =
    leads-on ranks (crew ++ seat ∷ []) (back ++ mine ∷ []) (λ d. snoc-both Grew crew back seat mine len grew (number, ([], done ∙ sym (append-nil seat.done.items))) 0 d (omega (arith, length-append crew (seat ∷ []))))

grew-worked : (b : Countdown) (s t : CountSeat) → HasWorked b s t → Grew s t
grew-worked b s t h = (h.back.number, (h.more, h.done))

-- a crew that has worked, and the seat that asked
pub leads-asked : (b : Countdown) (ranks : List ℕ) (made crew back : List CountSeat) (seat asked told mine : CountSeat) → made ≡ crew ++ seat ∷ [] → asked ≡ seat → length back ≡ length crew
    → ((k : ℕ) (d : CountSeat) → k < length crew → HasWorked b (get_or crew k d) (get_or back k d)) → standing_of told ≡ standing_of asked → mine ≡ told → Leads ranks made → Leads ranks (back ++ mine ∷ [])
leads-asked b ranks made crew back seat asked told mine made_is asked_is len worked same told_is h =
    let stood : standing_of mine ≡ standing_of seat = ap standing_of told_is ∙ same ∙ ap standing_of asked_is in
    leads-joined ranks crew back seat mine len (λ k d l. grew-worked b (get_or crew k d) (get_or back k d) (worked k d l)) (ap (λ (x : Standing). x.number) stood) (ap (λ (x : Standing). x.done) stood) (subst (Leads ranks) made_is h)

-- the seats behind a sweep, of which the last asked
pub leads-again : (ranks : List ℕ) (made rest : List CountSeat) (own mine : CountSeat) → made ≡ rest ++ own ∷ [] → standing_of mine ≡ standing_of own → Leads ranks made → Leads ranks (rest ++ mine ∷ [])
leads-again ranks made rest own mine is same h =
    leads-joined ranks rest rest own mine refl (λ k d l. (refl, ([], sym (append-nil (get_or rest k d).done.items)))) (ap (λ (x : Standing). x.number) same) (ap (λ (x : Standing). x.done) same) (subst (Leads ranks) is h)

-- what the first seat has stands at the place of number 0
pub leaves-first : (ranks : List ℕ) (ss rest : List CountSeat) (own : CountSeat) (receipts : List (List ℕ)) → ss ≡ rest ++ own ∷ [] → AreOf ss receipts → Leads ranks (rest ++ own ∷ []) → BeginsWith ranks (receipt_at receipts 0)
leaves-first ranks ss rest own receipts is of h =
    let k = subst (Leads ranks) (sym is) h in let some : 0 < length ss = omega (arith, ap length is, length-append rest (own ∷ [])) in
    ((k.front own).0, ap (receipt_at receipts) (sym (k.number own)) ∙ of 0 own some ∙ (k.front own).1)

-- ---- behind some lines

plan-last : (q p : Planning) (crew : ℕ) (f : Option ℕ) (t : List (Option Outcome)) (lines : List Line) (old new : Option (List ℕ)) → Paused q p crew f t lines old new → p ≡ plan_behind q lines
plan-last q p crew f t lines old new h = ap₂ (λ e X. record { tensors = e; bound = X }) h.tensors (bound-last q p crew f t lines old new h)

-- the table of a board that was closed behind some lines has all that they settled
settled-last : (q p : Planning) (crew : ℕ) (f : Option ℕ) (t : List (Option Outcome)) (lines : List Line) (old new : Option (List ℕ)) → Paused q p crew f t lines old new → CarriesSettled q lines t
settled-last q p crew f t lines old new h X r e low w =
    let same = plan-last q p crew f t lines old new h in
    h.wrote.stands.settled X r (h.wrote.finish ∙ finished-last q p crew f t lines old new h ∙ e) (subst (λ z. r < cells z) (sym same) low) (subst (λ z. euler_of (key_at z r) ≤ X) (sym same) w)

-- with no `grow` a board began with nothing
pub keeps-none : (q : Planning) (lines : List Line) (ranks : List ℕ) (c : Closed) → IsPart lines → ranks ≡ [] → LeavesFirst ranks c → KeepsCarried q lines c
keeps-none q lines ranks c part none h = record { carried = []; begun = anew part refl; first = subst (λ rs. LeavesFirst rs c) (none ∙ sym nothing_carried) h }

-- behind a `grow` with what was filled
pub keeps-grown : (q p : Planning) (crew : ℕ) (f : Option ℕ) (t : List (Option Outcome)) (lines part : List Line) (Y : ℕ) (old new : Option (List ℕ)) (ranks : List ℕ) (c : Closed) → Paused q p crew f t lines old new → IsPartial p t
    → IsPart part → ranks ≡ carried_in t → LeavesFirst ranks c → KeepsCarried q (lines ++ (Grow Y ∷ part)) c
keeps-grown q p crew f t lines part Y old new ranks c h partial is_part is first = record {
  carried = t;
  begun = resumed lines Y part refl is_part (subst (λ z. IsPartial z t) (plan-last q p crew f t lines old new h) partial) (settled-last q p crew f t lines old new h);
  first = subst (λ rs. LeavesFirst rs c) is first;
}
