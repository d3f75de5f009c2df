use Rattle.std.proofs.Common.{◌≡◌, [], ◌∷◌, ◌++◌, get_or, refl, sym, ap, ◌∙◌, subst, arith, Some, None, length-set, get_or-set_same, ℕ}
use Rattle.cell_words.proofs.Names.{has, IsWhole, Known, act_in, tail_of, view_in, view_of, CountSeat, IsDone, View}
use Rattle.cell_words.proofs.StepLemmas.{has_append, has_push}
use Rattle.cell_words.proofs.SeatLemmas.{plan_of}
use Rattle.cell_words.proofs.GatherLemmas.{placed}
use Rattle.cell_words.proofs.BookLemmas.{has_none, has_some}
use Rattle.cell_words.proofs.AloneLemmas.{first_rests, first_stays, first_view_is, gathered_whole, gathered_known, gathered_act, match_again, refilled_is, all_again, each_after, first_done}
use Rattle.cell_words.proofs.countdown.Countdown.fill_alone.Goals as goal

pub fill_first-requires : goal.fill_first-requires
fill_first-requires c =
    let b = c.args.self.now in let old = c.args.seats.now in let e = c.gather-place.ensures in let place = c.gather-place.result in let now = c.gather-place.new.seats in
    let x : CountSeat = c.index-seats-0.result in let y : CountSeat = c.index-seats-0-2.result in let some = c.requires.seats.seats.some in
    let view = first_view_is now x y place (omega (arith, e.taken.len, some)) in record {
      seat = first_rests b old place e.token e.gathered now x y e.taken some;
      whole = subst IsWhole (sym view) (gathered_whole b old place e.token e.gathered c.requires.seats);
      rank = c.requires.rank;
      knows = λ q h. subst (λ (v : View). Known v q) (sym view) (gathered_known b old place e.token e.gathered c.requires.seats.seats 0 x some q (c.requires.knows x q h));
    }

pub deal-requires-clause-ready : goal.deal-requires-clause-ready
deal-requires-clause-ready c =
    let b = c.args.self.now in let p = b.base.plan in let old = c.args.seats.now in let e = c.gather-place.ensures in let place = c.gather-place.result in let v = place.me.0 in let now = c.gather-place.new.seats in
    let x : CountSeat = c.index-seats-0.result in let y : CountSeat = c.index-seats-0-2.result in let z : CountSeat = c.index-seats-0-3.result in let t = c.fill_first.new.seat in let f = c.fill_first.ensures in
    let some = c.requires.seats.seats.some in
    let m = refilled_is old now x t (Some place) z c.take.new.self e.taken some in
    let before : view_of (get_or (placed now 0 x (Some place)) 0 y) ≡ v = first_view_is now x y place (omega (arith, e.taken.len, some)) in
    let is : t.place ≡ Some c.in-Some.place = ap (λ s. s.place) (sym (get_or-set_same (placed now 0 x (Some place)) 0 t z (omega (arith, e.taken.len, some, length-set {A = CountSeat})))) ∙ sym c.take.ensures.value ∙ c.in-Some.is in
    let view : view_of t ≡ c.in-Some.place.me.0 = ap view_in is in
    let number : (d : CountSeat) → t.number ≡ (get_or old 0 d).number = (λ d. f.number ∙ first_stays (λ s. s.number) old now x y d (Some place) some e.taken.len (λ s. refl) (e.taken.number 0 y some)) in
    let free : t.held ≡ None = f.held (first_stays (λ s. s.held) old now x y y (Some place) some e.taken.len (λ s. refl) (e.taken.held 0 y some) ∙ c.requires.seats.seats.free 0 y some) in
    let done = subst (λ (u : View). IsDone p t.number t.done.items u.portions) view f.seat.done in
    let tail : tail_of c.in-Some.place.me.0.portions ≡ tail_of v.portions = ap (λ (u : View). tail_of u.portions) (sym view) ∙ f.others ∙ ap (λ (u : View). tail_of u.portions) before in
    (match_again p v.portions c.in-Some.place.me.0.portions old _ t some (e.gathered.many, e.gathered.ready) done f.seat.room free tail m.len m.number m.held m.done m.others).1

pub returns : goal.returns
returns c =
    let b = c.args.self.now in let old = c.args.seats.now in let e = c.gather-place.ensures in let place = c.gather-place.result in let v = place.me.0 in let now = c.gather-place.new.seats in
    let x : CountSeat = c.index-seats-0.result in let y : CountSeat = c.index-seats-0-2.result in let z : CountSeat = c.index-seats-0-3.result in let t = c.fill_first.new.seat in let f = c.fill_first.ensures in
    let seats = c.requires.seats.seats in let some = seats.some in let new = c.deal.new.seats in let dealt = c.deal.ensures.dealt in let r : ℕ = c.args.rank in
    let m = refilled_is old now x t (Some place) z c.take.new.self e.taken some in
    let before : view_of (get_or (placed now 0 x (Some place)) 0 y) ≡ v = first_view_is now x y place (omega (arith, e.taken.len, some)) in
    let is : t.place ≡ Some c.in-Some.place = ap (λ s. s.place) (sym (get_or-set_same (placed now 0 x (Some place)) 0 t z (omega (arith, e.taken.len, some, length-set {A = CountSeat})))) ∙ sym c.take.ensures.value ∙ c.in-Some.is in
    let view : view_of t ≡ c.in-Some.place.me.0 = ap view_in is in
    let number : (d : CountSeat) → t.number ≡ (get_or old 0 d).number = (λ d. f.number ∙ first_stays (λ s. s.number) old now x y d (Some place) some e.taken.len (λ s. refl) (e.taken.number 0 y some)) in
    let seen : c.in-Some.place.me.0.seen ≡ v.seen ++ r ∷ [] = ap (λ (u : View). u.seen) (sym view) ∙ f.seen ∙ ap (λ (u : View). u.seen ++ r ∷ []) before in
    let done = first_done b old _ new t seats m c.in-Some.place.me.0 dealt c.deal.ensures.len in
    let told = gathered_act b old place e.token e.gathered r in
    let was = λ (d : CountSeat). first_stays (λ s. s.done) old now x y d (Some place) some e.taken.len (λ s. refl) (e.taken.done 0 y some) in record {
      seats = all_again b old _ new t seats m c.in-Some.place.me.0 dealt c.deal.ensures.len number c.requires.seats.all;
      len = c.deal.ensures.len ∙ m.len;
      after = λ j d l. each_after b old _ new t seats m c.in-Some.place.me.0 dealt c.deal.ensures.len r number (ap (λ (u : View). u.plan) (sym view) ∙ plan_of b t.place f.seat.token)
          (ap (has r) seen ∙ has_push r v.seen) j d l (λ i h. ap (has i) seen ∙ has_append i v.seen (r ∷ []) (e.gathered.seen j d l i h));
      fills = λ d none. ap (λ l. l.items) (done d) ∙ f.fills (ap (λ (u : View). act_in u r) before ∙ has_none (act_in v r) (sym told ∙ none)) ∙ ap (λ l. l.items ++ r ∷ []) (was d);
      stays = λ d there. let act = has_some (act_in v r) (sym told ∙ there) in ap (λ l. l.items) (done d) ∙ f.stays act.0 (ap (λ (u : View). act_in u r) before ∙ act.1) ∙ ap (λ l. l.items) (was d);
      others = λ j d l h. (dealt j d (omega (arith, m.len, h))).done ∙ (m.others j d l h).2;
    }
