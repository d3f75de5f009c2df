use Rattle.std.proofs.Common.{◌≡◌, ℕ, suc, ◌<◌, length, take, get_or, refl, sym, ap, ◌∙◌, subst, arith, add-one, Some, get_or-set_other}
use Rattle.cell_words.proofs.Names.{view_in, CountSeat, IsGathered}
use Rattle.cell_words.specs.Countdown.{joined}
use Rattle.cell_words.proofs.PartLemmas.{joins}
use Rattle.cell_words.proofs.SeatLemmas.{token_after, live}
use Rattle.cell_words.proofs.GatherLemmas.{portion_of, gather_more, taken_more}
use Rattle.cell_words.proofs.countdown.Countdown.gather.Goals as goal

pub join_seat-requires : goal.join_seat-requires
join_seat-requires c =
    let b = c.args.self.now in let i = c.loop-k.invariant in let k : ℕ = c.loop-k.k in let x : CountSeat = c.index-seats-k.result in let y = c.in-Some-take.other in
    let low : k < length c.args.seats.now = omega (arith, i.taken.len, c.loop-k-test.true) in
    let is : (get_or c.args.seats.now k x).place ≡ Some y = ap (λ s. s.place) (sym (i.left k x (omega arith))) ∙ sym c.take-in-loop-k.ensures.value ∙ c.in-Some-take.is in
    let h = portion_of b (get_or c.args.seats.now k x) y is (c.requires.seats.each k x low) (c.requires.seats.free k x low) in
    (i.token.table, h.token.table, h.token.slots, omega (arith, b.sized), joins c.loop-k.place.id c.loop-k.place.me.0 y.id y.me.0 (live b y h.token) (live b c.loop-k.place i.token))

pub loop-k-preserved : goal.loop-k-preserved
loop-k-preserved c =
    let b = c.args.self.now in let i = c.loop-k.invariant in let k : ℕ = c.loop-k.k in let x : CountSeat = c.index-seats-k.result in let y = c.in-Some-take.other in
    let low : k < length c.args.seats.now = omega (arith, i.taken.len, c.loop-k-test.true) in
    let is : (get_or c.args.seats.now k x).place ≡ Some y = ap (λ s. s.place) (sym (i.left k x (omega arith))) ∙ sym c.take-in-loop-k.ensures.value ∙ c.in-Some-take.is in
    let h = portion_of b (get_or c.args.seats.now k x) y is (c.requires.seats.each k x low) (c.requires.seats.free k x low) in
    let e = c.join_seat.ensures in
    rw (add-one k) record {
      token = token_after b c.loop-k.place c.join_seat.new.seat (joined c.loop-k.place.me.0 y.me.0) i.token e.0 e.2 refl refl;
      gathered = subst (IsGathered b.base.plan (take (suc k) c.args.seats.now)) (sym (ap (λ m. m.0) e.2))
          (gather_more b.base.plan c.args.seats.now k c.loop-k.place.me.0 y.me.0 x h.portion low i.gathered h.alone h.ready (ap (λ o. (view_in o).seen) (sym is)));
      taken = taken_more c.args.seats.now c.loop-k.seats k x c.take-in-loop-k.new.self i.taken;
      left = λ j d l. get_or-set_other c.loop-k.seats k j _ d (λ z. omega (arith, z, l)) ∙ i.left j d (omega (arith, l));
    }
