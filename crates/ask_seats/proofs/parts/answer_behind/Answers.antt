use Rattle.cell_words.proofs.DealLemmas.{whole}
use Rattle.cell_words.specs.Deals.{receipts_of}
use Rattle.fill_crew.proofs.CrewLemmas.{full_is, last_idle, last_knows, last_again}
use Rattle.ask_seats.proofs.Names.{◌≡◌, ℕ, ◌<◌, ◌++◌, ◌∷◌, [], length, Some, None, cond, sym, ap, ◌∙◌, subst, has, AreAll, cells, outcome_at, Leads}
use Rattle.ask_seats.proofs.FrontLemmas.{leads-swept, leads-again, leaves-first}
use Rattle.ask_seats.proofs.SeatLemmas.{same_back, same_done}
use Rattle.ask_seats.proofs.parts.answer_behind.Goals as goal

pub answer_known-seat-requires-clause-knows : goal.answer_known-seat-requires-clause-knows
answer_known-seat-requires-clause-knows g c =
    let v = c.args.seats in let new = c.sweep.new.seats in let rest = c.pop.new.self.items in let own = c.in-Some.seat in
    let is : new ≡ rest ++ own ∷ [] = sym (whole v.len new v.items (c.sweep.ensures.len ∙ ap length c.as_mut_slice.ensures.value ∙ sym v.ok.0) (sym v.ok.0)) ∙ c.in-Some.ensures.items in
    last_knows c.args.board (cells c.args.board.base.plan) c.as_mut_slice.result.now new rest own c.sweep.ensures is

pub close-requires : goal.close-requires
close-requires g c =
    let b = c.args.board in let v = c.args.seats in let new = c.sweep.new.seats in let rest = c.pop.new.self.items in let own = c.in-Some.seat in let mine = c.answer_known-seat.result.0 in
    let is : new ≡ rest ++ own ∷ [] = sym (whole v.len new v.items (c.sweep.ensures.len ∙ ap length c.as_mut_slice.ensures.value ∙ sym v.ok.0) (sym v.ok.0)) ∙ c.in-Some.ensures.items in
    let e = c.answer_known-seat.ensures in
    record {
      seats = subst (AreAll b) (sym c.in-Ok.ensures.items)
          (last_again b (cells b.base.plan) c.as_mut_slice.result.now new rest own c.sweep.ensures is mine (same_back b own mine e.standing (last_idle b new rest own c.sweep.ensures.all is).1 e.seat) (same_done b own mine e.standing)).0;
    }

pub returns-clause-table : goal.returns-clause-table
returns-clause-table g c =
    let b = c.args.board in let v = c.args.seats in let new = c.sweep.new.seats in let rest = c.pop.new.self.items in let own = c.in-Some.seat in let mine = c.answer_known-seat.result.0 in let p = b.base.plan in
    let is : new ≡ rest ++ own ∷ [] = sym (whole v.len new v.items (c.sweep.ensures.len ∙ ap length c.as_mut_slice.ensures.value ∙ sym v.ok.0) (sym v.ok.0)) ∙ c.in-Some.ensures.items in
    let e = c.answer_known-seat.ensures in
    full_is p _ c.close.ensures.len (λ r l. c.close.ensures.table r l ∙ ap (λ ss. cond (has r (receipts_of ss)) (Some (outcome_at p r)) None) c.in-Ok.ensures.items
    ∙ ap (λ t. cond t (Some (outcome_at p r)) None)
    ((last_again b (cells p) c.as_mut_slice.result.now new rest own c.sweep.ensures is mine (same_back b own mine e.standing (last_idle b new rest own c.sweep.ensures.all is).1 e.seat) (same_done b own mine e.standing)).1 r l))

pub returns-clause-first : goal.returns-clause-first
returns-clause-first g c =
    let b = c.args.board in let v = c.args.seats in let old = c.as_mut_slice.result.now in let new = c.sweep.new.seats in let rest = c.pop.new.self.items in let own = c.in-Some.seat in let mine = c.answer_known-seat.result.0 in
    let is : new ≡ rest ++ own ∷ [] = sym (whole v.len new v.items (c.sweep.ensures.len ∙ ap length c.as_mut_slice.ensures.value ∙ sym v.ok.0) (sym v.ok.0)) ∙ c.in-Some.ensures.items in
    let ranks = b.base.carried.items in
    let swept = leads-swept b (cells b.base.plan) ranks old new (subst (λ ss. 0 < length ss) (sym c.as_mut_slice.ensures.value) c.requires.seats.seats.some) c.sweep.ensures (subst (Leads ranks) (sym c.as_mut_slice.ensures.value) c.requires.leads) in
    leaves-first ranks c.push.new.self.items rest mine _ c.in-Ok.ensures.items c.close.ensures.receipts (leads-again ranks new rest own mine is c.answer_known-seat.ensures.standing swept)
