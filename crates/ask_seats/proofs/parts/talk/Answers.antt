use Rattle.airy_io.proofs.Prefixes.{on_err}
use Rattle.fill_crew.specs.Crews.{IsIdle}
use Rattle.fill_crew.proofs.CrewLemmas.{rest_idle, last_idle}
use Rattle.ask_seats.proofs.Names.{◌≡◌, ℕ, ◌<◌, ◌≤◌, ◌+◌, ◌-◌, [], ◌∷◌, ◌++◌, take, drop, length, Some, true, true≢false, false, arith, refl, sym, ap, ◌∙◌, subst, take-append-drop, take_all, length-drop, Planning, tensors_of, has, AreAll, carried_of, Leads, Knows, Stage, finish, AreAsks, Rises, ends_finished, AnyOf, Carried, Stands, Wrote, Broke, stage_after, Finish}
use Rattle.ask_seats.proofs.FrontLemmas.{leads-asked, leaves-first}
use Rattle.ask_seats.proofs.SeatLemmas.{joined_again, last_has, last_known, full_partial, full_carries}
use Rattle.ask_seats.proofs.SpeakLemmas.{stands-map}
use Rattle.ask_seats.proofs.SessionLemmas.{stands-finish, wrote-map, wrote-both, broke-behind, broke-before, part-rises, rest-asks, ends-asks, split-lines, ok_of, err_of}
use Rattle.ask_seats.proofs.parts.talk.Goals as goal

pub answer_beside-seats-requires-clause-crew : goal.answer_beside-seats-requires-clause-crew
answer_beside-seats-requires-clause-crew g c κs within = λ k d l.
    rest_idle c.args.board c.args.seats.items c.pop.new.self.items c.in-Some.seat c.requires.seats c.in-Some.ensures.items k d l

pub answer_beside-seats-requires-clause-seat : goal.answer_beside-seats-requires-clause-seat
answer_beside-seats-requires-clause-seat g c κs within =
    subst (IsIdle c.args.board) (sym c.of-asker.ensures.1) (last_idle c.args.board c.args.seats.items c.pop.new.self.items c.in-Some.seat c.requires.seats c.in-Some.ensures.items)

pub returns-in_err-answered-clause-cut : goal.returns-in_err-answered-clause-cut
returns-in_err-answered-clause-cut g c =
    let p = c.args.board.base.plan in let crew : ℕ = c.args.pace.workers in let at : ℕ = c.finish_at-at.result in let lines = c.args.lines.now in
    on_err c.from_residual.result (λ stage h f.
    let own = last_has (λ s. (r : ℕ) → has r (carried_of c.args.board) ≡ true → Knows s r) c.args.seats.items c.pop.new.self.items c.in-Some.seat c.in-Some.ensures.items c.requires.knows in
    let there = stands-map p crew (λ r. has r (carried_of c.args.board) ≡ true) (Knows c.of-asker.result.seat) stage (λ r low k. subst (λ s. Knows s r) (sym c.of-asker.ensures.1) (own r k)) h in
    subst (λ ls. Broke p crew stage ls (g.W.Sink.state c.args.out.now).taken (g.W.Sink.state c.answer_beside-seats.new.out).taken) (take-append-drop at lines)
    (broke-before p crew stage (take at lines) (drop at lines) _ _ h.good (subst (Rises stage.bound) (sym (take-append-drop at lines)) (part-rises stage.bound lines c.requires.part))
    (err_of _ _ c.in_err-answered.was c.answer_beside-seats.ensures.cut stage there f)))

pub close-requires : goal.close-requires
close-requires g c =
    let b = c.args.board in let e = c.answer_beside-seats.ensures in let crew = c.pop.new.self in let back = c.answer_beside-seats.result.0 in
    record {
      seats = subst (AreAll b) (sym c.in-Ok.ensures.items)
          (joined_again b crew.items back.items c.in-Some.seat c.of-asker.result.seat c.answer_beside-seats.new.asker.seat c.into_seat.result (subst (AreAll b) c.in-Some.ensures.items c.requires.seats) c.of-asker.ensures.1
          (omega (arith, e.len, back.ok.0, crew.ok.0)) (λ k d l. (e.back k d (omega (arith, l, crew.ok.0))).back) e.seat e.standing c.into_seat.ensures);
    }

pub returns-then-at-lines-clause-full : goal.returns-then-at-lines-clause-full
returns-then-at-lines-clause-full g c = λ h.
    let lines = c.args.lines.now in
    absurd (true≢false (sym h ∙ ends-asks false lines (subst AreAsks (take_all c.finish_at-at.result lines (omega (arith, c.if-at-lines.true))) c.finish_at-at.ensures.before)))

pub returns-then-at-lines-clause-written : goal.returns-then-at-lines-clause-written
returns-then-at-lines-clause-written g c = λ stage h f.
    let p = c.args.board.base.plan in let crew : ℕ = c.args.pace.workers in let at : ℕ = c.finish_at-at.result in let lines = c.args.lines.now in
    let own = last_has (λ s. (r : ℕ) → has r (carried_of c.args.board) ≡ true → Knows s r) c.args.seats.items c.pop.new.self.items c.in-Some.seat c.in-Some.ensures.items c.requires.knows in
    let there = stands-map p crew (λ r. has r (carried_of c.args.board) ≡ true) (Knows c.of-asker.result.seat) stage (λ r low k. subst (λ s. Knows s r) (sym c.of-asker.ensures.1) (own r k)) h in
    let w = ok_of _ _ c.in_ok-answered.was c.answer_beside-seats.ensures.written stage there f in
    subst (λ ls. Wrote p crew c.args.pace.finished (Carried c.close.result.table) stage ls (g.W.Sink.state c.args.out.now).taken (g.W.Sink.state c.answer_beside-seats.new.out).taken) (take_all at lines (omega (arith, c.if-at-lines.true)))
    (wrote-map p crew c.args.pace.finished (Knows c.answer_beside-seats.new.asker.seat) (Carried c.close.result.table) stage (take at lines) _ _
    (λ r low k. c.close.ensures.known r (last_known c.push.new.self.items c.answer_beside-seats.result.0.items c.into_seat.result r c.in-Ok.ensures.items (subst (λ s. Knows s r) (sym c.into_seat.ensures) k))) w)

pub returns-then-at-lines-clause-first : goal.returns-then-at-lines-clause-first
returns-then-at-lines-clause-first g c =
    let b = c.args.board in let e = c.answer_beside-seats.ensures in let crew = c.pop.new.self in let back = c.answer_beside-seats.result.0 in let ranks = b.base.carried.items in
    let leads = leads-asked b ranks c.args.seats.items crew.items back.items c.in-Some.seat c.of-asker.result.seat c.answer_beside-seats.new.asker.seat c.into_seat.result c.in-Some.ensures.items c.of-asker.ensures.1
    (omega (arith, e.len, back.ok.0, crew.ok.0)) (λ k d l. e.back k d (omega (arith, l, crew.ok.0))) e.standing c.into_seat.ensures c.requires.leads in
    leaves-first ranks c.push.new.self.items back.items c.into_seat.result _ c.in-Ok.ensures.items c.close.ensures.receipts leads

pub answer_behind-requires-clause-seats : goal.answer_behind-requires-clause-seats
answer_behind-requires-clause-seats g c =
    let b = c.args.board in let e = c.answer_beside-seats.ensures in let crew = c.pop.new.self in let back = c.answer_beside-seats.result.0 in
    subst (AreAll b) (sym c.in-Ok.ensures.items)
    (joined_again b crew.items back.items c.in-Some.seat c.of-asker.result.seat c.answer_beside-seats.new.asker.seat c.into_seat.result (subst (AreAll b) c.in-Some.ensures.items c.requires.seats) c.of-asker.ensures.1
    (omega (arith, e.len, back.ok.0, crew.ok.0)) (λ k d l. (e.back k d (omega (arith, l, crew.ok.0))).back) e.seat e.standing c.into_seat.ensures)

pub answer_behind-requires-clause-leads : goal.answer_behind-requires-clause-leads
answer_behind-requires-clause-leads g c =
    let b = c.args.board in let e = c.answer_beside-seats.ensures in let crew = c.pop.new.self in let back = c.answer_beside-seats.result.0 in let ranks = b.base.carried.items in
    let leads = leads-asked b ranks c.args.seats.items crew.items back.items c.in-Some.seat c.of-asker.result.seat c.answer_beside-seats.new.asker.seat c.into_seat.result c.in-Some.ensures.items c.of-asker.ensures.1
    (omega (arith, e.len, back.ok.0, crew.ok.0)) (λ k d l. e.back k d (omega (arith, l, crew.ok.0))) e.standing c.into_seat.ensures c.requires.leads in
    subst (Leads ranks) (sym c.in-Ok.ensures.items) leads

pub answer_behind-requires-clause-asks : goal.answer_behind-requires-clause-asks
answer_behind-requires-clause-asks g c =
    let at : ℕ = c.finish_at-at.result in let lines = c.args.lines.now in
    let low : at < length lines = omega (arith, c.if-at-lines.false, c.finish_at-at.ensures.within) in
    subst AreAsks (sym (take_all (length lines - (at + 1)) (drop (at + 1) lines) (omega (arith, length-drop (at + 1) lines))))
    (rest-asks lines at Finish low c.requires.part c.finish_at-at.ensures.before (c.finish_at-at.ensures.there low Finish))

pub returns-in_err-closed-clause-cut : goal.returns-in_err-closed-clause-cut
unfolding finish
returns-in_err-closed-clause-cut g c =
    let p = c.args.board.base.plan in let crew : ℕ = c.args.pace.workers in let at : ℕ = c.finish_at-at.result in let lines = c.args.lines.now in
    let low : at < length lines = omega (arith, c.if-at-lines.false, c.finish_at-at.ensures.within) in
    let whole = take_all (length lines - (at + 1)) (drop (at + 1) lines) (omega (arith, length-drop (at + 1) lines)) in
    on_err c.from_residual-in_err-closed.result (λ stage h f.
    let own = last_has (λ s. (r : ℕ) → has r (carried_of c.args.board) ≡ true → Knows s r) c.args.seats.items c.pop.new.self.items c.in-Some.seat c.in-Some.ensures.items c.requires.knows in
    let there = stands-map p crew (λ r. has r (carried_of c.args.board) ≡ true) (Knows c.of-asker.result.seat) stage (λ r low k. subst (λ s. Knows s r) (sym c.of-asker.ensures.1) (own r k)) h in
    let w = ok_of _ _ c.in_ok-answered.was c.answer_beside-seats.ensures.written stage there f in
    let st = stage_after (tensors_of p) stage (take at lines) w.replies in
    subst (λ ls. Broke p crew stage ls (g.W.Sink.state c.args.out.now).taken (g.W.Sink.state c.answer_behind.new.out).taken) (split-lines lines at Finish low (c.finish_at-at.ensures.there low Finish))
    (broke-behind p crew c.args.pace.finished c.args.pace.finished (Knows c.answer_beside-seats.new.asker.seat) (AnyOf p) stage (take at lines) (drop (at + 1) lines) _ (g.W.Sink.state c.answer_beside-seats.new.out).taken _ w
    (subst (λ ls. Broke p crew (finish st) ls (g.W.Sink.state c.answer_beside-seats.new.out).taken (g.W.Sink.state c.answer_behind.new.out).taken) whole
    (c.in_err-closed.ensures.cut (finish st) (stands-finish p crew (Knows c.answer_beside-seats.new.asker.seat) (AnyOf p) st (λ r l. l) w.stands)
    (ap Some (w.stands.bound ∙ ap (λ (q : Planning). q.bound) (sym c.plan.ensures) ∙ sym c.bound.ensures))))))

pub returns-clause-table : goal.returns-clause-table
returns-clause-table g c = full_partial c.args.board.base.plan _ c.in_ok-closed.ensures.table

pub returns-clause-written : goal.returns-clause-written
unfolding finish
returns-clause-written g c = λ stage h f.
    let p = c.args.board.base.plan in let crew : ℕ = c.args.pace.workers in let at : ℕ = c.finish_at-at.result in let lines = c.args.lines.now in
    let low : at < length lines = omega (arith, c.if-at-lines.false, c.finish_at-at.ensures.within) in
    let whole = take_all (length lines - (at + 1)) (drop (at + 1) lines) (omega (arith, length-drop (at + 1) lines)) in
    let own = last_has (λ s. (r : ℕ) → has r (carried_of c.args.board) ≡ true → Knows s r) c.args.seats.items c.pop.new.self.items c.in-Some.seat c.in-Some.ensures.items c.requires.knows in
    let there = stands-map p crew (λ r. has r (carried_of c.args.board) ≡ true) (Knows c.of-asker.result.seat) stage (λ r low k. subst (λ s. Knows s r) (sym c.of-asker.ensures.1) (own r k)) h in
    let w = ok_of _ _ c.in_ok-answered.was c.answer_beside-seats.ensures.written stage there f in
    let st = stage_after (tensors_of p) stage (take at lines) w.replies in
    let t = c.in_ok-closed.closed.table in
    let v = c.in_ok-closed.ensures.written (finish st) (stands-finish p crew (Knows c.answer_beside-seats.new.asker.seat) (AnyOf p) st (λ r l. l) w.stands)
    (ap Some (w.stands.bound ∙ ap (λ (q : Planning). q.bound) (sym c.plan.ensures) ∙ sym c.bound.ensures)) in
    subst (λ ls. Wrote p crew (Some c.bound.result) (Carried t) stage ls (g.W.Sink.state c.args.out.now).taken (g.W.Sink.state c.answer_behind.new.out).taken) (split-lines lines at Finish low (c.finish_at-at.ensures.there low Finish))
    (wrote-both p crew c.args.pace.finished (Some c.bound.result) (Knows c.answer_beside-seats.new.asker.seat) (Carried t) stage (take at lines) (drop (at + 1) lines) _ (g.W.Sink.state c.answer_beside-seats.new.out).taken _ w
    (subst (λ ls. Wrote p crew (Some c.bound.result) (Carried t) (finish st) ls (g.W.Sink.state c.answer_beside-seats.new.out).taken (g.W.Sink.state c.answer_behind.new.out).taken) whole
    (wrote-map p crew (Some c.bound.result) (AnyOf p) (Carried t) (finish st) _ _ _ (λ r l k. full_carries p t c.in_ok-closed.ensures.table r l) v)))
