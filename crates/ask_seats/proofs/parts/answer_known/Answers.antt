use Rattle.std.proofs.lemmas.Result.{on_ok_weaker, on_err_weaker}
use Rattle.ask_seats.proofs.Names.{◌≡◌, ℕ, ◌<◌, sym, subst, cells, Knows, AnyOf, Stands, Wrote, Broke}
use Rattle.ask_seats.proofs.SpeakLemmas.{stands-map}
use Rattle.ask_seats.proofs.SessionLemmas.{wrote-map}
use Rattle.ask_seats.proofs.parts.answer_known.Goals as goal

pub returns-clause-written : goal.returns-clause-written
returns-clause-written g c =
    let p = c.args.board.now.base.plan in let crew : ℕ = c.args.pace.workers in
    on_ok_weaker c.answer_all-answered.result (λ h stage e f.
    let stands = subst (λ s. Stands p crew (Knows s) stage) (sym c.of-asker.ensures.1) (stands-map p crew (AnyOf p) (Knows c.args.seat) stage (λ r low k. c.requires.knows r low) e) in
    let there = subst (λ a. Stands a.now.base.plan crew (Knows c.of-asker.result.seat) stage) (sym c.of-asker.ensures.0) stands in
    wrote-map p crew c.args.pace.finished (Knows c.answer_all-answered.new.asker.seat) (AnyOf p) stage c.args.lines.now _ _ (λ r low k. low)
    (subst (λ a. Wrote a.now.base.plan crew c.args.pace.finished (Knows c.answer_all-answered.new.asker.seat) stage c.args.lines.now (g.W.Sink.state c.args.out.now).taken (g.W.Sink.state c.answer_all-answered.new.out).taken) c.of-asker.ensures.0 (h stage there f)))
    c.answer_all-answered.ensures.written

pub returns-clause-cut : goal.returns-clause-cut
returns-clause-cut g c =
    let p = c.args.board.now.base.plan in let crew : ℕ = c.args.pace.workers in
    on_err_weaker c.answer_all-answered.result (λ h stage e f.
    let stands = subst (λ s. Stands p crew (Knows s) stage) (sym c.of-asker.ensures.1) (stands-map p crew (AnyOf p) (Knows c.args.seat) stage (λ r low k. c.requires.knows r low) e) in
    let there = subst (λ a. Stands a.now.base.plan crew (Knows c.of-asker.result.seat) stage) (sym c.of-asker.ensures.0) stands in
    subst (λ a. Broke a.now.base.plan crew stage c.args.lines.now (g.W.Sink.state c.args.out.now).taken (g.W.Sink.state c.answer_all-answered.new.out).taken) c.of-asker.ensures.0 (h stage there f))
    c.answer_all-answered.ensures.cut
