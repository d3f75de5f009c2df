use Rattle.airy_io.proofs.Prefixes.{on_err}
use Rattle.ask_seats.proofs.Names.{◌≡◌, ℕ, ◌<◌, ◌≤◌, ◌+◌, Bool, List, [], ◌∷◌, ◌++◌, take, drop, length, get_or, Option, arith, refl, sym, ap, ◌∙◌, subst, rules, take-append-drop, take_all, drop_more, take_more, Appends, AppendsPrefix, ListsPlanned, Planning, tensors_of, AreAsks, Stands, Wrote, Broke, Line}
use Rattle.ask_seats.proofs.TalkLemmas.{asks-at, asks-behind, key_asked, starts, goes-on, breaks-off}
use Rattle.ask_seats.proofs.replies.answer_all.Goals as goal

-- the lines before, this one, and those behind it
parted : (lines : List Line) (i : ℕ) (line : Line) → i < length lines → line ≡ get_or lines i line → take i lines ++ (line ∷ drop (i + 1) lines) ≡ lines
parted lines i line h is = ap (λ x. take i lines ++ (x ∷ drop (i + 1) lines)) is ∙ ap (λ l. take i lines ++ l) (sym (drop_more lines i line h)) ∙ take-append-drop i lines

one-more : (lines : List Line) (i : ℕ) (line : Line) → i < length lines → line ≡ get_or lines i line → take i lines ++ (line ∷ []) ≡ take (i + 1) lines
one-more lines i line h is = ap (λ x. take i lines ++ (x ∷ [])) is ∙ sym (take_more lines i line h)

listed : (p q : Planning) → q ≡ p → ListsPlanned (tensors_of q) q.bound → ListsPlanned (tensors_of p) p.bound
listed p q e l = subst (λ (s : Planning). ListsPlanned (tensors_of s) s.bound) e l

pub loop-line-init : goal.loop-line-init
loop-line-init g c =
    (refl, c.requires.seat, λ r k. k, refl, λ stage h f. starts _ c.args.pace.workers c.args.pace.finished (listed _ c.plan.result.now c.plan.ensures c.planned_fact.ensures) _ stage _ (search rules) h f, refl)

pub answer_line-requires-clause-asks : goal.answer_line-requires-clause-asks
answer_line-requires-clause-asks g c =
    subst (λ x. AreAsks (x ∷ [])) (sym c.line-item.is) (asks-at c.args.lines.now c.loop-line.line-index c.line-item.result (omega (arith, c.loop-line-test.true)) c.requires.asks)

pub returns-in_err-answer_line-clause-cut : goal.returns-in_err-answer_line-clause-cut
returns-in_err-answer_line-clause-cut g c =
    let line = c.line-item.result in let lines = c.args.lines.now in let i : ℕ = c.loop-line.line-index in let low : i < length lines = omega (arith, c.loop-line-test.true) in
    let k = key_asked line (subst (λ x. AreAsks (x ∷ [])) (sym c.line-item.is) (asks-at lines i line low c.requires.asks)) in
    let s = c.in_err-answer_line.ensures.said k.0 k.1 in
    on_err c.from_residual.result (λ stage h f.
    subst (λ ls. Broke (g.B.Cells.plan_of c.args.asker.now.board.now) c.args.pace.workers stage ls (g.W.Sink.state c.args.out.now).taken (g.W.Sink.state c.answer_line.new.out).taken) (parted lines i line low c.line-item.is)
    (breaks-off _ c.args.pace.workers c.args.pace.finished (listed _ c.plan.result.now c.plan.ensures c.planned_fact.ensures) (g.B.Cells.Knows c.loop-line.asker.seat) (g.B.Cells.Knows c.answer_line.new.asker.seat) stage (take i lines) line (drop (i + 1) lines) _ (g.W.Sink.state c.loop-line.out).taken _
    c.in_err-answer_line.ensures.keeps (asks-behind lines (i + 1) c.requires.asks) (c.loop-line.invariant.4 stage h f) (record { key = k.0; asks = k.1; validity_fact = c.in_err-answer_line.ensures.key k.0 k.1; reply = s.reply; hears = subst (λ b. Rattle.ask_seats.specs.Talks.Hears (g.B.Cells.plan_of b.now) c.args.pace.workers c.args.pace.finished k.0 (g.B.Cells.Knows c.loop-line.asker.seat) (g.B.Cells.Knows c.answer_line.new.asker.seat) s.reply) c.loop-line.invariant.0 s.hears; written = s.cut })))

pub loop-line-preserved : goal.loop-line-preserved
loop-line-preserved g c =
    let line = c.line-item.result in let lines = c.args.lines.now in let i : ℕ = c.loop-line.line-index in let low : i < length lines = omega (arith, c.loop-line-test.true) in
    let k = key_asked line (subst (λ x. AreAsks (x ∷ [])) (sym c.line-item.is) (asks-at lines i line low c.requires.asks)) in
    let s = c.in_ok-answer_line.ensures.said k.0 k.1 in (
      c.in_ok-answer_line.ensures.board ∙ c.loop-line.invariant.0,
      c.in_ok-answer_line.ensures.seat,
      λ r known. c.in_ok-answer_line.ensures.keeps r (c.loop-line.invariant.2 r known),
      c.in_ok-answer_line.ensures.cause.kept ∙ c.loop-line.invariant.3,
      λ stage h f.
          subst (λ ls. Wrote (g.B.Cells.plan_of c.args.asker.now.board.now) c.args.pace.workers c.args.pace.finished (g.B.Cells.Knows c.answer_line.new.asker.seat) stage ls (g.W.Sink.state c.args.out.now).taken (g.W.Sink.state c.answer_line.new.out).taken) (one-more lines i line low c.line-item.is)
          (goes-on _ c.args.pace.workers c.args.pace.finished (listed _ c.plan.result.now c.plan.ensures c.planned_fact.ensures) (g.B.Cells.Knows c.loop-line.asker.seat) (g.B.Cells.Knows c.answer_line.new.asker.seat) stage (take i lines) line _ (g.W.Sink.state c.loop-line.out).taken _
          c.in_ok-answer_line.ensures.keeps (c.loop-line.invariant.4 stage h f) (record { key = k.0; asks = k.1; validity_fact = c.in_ok-answer_line.ensures.key k.0 k.1; reply = s.reply; hears = subst (λ b. Rattle.ask_seats.specs.Talks.Hears (g.B.Cells.plan_of b.now) c.args.pace.workers c.args.pace.finished k.0 (g.B.Cells.Knows c.loop-line.asker.seat) (g.B.Cells.Knows c.answer_line.new.asker.seat) s.reply) c.loop-line.invariant.0 s.hears; written = s.written })),
      c.in_ok-answer_line.ensures.standing ∙ c.loop-line.invariant.5,
    )

pub returns-clause-written : goal.returns-clause-written
returns-clause-written g c = λ stage h f.
    subst (λ ls. Wrote (g.B.Cells.plan_of c.args.asker.now.board.now) c.args.pace.workers c.args.pace.finished (g.B.Cells.Knows c.loop-line.asker.seat) stage ls (g.W.Sink.state c.args.out.now).taken (g.W.Sink.state c.loop-line.out).taken)
    (take_all c.loop-line.line-index c.args.lines.now (omega (arith, c.loop-line-test.false))) (c.loop-line.invariant.4 stage h f)
