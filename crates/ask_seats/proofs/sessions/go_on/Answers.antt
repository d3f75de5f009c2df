use Rattle.cell_words.proofs.ResumeLemmas.{has_carried}
use Rattle.ask_seats.proofs.Names.{◌≡◌, ◌⊎◌, inl, inr, ℕ, ◌<◌, ◌≤◌, ◌+◌, ◌-◌, [], ◌∷◌, ◌++◌, List, Option, true, false, take, drop, length, get_or, arith, sym, ap, ◌∙◌, subst, take-append-drop, take_all, length-drop, get_or-drop, drop_more, Rose, limit, has, Planning, tensors_of, full_table, IsPartial, CanResume, carried_of, bound_after, CutShort, FinishesOnce, ends_finished, session_of, Carried, FallsSilent, GoesOn, IsPart, Paused, Speaks, growth_reply, up_to, Line, Grow, KeepsCarried}
use Rattle.ask_seats.proofs.FrontLemmas.{keeps-grown}
use Rattle.ask_seats.proofs.ReplyLemmas.{grows-up}
use Rattle.ask_seats.proofs.SessionLemmas.{goes-above, goes-once, goes-next, next-lines, all-lines, ends-grow, stops-at, paused-next, cut-next, spoken-last, bound-last}
use Rattle.ask_seats.proofs.sessions.go_on.Goals as goal

-- a slice from a place on, and the part at its front
rest-slice : (lines : List Line) (k : ℕ) → take (length lines - k) (drop k lines) ≡ drop k lines
rest-slice lines k = take_all (length lines - k) (drop k lines) (omega (arith, length-drop k lines))

part-slice : (lines : List Line) (k n : ℕ) → take (k + n - k) (drop k lines) ≡ take n (drop k lines)
part-slice lines k n = let e : k + n - k ≡ n = omega arith in ap (λ j. take j (drop k lines)) e

pub unreachable-requires : goal.unreachable-requires
unreachable-requires g c = let t = c.loop-at.invariant.1.there c.loop-at-test.true c.index-lines-at.result in c.in_default.not-Grow t.0 (c.index-lines-at.is ∙ t.1)

pub reopen-requires-clause-above : goal.reopen-requires-clause-above
reopen-requires-clause-above g c =
    (goes-above c.loop-at.rest.closed.plan.bound c.args.lines.now c.loop-at.at c.index-lines-at.result c.in-Grow.bound c.loop-at.invariant.1 c.loop-at-test.true (sym c.index-lines-at.is ∙ c.in-Grow.is)).0

pub reopen-requires-clause-most : goal.reopen-requires-clause-most
reopen-requires-clause-most g c =
    (goes-above c.loop-at.rest.closed.plan.bound c.args.lines.now c.loop-at.at c.index-lines-at.result c.in-Grow.bound c.loop-at.invariant.1 c.loop-at-test.true (sym c.index-lines-at.is ∙ c.in-Grow.is)).1

pub returns-in_default-reopen-clause-fails : goal.returns-in_default-reopen-clause-fails
returns-in_default-reopen-clause-fails g c = λ q old up h e.
    let lines = c.args.lines.now in let at : ℕ = c.loop-at.at in let r = c.loop-at.rest in let i = c.loop-at.invariant in let Y : ℕ = c.in-Grow.bound in
    let is = sym c.index-lines-at.is ∙ c.in-Grow.is in
    inr (stops-at q r.closed.plan c.args.crew r.finished r.closed.table (take at lines) Y (drop (at + 1) lines) lines old (g.W.Sink.state c.loop-at.out) c.replies_to.result (i.3 q old.taken h)
    (sym (take-append-drop at lines) ∙ ap (λ l. take at lines ++ l) (drop_more lines at c.index-lines-at.result c.loop-at-test.true ∙ ap (λ x. x ∷ drop (at + 1) lines) is)) (i.2 ∙ e) c.replies_to.ensures)

pub part_end-requires : goal.part_end-requires
part_end-requires g c =
    let lines = c.args.lines.now in let at : ℕ = c.loop-at.at in
    record {
      once = subst (FinishesOnce false) (sym (rest-slice lines (at + 1)))
          (goes-once c.loop-at.rest.closed.plan.bound lines at c.index-lines-at.result c.in-Grow.bound c.loop-at.invariant.1 c.loop-at-test.true (sym c.index-lines-at.is ∙ c.in-Grow.is));
    }

pub returns-in_default-speak-clause-fails : goal.returns-in_default-speak-clause-fails
returns-in_default-speak-clause-fails g c = λ q old up h e.
    let lines = c.args.lines.now in let at : ℕ = c.loop-at.at in let r = c.loop-at.rest in let i = c.loop-at.invariant in let Y : ℕ = c.in-Grow.bound in let n : ℕ = c.part_end.result in
    let p = r.closed.plan in let t = r.closed.table in let d = c.index-lines-at.result in let crew : ℕ = c.args.crew in
    let is = sym c.index-lines-at.is ∙ c.in-Grow.is in
    let part = take n (drop (at + 1) lines) in let rest = drop n (drop (at + 1) lines) in
    let whole = all-lines lines at n d Y c.loop-at-test.true is in
    let above = goes-above p.bound lines at d Y i.1 c.loop-at-test.true is in
    let X : ℕ = bound_after (limit (tensors_of p) Y) p.bound Y in
    let Knew : ℕ → Type 0 = λ k. has k (carried_of c.in-Ok.opened.board) ≡ true in
    let reply = growth_reply c.in-Ok.opened.growth in
    let mid = (g.W.Sink.state c.loop-at.out).taken in let new = g.W.Sink.state c.speak.new.out in
    let silent = subst (λ ls. FallsSilent (up_to X p) crew r.finished Knew reply ls mid new.taken) (part-slice lines (at + 1) n)
    (subst (λ b. FallsSilent b crew r.finished Knew reply (take (at + 1 + n - (at + 1)) (drop (at + 1) lines)) mid new.taken) c.in-Ok.ensures.plan c.in_default-speak.ensures.cut) in (
      subst (λ ls. CutShort (session_of q crew) q.bound ls old.taken new.taken) (sym whole)
          (cut-next q p crew r.finished t (take at lines) Y part rest old.taken mid (i.3 q old.taken h) (omega (arith, above.0)) Knew (λ k s. ap (has k) c.in-Ok.ensures.carried ∙ has_carried t k ∙ s)
          reply new.taken c.in-Ok.ensures.reply (subst (Rattle.ask_seats.specs.Asks.Rises q.bound) whole up) silent),
      subst (λ k. Rose k new.faults) (i.2 ∙ e) c.in_default-speak.ensures.cause.failed,
      subst (λ k. k ≤ new.faults) (i.2 ∙ e) c.in_default-speak.ensures.cause.later,
    )

pub loop-at-preserved : goal.loop-at-preserved
loop-at-preserved g c =
    let lines = c.args.lines.now in let at : ℕ = c.loop-at.at in let r = c.loop-at.rest in let i = c.loop-at.invariant in let Y : ℕ = c.in-Grow.bound in let n : ℕ = c.part_end.result in
    let p = r.closed.plan in let t = r.closed.table in let d = c.index-lines-at.result in let crew : ℕ = c.args.crew in
    let is = sym c.index-lines-at.is ∙ c.in-Grow.is in
    let part = take n (drop (at + 1) lines) in
    let above = goes-above p.bound lines at d Y i.1 c.loop-at-test.true is in
    let X : ℕ = bound_after (limit (tensors_of p) Y) p.bound Y in
    let Knew : ℕ → Type 0 = λ k. has k (carried_of c.in-Ok.opened.board) ≡ true in
    let reply = growth_reply c.in-Ok.opened.growth in
    let mid = (g.W.Sink.state c.loop-at.out).taken in let new = (g.W.Sink.state c.speak.new.out).taken in
    let e = c.in-Ok-speak.ensures in let u = c.in-Ok-speak.spoken in
    let same = e.plan ∙ c.in-Ok.ensures.plan in
    let slice = part-slice lines (at + 1) n in
    let next = next-lines lines at n d Y c.loop-at-test.true is in
    let within : n ≤ length (drop (at + 1) lines) = subst (λ l. n ≤ length l) (rest-slice lines (at + 1)) c.part_end.ensures.within in
    let speaks = subst (λ ls. Speaks (up_to X p) crew r.finished u.finished Knew (Carried u.closed.table) reply ls mid new) slice
    (subst (λ b. Speaks b crew r.finished u.finished Knew (Carried u.closed.table) reply (take (at + 1 + n - (at + 1)) (drop (at + 1) lines)) mid new) c.in-Ok.ensures.plan e.spoken) in (
      record {
        partial = subst (λ z. IsPartial z u.closed.table) (sym e.plan) e.table;
        resumes = subst (λ z. CanResume z u.closed.table) (sym e.plan) e.resumes;
        full = λ h. e.full (ap (ends_finished false) slice ∙ sym (ends-grow false (take at lines) part Y) ∙ ap (ends_finished false) (sym next) ∙ h) ∙ ap (λ (z : Planning). full_table (tensors_of z) z.bound) (sym e.plan);
        many = e.many ∙ c.in-Ok.ensures.many;
        receipts = e.receipts;
      },
      subst (λ (z : Planning). GoesOn z.bound lines (at + 1 + n)) (sym same)
          (goes-next p.bound X lines at n d Y i.1 c.loop-at-test.true is (grows-up (limit (tensors_of p) Y) p.bound Y (omega (arith, above.0))).1
          (subst (λ l. IsPart (take n l)) (rest-slice lines (at + 1)) c.part_end.ensures.part) (omega (arith, within, length-drop (at + 1) lines, c.loop-at-test.true))
          (λ low k. let there = subst (λ l. (z : ℕ) × (get_or l n k ≡ Grow z)) (rest-slice lines (at + 1)) (c.part_end.ensures.there (subst (λ l. n < length l) (sym (rest-slice lines (at + 1))) (omega (arith, low, length-drop (at + 1) lines))) k) in
          (there.0, sym (get_or-drop (at + 1) lines n k) ∙ there.1))),
      e.cause.kept ∙ i.2,
      λ q old h.
          subst (λ ls. Paused q u.closed.plan crew u.finished u.closed.table ls old new) (sym next)
          (subst (λ z. Paused q z crew u.finished u.closed.table (take at lines ++ (Grow Y ∷ part)) old new) (sym same)
          (paused-next q p crew r.finished t (take at lines) Y part (drop n (drop (at + 1) lines)) old mid (i.3 q old h) (omega (arith, above.0)) Knew (λ k s. ap (has k) c.in-Ok.ensures.carried ∙ has_carried t k ∙ s)
          u.finished u.closed.table reply new c.in-Ok.ensures.reply speaks)),
      λ q old h k.
          subst (λ ls. KeepsCarried q ls u.closed) (sym next)
          (keeps-grown q p crew r.finished t (take at lines) part Y old mid c.in-Ok.opened.board.base.carried.items u.closed (i.3 q old h) i.0.partial
          (subst (λ l. IsPart (take n l)) (rest-slice lines (at + 1)) c.part_end.ensures.part) c.in-Ok.ensures.carried e.first),
    )

pub returns-clause-spoken : goal.returns-clause-spoken
returns-clause-spoken g c = λ q old h k.
    let lines = c.args.lines.now in let at : ℕ = c.loop-at.at in let r = c.loop-at.rest in
    let last = subst (λ ls. Paused q r.closed.plan c.args.crew r.finished r.closed.table ls old (g.W.Sink.state c.loop-at.out).taken) (take_all at lines (omega (arith, c.loop-at-test.false))) (c.loop-at.invariant.3 q old h) in (
      last.tensors,
      bound-last q r.closed.plan c.args.crew r.finished r.closed.table lines old _ last,
      spoken-last q r.closed.plan c.args.crew r.finished r.closed.table lines old _ last,
      subst (λ ls. KeepsCarried q ls r.closed) (take_all at lines (omega (arith, c.loop-at-test.false))) (c.loop-at.invariant.4 q old h k),
    )
