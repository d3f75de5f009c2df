use Rattle.ask_seats.proofs.Names.{◌≡◌, ℕ, ◌<◌, ◌+◌, [], ◌∷◌, ◌++◌, take, length, arith, sym, ap, ◌∙◌, subst, take_more}
use Rattle.ask_seats.proofs.SessionLemmas.{NoGrow, no-grow-snoc, is-part}
use Rattle.ask_seats.proofs.lines.part_end.Goals as goal

pub loop-at-init : goal.loop-at-init
unfolding NoGrow
loop-at-init c = tt

pub returns-in-Grow-clause-part : goal.returns-in-Grow-clause-part
returns-in-Grow-clause-part c = is-part c.args.lines.now c.loop-at.at c.requires.once c.loop-at.invariant

pub loop-at-preserved : goal.loop-at-preserved
loop-at-preserved c =
    let lines = c.args.lines.now in let i : ℕ = c.loop-at.at in let line = c.index-lines-at.result in
    subst NoGrow (sym (take_more lines i line (omega (arith, c.loop-at-test.true)) ∙ ap (λ x. take i lines ++ (x ∷ [])) (sym c.index-lines-at.is)))
    (no-grow-snoc (take i lines) line c.loop-at.invariant (λ X e. c.in_default.not-Grow X e))

pub returns-clause-part : goal.returns-clause-part
returns-clause-part c =
    let end : c.loop-at.at ≡ length c.args.lines.now = omega (arith, c.loop-at-test.false, c.loop-at.auto.at-end) in
    is-part c.args.lines.now (length c.args.lines.now) c.requires.once (subst (λ n. NoGrow (take n c.args.lines.now)) end c.loop-at.invariant)
