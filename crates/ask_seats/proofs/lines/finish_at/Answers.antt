use Rattle.ask_seats.proofs.Names.{◌≡◌, ℕ, ◌<◌, ◌+◌, [], ◌∷◌, ◌++◌, List, take, length, get_or, arith, refl, sym, ap, ◌∙◌, subst, take_more, AreAsks, Line, Ask, Finish, Grow, IsPart}
use Rattle.ask_seats.proofs.SessionLemmas.{asks-snoc, part-at}
use Rattle.ask_seats.proofs.lines.finish_at.Goals as goal

-- one line more that is no `finish`
asks-more : (lines : List Line) (i : ℕ) (line : Line) → i < length lines → line ≡ get_or lines i line → IsPart lines → AreAsks (take i lines) → (line ≡ Finish → ⊥) → AreAsks (take (i + 1) lines)
asks-more lines i line h is part before other = subst AreAsks (sym (take_more lines i line h ∙ ap (λ x. take i lines ++ (x ∷ [])) (sym is))) (by line is other)
  where
    by : (x : Line) → x ≡ get_or lines i line → (x ≡ Finish → ⊥) → AreAsks (take i lines ++ (x ∷ []))
    by (Ask key) e n = asks-snoc (take i lines) key before
    by Finish e n = absurd (n refl)
    by (Grow X) e n = absurd (part-at lines i line X h part before (sym e))

pub loop-at-init : goal.loop-at-init
unfolding AreAsks
loop-at-init c = tt

pub loop-at-preserved : goal.loop-at-preserved
loop-at-preserved c =
    asks-more c.args.lines.now c.loop-at.at c.index-lines-at.result (omega (arith, c.loop-at-test.true)) c.index-lines-at.is c.requires.part c.loop-at.invariant (λ e. c.in_default.not-Finish e)
