use Rattle.ask_seats.proofs.Names.{◌≡◌, ◌⊎◌, inl, inr, ℕ, ◌<◌, ◌≤◌, ◌+◌, [], ◌∷◌, ◌++◌, List, take, length, get_or, arith, sym, ap, ◌∙◌, take_more, Line, Finish, replies_due}
use Rattle.ask_seats.proofs.SessionLemmas.{due-snoc}
use Rattle.ask_seats.proofs.lines.replies_to.Goals as goal

one-more : (lines : List Line) (i : ℕ) (line : Line) → i < length lines → line ≡ get_or lines i line → take (i + 1) lines ≡ take i lines ++ (line ∷ [])
one-more lines i line h is = take_more lines i line h ∙ ap (λ x. take i lines ++ (x ∷ [])) (sym is)

passes : (lines : List Line) (i n : ℕ) (line : Line) → i < length lines → line ≡ get_or lines i line → line ≡ Finish → n ≡ replies_due (take i lines) → n ≡ replies_due (take (i + 1) lines)
passes lines i n line h is e same = same ∙ sym (ap replies_due (one-more lines i line h is) ∙ by (due-snoc (take i lines) line))
  where
    by : ((line ≡ Finish) × (replies_due (take i lines ++ (line ∷ [])) ≡ replies_due (take i lines))) ⊎ ((line ≡ Finish → ⊥) × (replies_due (take i lines ++ (line ∷ [])) ≡ replies_due (take i lines) + 1)) → replies_due (take i lines ++ (line ∷ [])) ≡ replies_due (take i lines)
    by (inl x) = x.1
    by (inr x) = absurd (x.0 e)

counts : (lines : List Line) (i n : ℕ) (line : Line) → i < length lines → line ≡ get_or lines i line → (line ≡ Finish → ⊥) → n ≡ replies_due (take i lines) → n + 1 ≡ replies_due (take (i + 1) lines)
counts lines i n line h is e same = ap (λ k. k + 1) same ∙ sym (ap replies_due (one-more lines i line h is) ∙ by (due-snoc (take i lines) line))
  where
    by : ((line ≡ Finish) × (replies_due (take i lines ++ (line ∷ [])) ≡ replies_due (take i lines))) ⊎ ((line ≡ Finish → ⊥) × (replies_due (take i lines ++ (line ∷ [])) ≡ replies_due (take i lines) + 1)) → replies_due (take i lines ++ (line ∷ [])) ≡ replies_due (take i lines) + 1
    by (inl x) = absurd (e x.0)
    by (inr x) = x.1

pub loop-line-preserved-in-Finish : goal.loop-line-preserved-in-Finish
loop-line-preserved-in-Finish c = (
  passes c.args.lines.now c.loop-line.line-index c.loop-line.due c.line-item.result (omega (arith, c.loop-line-test.true)) c.line-item.is c.in-Finish.is c.loop-line.invariant.0,
  omega (arith, c.loop-line.invariant.1),
)

pub loop-line-preserved : goal.loop-line-preserved
loop-line-preserved c = (
  counts c.args.lines.now c.loop-line.line-index c.loop-line.due c.line-item.result (omega (arith, c.loop-line-test.true)) c.line-item.is (λ e. c.in_default.not-Finish e) c.loop-line.invariant.0,
  omega (arith, c.loop-line.invariant.1),
)
